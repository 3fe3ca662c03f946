-- A form of one level stands for a form of each lower level, and within a wider limit of nesting.
use Rattle.std.proofs.Common.{◌≡◌, ℕ, zero, suc, ◌<◌, ◌≤◌, List, sym, subst, ◌⊎◌, inl, inr, arith, not-suc-le-zero, eq-or-lt_of_le, le_of_suc-le-suc}
use Rattle.selector_tokens.specs.declared.tokens.Token.{Token}
use Rattle.selector_read.specs.Trees.{Tree}
use Rattle.selector_read.specs.Grammar.{Derives, or_first, or_more, and_first, and_more, negated, unnegated, uncompared, compared, within, listed_in, alike, alike_escaped, null_or_not, sum_first, added, subtracted, product_first, multiplied, divided, signed_plus, signed_minus, unsigned, a_number, a_string, a_true, a_false, a_name, in_parentheses}

-- a form has one of eight levels
level_fits : (l d : ℕ) (ts : List Token) (t : Tree) → Derives l d ts t → l ≤ 8
level_fits l d ts t (or_first _ _ a x) = omega arith
level_fits l d ts t (or_more _ us vs a b x y) = omega arith
level_fits l d ts t (and_first _ _ a x) = omega arith
level_fits l d ts t (and_more _ us vs a b x y) = omega arith
level_fits l d ts t (negated _ us a x) = omega arith
level_fits l d ts t (unnegated _ _ a x) = omega arith
level_fits l d ts t (uncompared _ _ a x) = omega arith
level_fits l d ts t (compared _ op us vs a b x y) = omega arith
level_fits l d ts t (within _ n us vs ws a b c x y z) = omega arith
level_fits l d ts t (listed_in _ n x s ss) = omega arith
level_fits l d ts t (alike _ n x p) = omega arith
level_fits l d ts t (alike_escaped _ n x p e c is closed) = omega arith
level_fits l d ts t (null_or_not _ n x) = omega arith
level_fits l d ts t (sum_first _ _ a x) = omega arith
level_fits l d ts t (added _ us vs a b x y) = omega arith
level_fits l d ts t (subtracted _ us vs a b x y) = omega arith
level_fits l d ts t (product_first _ _ a x) = omega arith
level_fits l d ts t (multiplied _ us vs a b x y) = omega arith
level_fits l d ts t (divided _ us vs a b x y) = omega arith
level_fits l d ts t (signed_plus _ us a x) = omega arith
level_fits l d ts t (signed_minus _ us a x) = omega arith
level_fits l d ts t (unsigned _ _ a x) = omega arith
level_fits l d ts t (a_number _ n) = omega arith
level_fits l d ts t (a_string _ s) = omega arith
level_fits l d ts t (a_true _) = omega arith
level_fits l d ts t (a_false _) = omega arith
level_fits l d ts t (a_name _ x) = omega arith
level_fits l d ts t (in_parentheses _ us a x) = omega arith

-- one level lower
down : (l d : ℕ) (ts : List Token) (t : Tree) → Derives (suc (suc l)) d ts t → Derives (suc l) d ts t
down zero d ts t x = or_first d ts t x
down (suc zero) d ts t x = and_first d ts t x
down (suc (suc zero)) d ts t x = unnegated d ts t x
down (suc (suc (suc zero))) d ts t x = uncompared d ts t x
down (suc (suc (suc (suc zero)))) d ts t x = sum_first d ts t x
down (suc (suc (suc (suc (suc zero))))) d ts t x = product_first d ts t x
down (suc (suc (suc (suc (suc (suc zero)))))) d ts t x = unsigned d ts t x
down (suc (suc (suc (suc (suc (suc (suc l))))))) d ts t x = absurd (not_high (level_fits _ d ts t x))
  where
    not_high : suc (suc (suc (suc (suc (suc (suc (suc (suc l)))))))) ≤ 8 → ⊥
    not_high le = omega arith

-- a form stands for each lower level
raise_more : (l m d : ℕ) (ts : List Token) (t : Tree) → m < l → Derives l d ts t → Derives (suc m) d ts t
raise_more zero m d ts t le x = absurd (not-suc-le-zero le)
raise_more (suc zero) m d ts t le x = subst (λ n. Derives n d ts t) same x
  where
    same : 1 ≡ suc m
    same = omega arith
raise_more (suc (suc l)) m d ts t le x = go (λ less. raise_more (suc l) m d ts t less (down l d ts t x))
    (eq-or-lt_of_le (le_of_suc-le-suc le))
  where
    go : ((m < suc l) → Derives (suc m) d ts t) → (m ≡ suc l) ⊎ (m < suc l) → Derives (suc m) d ts t
    go lower (inl same) = subst (λ n. Derives (suc n) d ts t) (sym same) x
    go lower (inr less) = lower less

pub raise : {l : ℕ} (m : ℕ) {d : ℕ} {ts : List Token} {t : Tree} → 1 ≤ m → m ≤ l → Derives l d ts t → Derives m d ts t
raise zero some le x = absurd (not-suc-le-zero some)
raise {l} (suc m) {d} {ts} {t} some le x = raise_more l m d ts t le x

-- and may stand where one more may be nested
pub deeper : (l d : ℕ) (ts : List Token) (t : Tree) → Derives l d ts t → Derives l (suc d) ts t
deeper l d ts t (or_first _ _ a x) = or_first (suc d) ts a (deeper 2 d ts a x)
deeper l d ts t (or_more _ us vs a b x y) = or_more (suc d) us vs a b (deeper 1 d us a x) (deeper 2 d vs b y)
deeper l d ts t (and_first _ _ a x) = and_first (suc d) ts a (deeper 3 d ts a x)
deeper l d ts t (and_more _ us vs a b x y) = and_more (suc d) us vs a b (deeper 2 d us a x) (deeper 3 d vs b y)
deeper l d ts t (negated k us a x) = negated (suc k) us a (deeper 3 k us a x)
deeper l d ts t (unnegated _ _ a x) = unnegated (suc d) ts a (deeper 4 d ts a x)
deeper l d ts t (uncompared _ _ a x) = uncompared (suc d) ts a (deeper 5 d ts a x)
deeper l d ts t (compared _ op us vs a b x y) = compared (suc d) op us vs a b (deeper 5 d us a x) (deeper 5 d vs b y)
deeper l d ts t (within _ n us vs ws a b c x y z) =
    within (suc d) n us vs ws a b c (deeper 5 d us a x) (deeper 5 d vs b y) (deeper 5 d ws c z)
deeper l d ts t (listed_in k n x s ss) = listed_in (suc k) n x s ss
deeper l d ts t (alike _ n x p) = alike (suc d) n x p
deeper l d ts t (alike_escaped _ n x p e c is closed) = alike_escaped (suc d) n x p e c is closed
deeper l d ts t (null_or_not _ n x) = null_or_not (suc d) n x
deeper l d ts t (sum_first _ _ a x) = sum_first (suc d) ts a (deeper 6 d ts a x)
deeper l d ts t (added _ us vs a b x y) = added (suc d) us vs a b (deeper 5 d us a x) (deeper 6 d vs b y)
deeper l d ts t (subtracted _ us vs a b x y) = subtracted (suc d) us vs a b (deeper 5 d us a x) (deeper 6 d vs b y)
deeper l d ts t (product_first _ _ a x) = product_first (suc d) ts a (deeper 7 d ts a x)
deeper l d ts t (multiplied _ us vs a b x y) = multiplied (suc d) us vs a b (deeper 6 d us a x) (deeper 7 d vs b y)
deeper l d ts t (divided _ us vs a b x y) = divided (suc d) us vs a b (deeper 6 d us a x) (deeper 7 d vs b y)
deeper l d ts t (signed_plus k us a x) = signed_plus (suc k) us a (deeper 7 k us a x)
deeper l d ts t (signed_minus k us a x) = signed_minus (suc k) us a (deeper 7 k us a x)
deeper l d ts t (unsigned _ _ a x) = unsigned (suc d) ts a (deeper 8 d ts a x)
deeper l d ts t (a_number _ n) = a_number (suc d) n
deeper l d ts t (a_string _ s) = a_string (suc d) s
deeper l d ts t (a_true _) = a_true (suc d)
deeper l d ts t (a_false _) = a_false (suc d)
deeper l d ts t (a_name _ x) = a_name (suc d) x
deeper l d ts t (in_parentheses k us a x) = in_parentheses (suc k) us a (deeper 1 k us a x)
