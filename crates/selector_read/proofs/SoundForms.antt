-- The forms that are begun, and the tokens that they were begun by.
use Rattle.std.proofs.Common.{◌≡◌, ℕ, suc, ◌+◌, ◌<◌, ◌≤◌, Bool, true, false, List, [], ◌∷◌, ◌++◌, sym, ap, ◌∙◌, refl, subst, append_assoc, append-nil, arith, nat_le, if◌then◌else◌, pos, le_trans, le_of_eq, leb-true, leb-false}
use Rattle.selector_read.specs.declared.trees.MathOp.{MathOp}
use Rattle.selector_read.specs.declared.trees.MathOp.TheVariants.{Add, Sub, Mul, Div}
use Rattle.selector_tokens.specs.declared.tokens.Token.{Token}
use Rattle.selector_tokens.specs.declared.tokens.Token.TheVariants.{Word, Number, Compare, Plus, Minus, Times, Divide, Open, Close}
use Rattle.selector_tokens.specs.declared.tokens.Word.TheVariants as reserved
use Rattle.selector_read.specs.Trees.{Tree, int, between, math}
use Rattle.selector_read.specs.Grammar.{Derives, GoesOnWithin, negated_by, a_number, in_parentheses, or_more, and_more, negated, compared, within, added, subtracted, multiplied, divided, signed_plus, signed_minus}
use Rattle.selector_read.specs.Reading.{Begun, or_of, and_of, not_of, compare_of, low_of, high_of, math_of, minus_of, plus_of, paren, level, awaits, whole, awaited, nests, nesting, Held, settle}
use Rattle.selector_read.specs.Grammar.{math_level}
use Rattle.selector_read.proofs.SoundLevels.{raise, deeper}

abbrev pub math_token : MathOp → Token
math_token Add = Plus
math_token Sub = Minus
math_token Mul = Times
math_token Div = Divide

-- how many more forms may be nested around a form than in it
abbrev pub outer : Begun → ℕ → ℕ
outer (or_of a) d = d
outer (and_of a) d = d
outer not_of d = suc d
outer (compare_of op a) d = d
outer (low_of n a) d = d
outer (high_of n a b) d = d
outer (math_of op a) d = d
outer minus_of d = suc d
outer plus_of d = suc d
outer paren d = suc d

-- the level as which the whole form will stand
abbrev pub stands_as : Begun → ℕ
stands_as (low_of n a) = 4
stands_as paren = 8
stands_as f = level f

-- what a form that is begun has read: its left parts, of the right levels
abbrev pub Left : ℕ → Begun → List Token → Type 0
Left d (or_of a) ls = (us : List Token) × Derives 1 d us a × (ls ≡ us ++ Word reserved.Or ∷ [])
Left d (and_of a) ls = (us : List Token) × Derives 2 d us a × (ls ≡ us ++ Word reserved.And ∷ [])
Left d not_of ls = ls ≡ Word reserved.Not ∷ []
Left d (compare_of op a) ls = (us : List Token) × Derives 5 d us a × (ls ≡ us ++ Compare op ∷ [])
Left d (low_of n a) ls = (us : List Token) × Derives 5 d us a × (ls ≡ us ++ negated_by n ++ Word reserved.Between ∷ [])
Left d (high_of n a b) ls = (us vs : List Token) × Derives 5 d us a × Derives 5 d vs
    b × (ls ≡ us ++ negated_by n ++ Word reserved.Between ∷ vs ++ Word reserved.And ∷ [])
Left d (math_of op a) ls = (us : List Token) × Derives (math_level op) d us a × (ls ≡ us ++ math_token op ∷ [])
Left d minus_of ls = ls ≡ Minus ∷ []
Left d plus_of ls = ls ≡ Plus ∷ []
Left d paren ls = ls ≡ Open ∷ []

-- `Opened most d fs ts`: the tokens begin these forms, innermost first, in which d more may be nested
pub data Opened (most : ℕ) : ℕ → List Begun → List Token → Type 0 where
  outside : Opened most most [] []
  opened : (d : ℕ) (f : Begun) (fs : List Begun) (ts ls : List Token) → Opened most (outer f d) fs ts → Left d f ls
      → awaited fs ≤ stands_as f → Opened most d (f ∷ fs) (ts ++ ls)

-- ---- a form with its last part

one_part : (ls us vs : List Token) (o : Token) → ls ≡ us ++ o ∷ [] → us ++ o ∷ vs ≡ ls ++ vs
one_part ls us vs o is = sym (append_assoc us (o ∷ []) vs) ∙ ap (λ (l : List Token). l ++ vs) (sym is)

-- a sum or a product of two parts
math_whole : (op : MathOp) (d : ℕ) (us vs : List Token) (a e : Tree) → Derives (math_level op) d us a
    → Derives (suc (math_level op)) d vs e → Derives (math_level op) d (us ++ math_token op ∷ vs) (math op a e)
math_whole Add d us vs a e x y = added d us vs a e x y
math_whole Sub d us vs a e x y = subtracted d us vs a e x y
math_whole Mul d us vs a e x y = multiplied d us vs a e x y
math_whole Div d us vs a e x y = divided d us vs a e x y

between_parts : (n : Bool) (us vs ws : List Token)
    → us ++ negated_by n ++ Word reserved.Between ∷ vs
    ++ Word reserved.And ∷ ws ≡ (us ++ negated_by n ++ Word reserved.Between ∷ vs ++ Word reserved.And ∷ []) ++ ws
between_parts n us vs ws = sym (append_assoc (us ++ negated_by n ++ Word reserved.Between ∷ vs) (Word reserved.And ∷ [])
    ws)

pub made_whole : (d : ℕ) (f : Begun) (ls vs : List Token) (e : Tree) → Left d f ls → 1 ≤ level f
    → Derives (awaits f) d vs e → Derives (level f) (outer f d) (ls ++ vs) (whole f e)
made_whole d (or_of a) ls vs e left some x = subst (λ ts. Derives 1 d ts (whole (or_of a) e))
    (one_part ls left.0 vs _ left.2) (or_more d left.0 vs a e left.1 x)
made_whole d (and_of a) ls vs e left some x =
    subst (λ ts. Derives 2 d ts (whole (and_of a) e)) (one_part ls left.0 vs _ left.2)
    (and_more d left.0 vs a e left.1 x)
made_whole d not_of ls vs e left some x = subst (λ ts. Derives 3 (suc d) ts (whole not_of e))
    (ap (λ (l : List Token). l ++ vs) (sym left)) (negated d vs e x)
made_whole d (compare_of op a) ls vs e left some x =
    subst (λ ts. Derives 4 d ts (whole (compare_of op a) e)) (one_part ls left.0 vs _ left.2)
    (compared d op left.0 vs a e left.1 x)
made_whole d (low_of n a) ls vs e left some x = absurd (omega arith)
made_whole d (high_of n a b) ls vs e left some x =
    subst (λ ts. Derives 4 d ts (whole (high_of n a b) e))
    (between_parts n left.0 left.1 vs ∙ ap (λ (l : List Token). l ++ vs) (sym left.4))
    (within d n left.0 left.1 vs a b e left.2 left.3 x)
made_whole d (math_of op a) ls vs e left some x =
    subst (λ ts. Derives (math_level op) d ts (whole (math_of op a) e)) (one_part ls left.0 vs _ left.2)
    (math_whole op d left.0 vs a e left.1 x)
made_whole d minus_of ls vs e left some x = subst (λ ts. Derives 7 (suc d) ts (whole minus_of e))
    (ap (λ (l : List Token). l ++ vs) (sym left)) (signed_minus d vs e x)
made_whole d plus_of ls vs e left some x = subst (λ ts. Derives 7 (suc d) ts (whole plus_of e))
    (ap (λ (l : List Token). l ++ vs) (sym left)) (signed_plus d vs e x)
made_whole d paren ls vs e left some x = absurd (omega arith)

-- ---- what a level makes whole

-- the innermost form is of a lower level
abbrev pub Below : ℕ → List Begun → Type 0
Below l [] = 0 < l
Below l (f ∷ fs) = level f < l

-- an expression behind the forms that are begun, of level l at least
pub record Settled (most l : ℕ) (h : Held) (ws : List Token) : Type 0 where
  pub depth : ℕ
  pub own : ℕ
  pub front : List Token
  pub part : List Token
  pub opens : Opened most depth h.begun front
  pub derives : Derives own depth part h.tree
  pub fits : awaited h.begun ≤ own
  pub high : l ≤ own
  pub cut : front ++ part ≡ ws
  pub below : Below l h.begun

stands_level : (f : Begun) → 1 ≤ level f → stands_as f ≡ level f
stands_level (or_of a) some = refl
stands_level (and_of a) some = refl
stands_level not_of some = refl
stands_level (compare_of op a) some = refl
stands_level (low_of n a) some = absurd (omega arith)
stands_level (high_of n a b) some = refl
stands_level (math_of op a) some = refl
stands_level minus_of some = refl
stands_level plus_of some = refl
stands_level paren some = absurd (omega arith)

awaits_some : (f : Begun) → 1 ≤ awaits f
awaits_some (or_of a) = omega arith
awaits_some (and_of a) = omega arith
awaits_some not_of = omega arith
awaits_some (compare_of op a) = omega arith
awaits_some (low_of n a) = omega arith
awaits_some (high_of n a b) = omega arith
awaits_some (math_of op a) = omega arith
awaits_some minus_of = omega arith
awaits_some plus_of = omega arith
awaits_some paren = omega arith

pub settled : (most l m d : ℕ) (fs : List Begun) (e : Tree) (ts us : List Token) → 1 ≤ l → Opened most d fs ts
    → Derives m d us e → awaited fs ≤ m → l ≤ m → Settled most l (settle l fs e) (ts ++ us)
settled most l m d [] e ts us some opens x fits high =
    record {
      depth = d;
      own = m;
      front = ts;
      part = us;
      opens = opens;
      derives = x;
      fits = fits;
      high = high;
      cut = refl;
      below = some;
    }
settled most l m d (f ∷ fs) e ts us some (opened _ _ _ front ls opens left stands) x fits high =
    go (nat_le l (level f)) refl (λ le. settled most l (level f) (outer f d) fs (whole f e) front (ls ++ us) some opens
    (made_whole d f ls us e left (le_trans some le) (raise (awaits f) (awaits_some f) fits x))
    (le_trans stands (le_of_eq (stands_level f (le_trans some le)))) le)
  where
    go : (b : Bool) → nat_le l (level f) ≡ b → (l ≤ level f
        → Settled most l (settle l fs (whole f e)) (front ++ (ls ++ us)))
        → Settled most l (if b then settle l fs (whole f e) else record { begun = f ∷ fs; tree = e })
        (front ++ ls ++ us)
    go true is more = subst (Settled most l (settle l fs (whole f e))) (sym (append_assoc front ls us))
        (more (leb-true l (level f) is))
    go false is more = record {
      depth = d;
      own = m;
      front = front ++ ls;
      part = us;
      opens = opened d f fs front ls opens left stands;
      derives = x;
      fits = fits;
      high = high;
      cut = refl;
      below = leb-false l (level f) is;
    }

-- the forms that are begun count for the nesting
pub depth_left : (most d : ℕ) (fs : List Begun) (ts : List Token) → Opened most d fs ts → nesting fs + d ≡ most
depth_left most d [] ts outside = omega arith
depth_left most d (f ∷ fs) ts (opened _ _ _ front ls opens left stands) =
    outer_of f (depth_left most (outer f d) fs front opens)
  where
    outer_of : (f : Begun) → nesting fs + outer f d ≡ most → nests f + nesting fs + d ≡ most
    outer_of (or_of a) is = omega arith
    outer_of (and_of a) is = omega arith
    outer_of not_of is = omega arith
    outer_of (compare_of op a) is = omega arith
    outer_of (low_of n a) is = omega arith
    outer_of (high_of n a b) is = omega arith
    outer_of (math_of op a) is = omega arith
    outer_of minus_of is = omega arith
    outer_of plus_of is = omega arith
    outer_of paren is = omega arith

-- ---- selectors that go on from an expression

deeper_left : (d : ℕ) (f : Begun) (ls : List Token) → Left d f ls → Left (suc d) f ls
deeper_left d (or_of a) ls left = (left.0, deeper _ _ _ _ left.1, left.2)
deeper_left d (and_of a) ls left = (left.0, deeper _ _ _ _ left.1, left.2)
deeper_left d not_of ls left = left
deeper_left d (compare_of op a) ls left = (left.0, deeper _ _ _ _ left.1, left.2)
deeper_left d (low_of n a) ls left = (left.0, deeper _ _ _ _ left.1, left.2)
deeper_left d (high_of n a b) ls left = (left.0, left.1, deeper _ _ _ _ left.2, deeper _ _ _ _ left.3, left.4)
deeper_left d (math_of op a) ls left = (left.0, deeper _ _ _ _ left.1, left.2)
deeper_left d minus_of ls left = left
deeper_left d plus_of ls left = left
deeper_left d paren ls left = left

deeper_outer : (d : ℕ) (f : Begun) → suc (outer f d) ≡ outer f (suc d)
deeper_outer d (or_of a) = refl
deeper_outer d (and_of a) = refl
deeper_outer d not_of = refl
deeper_outer d (compare_of op a) = refl
deeper_outer d (low_of n a) = refl
deeper_outer d (high_of n a b) = refl
deeper_outer d (math_of op a) = refl
deeper_outer d minus_of = refl
deeper_outer d plus_of = refl
deeper_outer d paren = refl

-- the same with one more that may be nested
pub deeper_opened : (most d : ℕ) (fs : List Begun) (ts : List Token) → Opened most d fs ts
    → Opened (suc most) (suc d) fs ts
deeper_opened most d [] ts outside = outside
deeper_opened most d (f ∷ fs) ts (opened _ _ _ front ls opens left stands) =
    opened (suc d) f fs front ls (subst (λ n. Opened (suc most) n fs front) (deeper_outer d f)
    (deeper_opened most (outer f d) fs front opens)) (deeper_left d f ls left) stands

-- what ends a form that is begun, behind its next part
abbrev ending : Begun → List Token
ending (low_of n a) = Word reserved.And ∷ Number (pos 0) ∷ []
ending paren = Close ∷ []
ending f = []

abbrev ended_tree : Begun → Tree → Tree
ended_tree (low_of n a) e = between n a e (int (pos 0))
ended_tree f e = whole f e

-- a zero, of any level
zero_of : (m d : ℕ) → 1 ≤ m → m ≤ 8 → Derives m d (Number (pos 0) ∷ []) (int (pos 0))
zero_of m d some le = raise m some le (a_number d 0)

unended : (l d : ℕ) (ls vs : List Token) (e : Tree) → Derives l d (ls ++ vs) e → Derives l d (ls ++ (vs ++ [])) e
unended l d ls vs e x = subst (λ ts. Derives l d (ls ++ ts) e) (sym (append-nil vs)) x

between_ends : (n : Bool) (us vs ws : List Token)
    → us ++ negated_by n ++ Word reserved.Between ∷ vs ++ ws ≡ (us ++ negated_by n ++ Word reserved.Between ∷ [])
    ++ (vs ++ ws)
between_ends n us vs ws = append_assoc (us ++ negated_by n) (Word reserved.Between ∷ vs) ws
    ∙ sym (append_assoc (us ++ negated_by n) (Word reserved.Between ∷ []) (vs ++ ws))

ends : (d : ℕ) (f : Begun) (ls vs : List Token) (e : Tree) → Left d f ls → Derives (awaits f) d vs e
    → Derives (stands_as f) (outer f d) (ls ++ (vs ++ ending f)) (ended_tree f e)
ends d (or_of a) ls vs e left x = unended _ _ ls vs _ (made_whole d (or_of a) ls vs e left (omega arith) x)
ends d (and_of a) ls vs e left x = unended _ _ ls vs _ (made_whole d (and_of a) ls vs e left (omega arith) x)
ends d not_of ls vs e left x = unended _ _ ls vs _ (made_whole d not_of ls vs e left (omega arith) x)
ends d (compare_of op a) ls vs e left x = unended _ _ ls vs _
    (made_whole d (compare_of op a) ls vs e left (omega arith) x)
ends d (low_of n a) ls vs e left x =
    subst (λ ts. Derives 4 d ts (between n a e (int (pos 0))))
    (between_ends n left.0 vs (Word reserved.And ∷ Number (pos 0) ∷ [])
    ∙ ap (λ (l : List Token). l ++ (vs ++ Word reserved.And ∷ Number (pos 0) ∷ [])) (sym left.2))
    (within d n left.0 vs (Number (pos 0) ∷ []) a e (int (pos 0)) left.1 x (zero_of 5 d (omega arith) (omega arith)))
ends d (high_of n a b) ls vs e left x = unended _ _ ls vs _ (made_whole d (high_of n a b) ls vs e left (omega arith) x)
ends d (math_of op a) ls vs e left x = unended _ _ ls vs _ (made_whole d (math_of op a) ls vs e left (math_some op) x)
  where
    math_some : (op : MathOp) → 1 ≤ math_level op
    math_some Add = omega arith
    math_some Sub = omega arith
    math_some Mul = omega arith
    math_some Div = omega arith
ends d minus_of ls vs e left x = unended _ _ ls vs _ (made_whole d minus_of ls vs e left (omega arith) x)
ends d plus_of ls vs e left x = unended _ _ ls vs _ (made_whole d plus_of ls vs e left (omega arith) x)
ends d paren ls vs e left x = subst (λ l. Derives 8 (suc d) (l ++ (vs ++ Close ∷ [])) e) (sym left)
    (in_parentheses d vs e x)

-- what goes on begins with what goes on
pub shorter : (most : ℕ) (us vs : List Token) → GoesOnWithin most (us ++ vs) → GoesOnWithin most us
shorter most us vs on = (vs ++ on.0, on.1, subst (λ ts. Derives 1 most ts on.1) (append_assoc us vs on.0) on.2)

-- an expression, and the forms outside it, made whole
pub closes : (most m d : ℕ) (fs : List Begun) (e : Tree) (ts us : List Token) → Opened most d fs ts → Derives m d us e
    → awaited fs ≤ m → GoesOnWithin most (ts ++ us)
closes most m d [] e ts us outside x fits = (
  [],
  e,
  subst (λ vs. Derives 1 most vs e) (sym (append-nil us)) (raise 1 (omega arith) fits x),
)
closes most m d (f ∷ fs) e ts us (opened _ _ _ front ls opens left stands) x fits =
    let part : Derives (awaits f) d us e = raise (awaits f) (awaits_some f) fits x in
    let all : GoesOnWithin most (front ++ (ls ++ (us ++ ending f))) =
    closes most (stands_as f) (outer f d) fs (ended_tree f e) front (ls ++ (us ++ ending f)) opens
    (ends d f ls us e left part) stands in
    shorter most (front ++ ls ++ us) (ending f) (subst (GoesOnWithin most) regroup all)
  where
    regroup : front ++ (ls ++ (us ++ ending f)) ≡ front ++ ls ++ us ++ ending f
    regroup = simp append_assoc
