-- The tokens of a tree with as few parentheses as its text has, and that they derive the tree wherever any tokens do.
use Rattle.std.proofs.Common.{◌≡◌, ℕ, zero, suc, ◌+◌, ◌<◌, ◌≤◌, Bool, true, false, List, [], ◌∷◌, ◌++◌, Some, None, refl, sym, subst, arith, inl, inr}
use Rattle.std.specs.Prelude.{pos, Option, nat_lt, encode_utf8, if◌then◌else◌}
use Rattle.std.proofs.lemmas.Bool.{cases_lt, lt-ltb, le-ltb}
use Rattle.selector_read.specs.declared.trees.MathOp.{MathOp}
use Rattle.selector_read.specs.declared.trees.MathOp.TheVariants.{Add, Sub, Mul, Div}
use Rattle.selector_tokens.specs.declared.tokens.Token.{Token}
use Rattle.selector_tokens.specs.declared.tokens.Token.TheVariants.{Name, Word, Number, Text, Compare, Plus, Minus, Times, Divide, Open, Close}
use Rattle.selector_tokens.specs.declared.tokens.Word.TheVariants as reserved
use Rattle.selector_read.specs.Trees.{Tree, int, text, truth, name, minus, plus, math, compare, between, one_of, like, is_null, negation, both, either}
use Rattle.selector_read.specs.Grammar.{Derives, negated_by, listed, or_first, or_more, and_first, and_more, negated, unnegated, uncompared, compared, within, listed_in, alike, alike_escaped, null_or_not, sum_first, added, subtracted, product_first, multiplied, divided, signed_plus, signed_minus, unsigned, a_number, a_string, a_true, a_false, a_name, in_parentheses}
use Rattle.selector_read.specs.Writing.{level_of}
use Rattle.selector_read.specs.Grammar.{math_level}

abbrev pub enclosed_tokens : ℕ → ℕ → List Token → List Token
enclosed_tokens asked own ts = if nat_lt own asked then Open ∷ ts ++ Close ∷ [] else ts

abbrev pub math_token : MathOp → Token
math_token Add = Plus
math_token Sub = Minus
math_token Mul = Times
math_token Div = Divide

abbrev pub truth_token : Bool → Token
truth_token true = Word reserved.True
truth_token false = Word reserved.False

abbrev pub list_tokens : List (List ℕ) → List Token
list_tokens [] = []
list_tokens (s ∷ ss) = listed s ss

abbrev pub escape_tokens : Option ℕ → List Token
escape_tokens None = []
escape_tokens (Some c) = Word reserved.Escape ∷ Text (encode_utf8 c) ∷ []

-- the tokens of a tree at a place that asks for a level
abbrev pub tokens_at : ℕ → Tree → List Token
tokens_at l (int n) = enclosed_tokens l 8 (Number n ∷ [])
tokens_at l (text s) = enclosed_tokens l 8 (Text s ∷ [])
tokens_at l (truth b) = enclosed_tokens l 8 (truth_token b ∷ [])
tokens_at l (name x) = enclosed_tokens l 8 (Name x ∷ [])
tokens_at l (minus a) = enclosed_tokens l 7 (Minus ∷ tokens_at 7 a)
tokens_at l (plus a) = enclosed_tokens l 7 (Plus ∷ tokens_at 7 a)
tokens_at l (math op a b) = enclosed_tokens l (math_level op) (tokens_at (math_level op) a ++ math_token op ∷ tokens_at (math_level op + 1) b)
tokens_at l (compare op a b) = enclosed_tokens l 4 (tokens_at 5 a ++ Compare op ∷ tokens_at 5 b)
tokens_at l (between n a b c) = enclosed_tokens l 4 (tokens_at 5 a ++ negated_by n ++ Word reserved.Between ∷ tokens_at 5 b ++ Word reserved.And ∷ tokens_at 5 c)
tokens_at l (one_of n x list) = enclosed_tokens l 4 (Name x ∷ negated_by n ++ Word reserved.In ∷ Open ∷ list_tokens list ++ Close ∷ [])
tokens_at l (like n x p e) = enclosed_tokens l 4 (Name x ∷ negated_by n ++ Word reserved.Like ∷ Text p ∷ escape_tokens e)
tokens_at l (is_null n x) = enclosed_tokens l 4 (Name x ∷ Word reserved.Is ∷ negated_by n ++ Word reserved.Null ∷ [])
tokens_at l (negation a) = enclosed_tokens l 3 (Word reserved.Not ∷ tokens_at 3 a)
tokens_at l (both a b) = enclosed_tokens l 2 (tokens_at 2 a ++ Word reserved.And ∷ tokens_at 3 b)
tokens_at l (either a b) = enclosed_tokens l 1 (tokens_at 1 a ++ Word reserved.Or ∷ tokens_at 2 b)

-- ---- levels

pub level_high : (t : Tree) → level_of t ≤ 8
level_high (int n) = omega arith
level_high (text s) = omega arith
level_high (truth b) = omega arith
level_high (name x) = omega arith
level_high (minus a) = omega arith
level_high (plus a) = omega arith
level_high (math Add a b) = omega arith
level_high (math Sub a b) = omega arith
level_high (math Mul a b) = omega arith
level_high (math Div a b) = omega arith
level_high (compare op a b) = omega arith
level_high (between n a b c) = omega arith
level_high (one_of n x list) = omega arith
level_high (like n x p e) = omega arith
level_high (is_null n x) = omega arith
level_high (negation a) = omega arith
level_high (both a b) = omega arith
level_high (either a b) = omega arith

-- the tokens at a place are those without parentheses, and these around them where they are asked for
pub tokens_enclosed : (l : ℕ) (t : Tree) → tokens_at l t ≡ enclosed_tokens l (level_of t) (tokens_at 1 t)
tokens_enclosed l (int n) = refl
tokens_enclosed l (text s) = refl
tokens_enclosed l (truth b) = refl
tokens_enclosed l (name x) = refl
tokens_enclosed l (minus a) = refl
tokens_enclosed l (plus a) = refl
tokens_enclosed l (math Add a b) = refl
tokens_enclosed l (math Sub a b) = refl
tokens_enclosed l (math Mul a b) = refl
tokens_enclosed l (math Div a b) = refl
tokens_enclosed l (compare op a b) = refl
tokens_enclosed l (between n a b c) = refl
tokens_enclosed l (one_of n x list) = refl
tokens_enclosed l (like n x p e) = refl
tokens_enclosed l (is_null n x) = refl
tokens_enclosed l (negation a) = refl
tokens_enclosed l (both a b) = refl
tokens_enclosed l (either a b) = refl

tokens_bare : (l : ℕ) (t : Tree) → l ≤ level_of t → tokens_at l t ≡ tokens_at 1 t
tokens_bare l t h = rw (tokens_enclosed l t, le-ltb _ _ h)

tokens_in_parentheses : (l : ℕ) (t : Tree) → level_of t < l → tokens_at l t ≡ Open ∷ tokens_at 1 t ++ Close ∷ []
tokens_in_parentheses l t h = rw (tokens_enclosed l t, lt-ltb _ _ h)

-- ---- derivations

-- a form is also one of each looser level
down : (l d : ℕ) (ts : List Token) (t : Tree) → Derives (suc l) d ts t → 1 ≤ l → l ≤ 7 → Derives l d ts t
down zero d ts t h low high = absurd (omega arith)
down (suc zero) d ts t h low high = or_first d ts t h
down (suc (suc zero)) d ts t h low high = and_first d ts t h
down (suc (suc (suc zero))) d ts t h low high = unnegated d ts t h
down (suc (suc (suc (suc zero)))) d ts t h low high = uncompared d ts t h
down (suc (suc (suc (suc (suc zero))))) d ts t h low high = sum_first d ts t h
down (suc (suc (suc (suc (suc (suc zero)))))) d ts t h low high = product_first d ts t h
down (suc (suc (suc (suc (suc (suc (suc zero))))))) d ts t h low high = unsigned d ts t h
down (suc (suc (suc (suc (suc (suc (suc (suc l)))))))) d ts t h low high = absurd (omega arith)

pub looser : (l k d : ℕ) (ts : List Token) (t : Tree) → Derives l d ts t → l ≤ 8 → 1 ≤ k → k ≤ l → Derives k d ts t
looser zero k d ts t h high low le = absurd (omega arith)
looser (suc l) k d ts t h high low le =
    elim (cases_lt k (suc l)) [
      | inl lt ↦ looser l k d ts t (down l d ts t h (omega arith) (omega arith)) (omega arith) low (omega arith)
      | inr ge ↦ let e : suc l ≡ k = omega arith in subst (λ (n : ℕ). Derives n d ts t) e h
    ]

-- where more parentheses, NOTs and signs may be unfinished
pub deeper : {l d : ℕ} {ts : List Token} {t : Tree} → Derives l d ts t → Derives l (suc d) ts t
deeper (or_first d ts a h) = or_first (suc d) ts a (deeper h)
deeper (or_more d ts us a b h k) = or_more (suc d) ts us a b (deeper h) (deeper k)
deeper (and_first d ts a h) = and_first (suc d) ts a (deeper h)
deeper (and_more d ts us a b h k) = and_more (suc d) ts us a b (deeper h) (deeper k)
deeper (negated d ts a h) = negated (suc d) ts a (deeper h)
deeper (unnegated d ts a h) = unnegated (suc d) ts a (deeper h)
deeper (uncompared d ts a h) = uncompared (suc d) ts a (deeper h)
deeper (compared d op ts us a b h k) = compared (suc d) op ts us a b (deeper h) (deeper k)
deeper (within d n ts us vs a b c h k m) = within (suc d) n ts us vs a b c (deeper h) (deeper k) (deeper m)
deeper (listed_in d n x s ss) = listed_in (suc d) n x s ss
deeper (alike d n x p) = alike (suc d) n x p
deeper (alike_escaped d n x p e c is closed) = alike_escaped (suc d) n x p e c is closed
deeper (null_or_not d n x) = null_or_not (suc d) n x
deeper (sum_first d ts a h) = sum_first (suc d) ts a (deeper h)
deeper (added d ts us a b h k) = added (suc d) ts us a b (deeper h) (deeper k)
deeper (subtracted d ts us a b h k) = subtracted (suc d) ts us a b (deeper h) (deeper k)
deeper (product_first d ts a h) = product_first (suc d) ts a (deeper h)
deeper (multiplied d ts us a b h k) = multiplied (suc d) ts us a b (deeper h) (deeper k)
deeper (divided d ts us a b h k) = divided (suc d) ts us a b (deeper h) (deeper k)
deeper (signed_plus d ts a h) = signed_plus (suc d) ts a (deeper h)
deeper (signed_minus d ts a h) = signed_minus (suc d) ts a (deeper h)
deeper (unsigned d ts a h) = unsigned (suc d) ts a (deeper h)
deeper (a_number d n) = a_number (suc d) n
deeper (a_string d s) = a_string (suc d) s
deeper (a_true d) = a_true (suc d)
deeper (a_false d) = a_false (suc d)
deeper (a_name d x) = a_name (suc d) x
deeper (in_parentheses d ts a h) = in_parentheses (suc d) ts a (deeper h)

-- the fewest tokens derive the tree by itself, and at each place that asks for no more than a level
record Written (l d : ℕ) (t : Tree) : Type 0 where
  bare : Derives (level_of t) d (tokens_at 1 t) t
  placed : (k : ℕ) → 1 ≤ k → k ≤ l → Derives k d (tokens_at k t) t

-- a form of its own level needs no parentheses at places that ask for no more
bare_written : (d : ℕ) (t : Tree) → Derives (level_of t) d (tokens_at 1 t) t → Written (level_of t) d t
bare_written d t h = record {
  bare = h;
  placed = λ k low le. subst (λ (ts : List Token). Derives k d ts t) (sym (tokens_bare k t le)) (looser (level_of t) k d (tokens_at 1 t) t h (level_high t) low le);
}

-- one level is looser than the next
loosened : (l d : ℕ) (t : Tree) → Written (suc l) d t → Written l d t
loosened l d t w = record { bare = w.bare; placed = λ k low le. w.placed k low (omega arith) }

-- a tree that some tokens derive in parentheses may have them or not
parenthesised : (d : ℕ) (t : Tree) → Written 1 d t → Written 8 (suc d) t
parenthesised d t w = record {
  bare = deeper w.bare;
  placed = λ k low le. elim (cases_lt (level_of t) k) [
    | inl lt ↦ subst (λ (ts : List Token). Derives k (suc d) ts t) (sym (tokens_in_parentheses k t lt))
        (looser 8 k (suc d) (Open ∷ tokens_at 1 t ++ Close ∷ []) t (in_parentheses d (tokens_at 1 t) t (w.placed 1 (omega arith) (omega arith))) (omega arith) low le)
    | inr ge ↦ subst (λ (ts : List Token). Derives k (suc d) ts t) (sym (tokens_bare k t ge))
        (looser (level_of t) k (suc d) (tokens_at 1 t) t (deeper w.bare) (level_high t) low ge)
  ];
}

at : (k l d : ℕ) (t : Tree) → Written l d t → 1 ≤ k → k ≤ l → Derives k d (tokens_at k t) t
at k l d t w low le = w.placed k low le

written : {l d : ℕ} {ts : List Token} {t : Tree} → Derives l d ts t → Written l d t
written (or_first d ts a h) = loosened 1 d a (written h)
written (or_more d ts us a b h k) =
    bare_written d (either a b) (or_more d _ _ a b (at 1 1 d a (written h) (omega arith) (omega arith)) (at 2 2 d b (written k) (omega arith) (omega arith)))
written (and_first d ts a h) = loosened 2 d a (written h)
written (and_more d ts us a b h k) =
    bare_written d (both a b) (and_more d _ _ a b (at 2 2 d a (written h) (omega arith) (omega arith)) (at 3 3 d b (written k) (omega arith) (omega arith)))
written (negated d ts a h) = bare_written (suc d) (negation a) (negated d _ a (at 3 3 d a (written h) (omega arith) (omega arith)))
written (unnegated d ts a h) = loosened 3 d a (written h)
written (uncompared d ts a h) = loosened 4 d a (written h)
written (compared d op ts us a b h k) =
    bare_written d (compare op a b) (compared d op _ _ a b (at 5 5 d a (written h) (omega arith) (omega arith)) (at 5 5 d b (written k) (omega arith) (omega arith)))
written (within d n ts us vs a b c h k m) =
    bare_written d (between n a b c) (within d n _ _ _ a b c (at 5 5 d a (written h) (omega arith) (omega arith)) (at 5 5 d b (written k) (omega arith) (omega arith)) (at 5 5 d c (written m) (omega arith) (omega arith)))
written (listed_in d n x s ss) = bare_written (suc d) (one_of n x (s ∷ ss)) (listed_in d n x s ss)
written (alike d n x p) = bare_written d (like n x p None) (alike d n x p)
written (alike_escaped d n x p e c is closed) = bare_written d (like n x p (Some c)) (alike_escaped d n x p (encode_utf8 c) c (is.0, refl) closed)
written (null_or_not d n x) = bare_written d (is_null n x) (null_or_not d n x)
written (sum_first d ts a h) = loosened 5 d a (written h)
written (added d ts us a b h k) =
    bare_written d (math Add a b) (added d _ _ a b (at 5 5 d a (written h) (omega arith) (omega arith)) (at 6 6 d b (written k) (omega arith) (omega arith)))
written (subtracted d ts us a b h k) =
    bare_written d (math Sub a b) (subtracted d _ _ a b (at 5 5 d a (written h) (omega arith) (omega arith)) (at 6 6 d b (written k) (omega arith) (omega arith)))
written (product_first d ts a h) = loosened 6 d a (written h)
written (multiplied d ts us a b h k) =
    bare_written d (math Mul a b) (multiplied d _ _ a b (at 6 6 d a (written h) (omega arith) (omega arith)) (at 7 7 d b (written k) (omega arith) (omega arith)))
written (divided d ts us a b h k) =
    bare_written d (math Div a b) (divided d _ _ a b (at 6 6 d a (written h) (omega arith) (omega arith)) (at 7 7 d b (written k) (omega arith) (omega arith)))
written (signed_plus d ts a h) = bare_written (suc d) (plus a) (signed_plus d _ a (at 7 7 d a (written h) (omega arith) (omega arith)))
written (signed_minus d ts a h) = bare_written (suc d) (minus a) (signed_minus d _ a (at 7 7 d a (written h) (omega arith) (omega arith)))
written (unsigned d ts a h) = loosened 7 d a (written h)
written (a_number d n) = bare_written d (int (pos n)) (a_number d n)
written (a_string d s) = bare_written d (text s) (a_string d s)
written (a_true d) = bare_written d (truth true) (a_true d)
written (a_false d) = bare_written d (truth false) (a_false d)
written (a_name d x) = bare_written d (name x) (a_name d x)
written (in_parentheses d ts a h) = parenthesised d a (written h)

-- where any tokens derive a tree, the fewest do
pub fewest_derive : (d : ℕ) (ts : List Token) (t : Tree) → Derives 1 d ts t → Derives 1 d (tokens_at 1 t) t
fewest_derive d ts t h = (written h).placed 1 (omega arith) (omega arith)
