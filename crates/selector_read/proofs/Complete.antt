-- What the grammar derives is read: the tokens of a form lead to a state that holds its tree.
use Rattle.std.proofs.Common.{◌≡◌, ℕ, ◌+◌, ◌<◌, ◌≤◌, Bool, true, false, List, [], ◌∷◌, ◌++◌, Some, None, nat_le, chars, refl, sym, ap, ◌∙◌, subst, append-nil, append_assoc, arith, ◌&&◌, le-leb, leb-true, encode_utf8_all, pos}
use Rattle.std.proofs.lemmas.Bool.{lt-ltb}
use Rattle.std.specs.Prelude.{if◌then◌else◌}
use lib.Utf8.{scalars}
use Rattle.std.specs.Char.{encode_utf8}
use Rattle.std.proofs.lemmas.Str.{chars-encodes, is_utf8-from_IsUtf8}
use Rattle.selector_read.specs.declared.trees.MathOp.TheVariants.{Add, Sub, Mul, Div}
use Rattle.selector_tokens.specs.declared.tokens.Token.{Token}
use Rattle.selector_tokens.specs.declared.tokens.Token.TheVariants.{Name, Word, Number, Text, Compare, Plus, Minus, Times, Divide, Open, Close}
use Rattle.selector_tokens.specs.declared.tokens.Word.TheVariants as reserved
use Rattle.selector_read.specs.Trees.{Tree, int, text, truth, name, one_of, like, is_null, between}
use Rattle.selector_read.specs.Grammar.{negated_by, listed, IsCharacter, characters, is_whole_pattern, Derives, or_first, or_more, and_first, and_more, negated, unnegated, uncompared, compared, within, listed_in, alike, alike_escaped, null_or_not, sum_first, added, subtracted, product_first, multiplied, divided, signed_plus, signed_minus, unsigned, a_number, a_string, a_true, a_false, a_name, in_parentheses}
use Rattle.selector_read.specs.Reading.{Begun, or_of, and_of, not_of, compare_of, low_of, high_of, math_of, minus_of, plus_of, paren, level, whole, nesting, awaited, operand, named, valued, list_next, item_next, pattern_read, State, state, goes, too_deep, open_pattern, only_of, only_character, escaped, begins, step, start, finished}
use Rattle.selector_read.proofs.Runs.{after_step, run}
use Rattle.selector_read.proofs.CompleteSteps as steps
use Rattle.selector_read.proofs.CompleteSteps.{run_none, run_first, run_on, Ends, lowered, closes, ends_value, plus_behind, minus_behind, times_behind, divide_behind, compare_behind, between_behind, not_between_behind, and_behind, or_behind, high_behind, close_behind, finished_behind}

-- the tokens, read inside the forms fs, are a form of level l that stands for the tree
abbrev Has : ℕ → ℕ → List Begun → List Token → Tree → Type 0
Has most l fs ts a = (s : State) × (run most (state fs operand) ts ≡ goes s) × Ends l fs a s

lower : (most l k : ℕ) (fs : List Begun) (ts : List Token) (a : Tree) → Has most l fs ts a → k ≤ l → Has most k fs ts a
lower most l k fs ts a h low = (h.0, h.1, lowered l k fs a h.0 h.2 low)

-- ---- forms that count for the nesting

begins_goes : (most : ℕ) (f : Begun) (fs : List Begun) → nesting fs < most
    → begins most f fs ≡ goes (state (f ∷ fs) operand)
begins_goes most f fs h = rw (lt-ltb (nesting fs) most h) refl

-- the form f begins with the token t, and its last part is the rest
prefixed : (most l : ℕ) (f : Begun) (fs : List Begun) (t : Token) (ts : List Token) (a : Tree)
    → step most (state fs operand) t ≡ goes (state (f ∷ fs) operand) → l ≤ level f → Has most l (f ∷ fs) ts a
    → Has most l fs (t ∷ ts) (whole f a)
prefixed most l f fs t ts a here low h = (
  h.0,
  run_first most (state fs operand) (state (f ∷ fs) operand) h.0 t ts here h.1,
  closes l l f fs a h.0 h.2 (omega arith) low,
)

-- ---- two parts with tokens between them

-- the form f begins behind its first part, with the token t, and its last part is the rest
joined : (most l r k : ℕ) (f : Begun) (fs : List Begun) (ts us : List Token) (t : Token) (a b : Tree)
    → (h : Has most l fs ts a) → step most h.0 t ≡ goes (state (f ∷ fs) operand) → k ≤ r → k ≤ level f
    → Has most r (f ∷ fs) us b
    → Has most k fs (ts ++ t ∷ us) (whole f b)
joined most l r k f fs ts us t a b h there low high g =
    let rest = run_first most h.0 (state (f ∷ fs) operand) g.0 t us there g.1 in
    (g.0, run_on most ts (t ∷ us) (state fs operand) h.0 g.0 h.1 rest, closes r k f fs b g.0 g.2 low high)

-- ---- names

name_ends_by : (most : ℕ) (fs : List Begun) (x : List ℕ) (free : Bool) → nat_le (awaited fs) 4 ≡ free
    → Has most 8 fs (Name x ∷ []) (name x)
unfolding run step
name_ends_by most fs x true is =
    let holds = steps.a_name fs x (leb-true (awaited fs) 4 is) in (
      state fs (named x),
      ap (λ b. goes (state fs (if b then named x else valued (name x) 8))) is,
      record { value = name x; rank = 8; holds = holds; sum = λ h. omega arith; settles = λ k low. refl },
    )
name_ends_by most fs x false is = (
  state fs (valued (name x) 8),
  ap (λ b. goes (state fs (if b then named x else valued (name x) 8))) is,
  ends_value 8 8 fs (name x) (λ h. h),
)

name_goes : (most : ℕ) (fs : List Begun) (x : List ℕ) → awaited fs ≤ 4
    → step most (state fs operand) (Name x) ≡ goes (state fs (named x))
unfolding step
name_goes most fs x h = rw (le-leb (awaited fs) 4 h) refl

-- ---- lists of strings

items_read : (most : ℕ) (fs : List Begun) (n : Bool) (x : List ℕ) (list : List (List ℕ)) (s : List ℕ)
    (ss : List (List ℕ))
    → run most (state fs (item_next n x list)) (listed s ss ++ Close ∷ [])
    ≡ goes (state fs (valued (one_of n x (list ++ s ∷ ss)) 4))
unfolding run step
items_read most fs n x list s [] = refl
items_read most fs n x list s (u ∷ us) = items_read most fs n x (list ++ s ∷ []) u us
    ∙ ap (λ all. goes (state fs (valued (one_of n x all) 4))) (append_assoc list (s ∷ []) (u ∷ us))

list_read : (most : ℕ) (fs : List Begun) (n : Bool) (x s : List ℕ) (ss : List (List ℕ)) → nesting fs < most
    → run most (state fs (list_next n x)) (Open ∷ listed s ss ++ Close ∷ [])
    ≡ goes (state fs (valued (one_of n x (s ∷ ss)) 4))
unfolding run step
list_read most fs n x s ss h =
    ap (λ b. after_step (λ next. run most next (listed s ss ++ Close ∷ []))
    (if b then goes (state fs (item_next n x [])) else too_deep)) (lt-ltb (nesting fs) most h)
    ∙ items_read most fs n x [] s ss

in_read : (most : ℕ) (fs : List Begun) (n : Bool) (x s : List ℕ) (ss : List (List ℕ)) → nesting fs < most
    → run most (state fs (named x)) (negated_by n ++ Word reserved.In ∷ Open ∷ listed s ss ++ Close ∷ [])
    ≡ goes (state fs (valued (one_of n x (s ∷ ss)) 4))
unfolding run step
in_read most fs true x s ss h = list_read most fs true x s ss h
in_read most fs false x s ss h = list_read most fs false x s ss h

-- ---- patterns

-- a string that is one character is taken for it
pub only_character_is : (e : List ℕ) (c : ℕ) → IsCharacter e c → only_character e ≡ Some c
unfolding only_character characters
only_character_is e c is =
    let scalar : scalars (c ∷ []) ≡ true = ap (λ b. b && true) is.0 in
    let spelt : encode_utf8_all (c ∷ []) ≡ e = append-nil (encode_utf8 c) ∙ sym is.1 in
    let alone : chars e ≡ c ∷ [] = subst (λ bytes. chars bytes ≡ c ∷ []) spelt (chars-encodes (c ∷ []) scalar) in
    ap only_of (ap (λ b. if b then chars e else []) (is_utf8-from_IsUtf8 e (c ∷ [], (scalar, spelt))) ∙ alone)

escape_read : (most : ℕ) (fs : List Begun) (n : Bool) (x p e : List ℕ) (c : ℕ) → IsCharacter e c
    → is_whole_pattern c p ≡ true
    → run most (state fs (pattern_read n x p)) (Word reserved.Escape ∷ Text e ∷ [])
    ≡ goes (state fs (valued (like n x p (Some c)) 4))
unfolding run step
escape_read most fs n x p e c is whole =
    ap (λ o. after_step goes (escaped fs n x p o)) (only_character_is e c is)
    ∙ ap (λ b. after_step goes (if b then goes (state fs (valued (like n x p (Some c)) 4)) else open_pattern)) whole

like_read : (most : ℕ) (fs : List Begun) (n : Bool) (x p : List ℕ)
    → run most (state fs (named x)) (negated_by n ++ Word reserved.Like ∷ Text p ∷ [])
    ≡ goes (state fs (pattern_read n x p))
unfolding run step
like_read most fs true x p = refl
like_read most fs false x p = refl

like_escape_read : (most : ℕ) (fs : List Begun) (n : Bool) (x p e : List ℕ) (c : ℕ) → IsCharacter e c
    → is_whole_pattern c p ≡ true
    → run most (state fs (named x)) (negated_by n ++ Word reserved.Like ∷ Text p ∷ Word reserved.Escape ∷ Text e ∷ [])
    ≡ goes (state fs (valued (like n x p (Some c)) 4))
unfolding run step
like_escape_read most fs true x p e c is whole = escape_read most fs true x p e c is whole
like_escape_read most fs false x p e c is whole = escape_read most fs false x p e c is whole

null_read : (most : ℕ) (fs : List Begun) (n : Bool) (x : List ℕ)
    → run most (state fs (named x)) (Word reserved.Is ∷ negated_by n ++ Word reserved.Null ∷ [])
    ≡ goes (state fs (valued (is_null n x) 4))
unfolding run step
null_read most fs true x = refl
null_read most fs false x = refl

-- what a name and the tokens behind it lead to
behind_name : (most : ℕ) (fs : List Begun) (x : List ℕ) (ts : List Token) (a : Tree) → awaited fs ≤ 4
    → run most (state fs (named x)) ts ≡ goes (state fs (valued a 4)) → Has most 4 fs (Name x ∷ ts) a
behind_name most fs x ts a w h =
    let end = state fs (valued a 4) in (
      end,
      run_first most (state fs operand) (state fs (named x)) end (Name x) ts (name_goes most fs x w) h,
      ends_value 4 4 fs a (λ five. five),
    )

like_has : (most : ℕ) (fs : List Begun) (n : Bool) (x p : List ℕ) → awaited fs ≤ 4
    → Has most 4 fs (Name x ∷ negated_by n ++ Word reserved.Like ∷ Text p ∷ []) (like n x p None)
like_has most fs n x p w =
    let end = state fs (pattern_read n x p) in
    let rest = negated_by n ++ Word reserved.Like ∷ Text p ∷ [] in
    let holds = steps.a_pattern fs n x p in (
      end,
      run_first most (state fs operand) (state fs (named x)) end (Name x) rest (name_goes most fs x w) (like_read most fs n x p),
      record { value = like n x p None; rank = 4; holds = holds; sum = λ five. five; settles = λ k low. refl },
    )

-- ---- BETWEEN

between_opens : (most : ℕ) (n : Bool) (fs : List Begun) (a : Tree) (s : State) → Ends 5 fs a s → awaited fs ≤ 4
    → run most s (negated_by n ++ Word reserved.Between ∷ []) ≡ goes (state (low_of n a ∷ fs) operand)
unfolding run
between_opens most true fs a s e w = not_between_behind most fs a s e w
between_opens most false fs a s e w =
    let low = state (low_of false a ∷ fs) operand in
    run_first most s low low (Word reserved.Between) [] (between_behind most fs a s e w) refl

regrouped : (n : Bool) (ts us : List Token)
    → (ts ++ (negated_by n ++ Word reserved.Between ∷ [])) ++ us ≡ ts ++ negated_by n ++ Word reserved.Between ∷ us
regrouped n ts us = simp append_assoc

between_has : (most : ℕ) (n : Bool) (fs : List Begun) (ts us vs : List Token) (a b c : Tree) → awaited fs ≤ 4
    → Has most 5 fs ts a → Has most 5 (low_of n a ∷ fs) us b → Has most 5 (high_of n a b ∷ fs) vs c
    → Has most 4 fs (ts ++ negated_by n ++ Word reserved.Between ∷ us ++ Word reserved.And ∷ vs) (between n a b c)
between_has most n fs ts us vs a b c w f g h =
    let first = state fs operand in
    let low = state (low_of n a ∷ fs) operand in
    let high = state (high_of n a b ∷ fs) operand in
    let word = negated_by n ++ Word reserved.Between ∷ [] in
    let one : run most first (ts ++ word) ≡ goes low =
    run_on most ts word first f.0 low f.1 (between_opens most n fs a f.0 f.2 w) in
    let two : run most first ((ts ++ word) ++ us) ≡ goes g.0 = run_on most (ts ++ word) us first low g.0 one g.1 in
    let last : run most g.0 (Word reserved.And ∷ vs) ≡ goes h.0 =
    run_first most g.0 high h.0 (Word reserved.And) vs (high_behind most fs n a b g.0 g.2) h.1 in
    let three : run most first (((ts ++ word) ++ us) ++ Word reserved.And ∷ vs) ≡ goes h.0 =
    run_on most ((ts ++ word) ++ us) (Word reserved.And ∷ vs) first g.0 h.0 two last in (
      h.0,
      subst (λ front. run most first (front ++ Word reserved.And ∷ vs) ≡ goes h.0) (regrouped n ts us) three,
      closes 5 4 (high_of n a b) fs c h.0 h.2 (omega arith) (omega arith),
    )

-- ---- all forms

paren_has : (most : ℕ) (fs : List Begun) (ts : List Token) (a : Tree) → nesting fs < most
    → Has most 1 (paren ∷ fs) ts a → Has most 8 fs (Open ∷ ts ++ Close ∷ []) a
unfolding step
paren_has most fs ts a n h =
    let inner = state (paren ∷ fs) operand in
    let end = state fs (valued a 8) in
    let last : run most h.0 (Close ∷ []) ≡ goes end =
    run_first most h.0 end end Close [] (close_behind most fs a h.0 h.2) (run_none most end) in
    let rest : run most inner (ts ++ Close ∷ []) ≡ goes end = run_on most ts (Close ∷ []) inner h.0 end h.1 last in (
      end,
      run_first most (state fs operand) inner end Open (ts ++ Close ∷ []) (begins_goes most paren fs n) rest,
      ends_value 8 8 fs a (λ five. omega arith),
    )

-- one token that is a value
value_has : (most : ℕ) (fs : List Begun) (t : Token) (a : Tree)
    → step most (state fs operand) t ≡ goes (state fs (valued a 8)) → Has most 8 fs (t ∷ []) a
value_has most fs t a h =
    let end = state fs (valued a 8) in
    (end, run_first most (state fs operand) end end t [] h (run_none most end), ends_value 8 8 fs a (λ five. omega arith))

-- NOT and the signs
sign_has : (most l : ℕ) (f : Begun) (fs : List Begun) (t : Token) (ts : List Token) (a : Tree)
    → step most (state fs operand) t ≡ begins most f fs → nesting fs < most → l ≤ level f → Has most l (f ∷ fs) ts a
    → Has most l fs (t ∷ ts) (whole f a)
sign_has most l f fs t ts a is n low h = prefixed most l f fs t ts a (is ∙ begins_goes most f fs n) low h

not_goes : (most : ℕ) (fs : List Begun) → awaited fs ≤ 3
    → step most (state fs operand) (Word reserved.Not) ≡ begins most not_of fs
unfolding step
not_goes most fs w = rw (le-leb (awaited fs) 3 w) refl

plus_goes : (most : ℕ) (fs : List Begun) → step most (state fs operand) Plus ≡ begins most plus_of fs
unfolding step
plus_goes most fs = refl

minus_goes : (most : ℕ) (fs : List Begun) → step most (state fs operand) Minus ≡ begins most minus_of fs
unfolding step
minus_goes most fs = refl

atom_goes : (most : ℕ) (fs : List Begun)
    → ((n : ℕ) → step most (state fs operand) (Number (pos n)) ≡ goes (state fs (valued (int (pos n)) 8)))
    × ((s : List ℕ) → step most (state fs operand) (Text s) ≡ goes (state fs (valued (text s) 8)))
    × (step most (state fs operand) (Word reserved.True) ≡ goes (state fs (valued (truth true) 8)))
    × (step most (state fs operand) (Word reserved.False) ≡ goes (state fs (valued (truth false) 8)))
unfolding step
atom_goes most fs = (λ n. refl, λ s. refl, refl, refl)

pub form_read : (most : ℕ) {l d : ℕ} {ts : List Token} {a : Tree} → Derives l d ts a → (fs : List Begun)
    → awaited fs ≤ l → nesting fs + d ≤ most → Has most l fs ts a
form_read most (or_first d ts a p) fs w n = lower most 2 1 fs ts a (form_read most p fs (omega arith) n) (omega arith)
form_read most (or_more d ts us a b p q) fs w n =
    let h = form_read most p fs w n in
    joined most 1 2 1 (or_of a) fs ts us (Word reserved.Or) a b h (or_behind most fs a h.0 h.2 w) (omega arith)
    (omega arith) (form_read most q (or_of a ∷ fs) (omega arith) (omega arith))
form_read most (and_first d ts a p) fs w n = lower most 3 2 fs ts a (form_read most p fs (omega arith) n) (omega arith)
form_read most (and_more d ts us a b p q) fs w n =
    let h = form_read most p fs w n in
    joined most 2 3 2 (and_of a) fs ts us (Word reserved.And) a b h (and_behind most fs a h.0 h.2 w) (omega arith)
    (omega arith) (form_read most q (and_of a ∷ fs) (omega arith) (omega arith))
form_read most (negated d ts a p) fs w n =
    sign_has most 3 not_of fs (Word reserved.Not) ts a (not_goes most fs w) (omega arith) (omega arith)
    (form_read most p (not_of ∷ fs) (omega arith) (omega arith))
form_read most (unnegated d ts a p) fs w n = lower most 4 3 fs ts a (form_read most p fs (omega arith) n) (omega arith)
form_read most (uncompared d ts a p) fs w n = lower most 5 4 fs ts a (form_read most p fs (omega arith) n) (omega arith)
form_read most (compared d op ts us a b p q) fs w n =
    let h = form_read most p fs (omega arith) n in
    joined most 5 5 4 (compare_of op a) fs ts us (Compare op) a b h (compare_behind most fs a h.0 op h.2 w)
    (omega arith) (omega arith) (form_read most q (compare_of op a ∷ fs) (omega arith) (omega arith))
form_read most (within d m ts us vs a b c p q r) fs w n =
    between_has most m fs ts us vs a b c w (form_read most p fs (omega arith) n)
    (form_read most q (low_of m a ∷ fs) (omega arith) (omega arith))
    (form_read most r (high_of m a b ∷ fs) (omega arith) (omega arith))
form_read most (listed_in d m x s ss) fs w n =
    behind_name most fs x _ (one_of m x (s ∷ ss)) w (in_read most fs m x s ss (omega arith))
form_read most (alike d m x p) fs w n = like_has most fs m x p w
form_read most (alike_escaped d m x p e c is whole) fs w n =
    behind_name most fs x _ (like m x p (Some c)) w (like_escape_read most fs m x p e c is whole)
form_read most (null_or_not d m x) fs w n = behind_name most fs x _ (is_null m x) w (null_read most fs m x)
form_read most (sum_first d ts a p) fs w n = lower most 6 5 fs ts a (form_read most p fs (omega arith) n) (omega arith)
form_read most (added d ts us a b p q) fs w n =
    let h = form_read most p fs w n in
    joined most 5 6 5 (math_of Add a) fs ts us Plus a b h (plus_behind most fs a h.0 h.2 w) (omega arith) (omega arith)
    (form_read most q (math_of Add a ∷ fs) (omega arith) (omega arith))
form_read most (subtracted d ts us a b p q) fs w n =
    let h = form_read most p fs w n in
    joined most 5 6 5 (math_of Sub a) fs ts us Minus a b h (minus_behind most fs a h.0 h.2 w) (omega arith)
    (omega arith) (form_read most q (math_of Sub a ∷ fs) (omega arith) (omega arith))
form_read most (product_first d ts a p) fs w n =
    lower most 7 6 fs ts a (form_read most p fs (omega arith) n) (omega arith)
form_read most (multiplied d ts us a b p q) fs w n =
    let h = form_read most p fs w n in
    joined most 6 7 6 (math_of Mul a) fs ts us Times a b h (times_behind most fs a h.0 h.2 w) (omega arith)
    (omega arith) (form_read most q (math_of Mul a ∷ fs) (omega arith) (omega arith))
form_read most (divided d ts us a b p q) fs w n =
    let h = form_read most p fs w n in
    joined most 6 7 6 (math_of Div a) fs ts us Divide a b h (divide_behind most fs a h.0 h.2 w) (omega arith)
    (omega arith) (form_read most q (math_of Div a ∷ fs) (omega arith) (omega arith))
form_read most (signed_plus d ts a p) fs w n =
    sign_has most 7 plus_of fs Plus ts a (plus_goes most fs) (omega arith) (omega arith)
    (form_read most p (plus_of ∷ fs) (omega arith) (omega arith))
form_read most (signed_minus d ts a p) fs w n =
    sign_has most 7 minus_of fs Minus ts a (minus_goes most fs) (omega arith) (omega arith)
    (form_read most p (minus_of ∷ fs) (omega arith) (omega arith))
form_read most (unsigned d ts a p) fs w n = lower most 8 7 fs ts a (form_read most p fs (omega arith) n) (omega arith)
form_read most (a_number d m) fs w n = value_has most fs (Number (pos m)) (int (pos m)) ((atom_goes most fs).0 m)
form_read most (a_string d s) fs w n = value_has most fs (Text s) (text s) ((atom_goes most fs).1 s)
form_read most (a_true d) fs w n = value_has most fs (Word reserved.True) (truth true) (atom_goes most fs).2
form_read most (a_false d) fs w n = value_has most fs (Word reserved.False) (truth false) (atom_goes most fs).3
form_read most (a_name d x) fs w n = name_ends_by most fs x (nat_le (awaited fs) 4) refl
form_read most (in_parentheses d ts a p) fs w n =
    paren_has most fs ts a (omega arith) (form_read most p (paren ∷ fs) (omega arith) (omega arith))

-- what the grammar derives within a limit is read within it, as the same tree
pub complete : (d : ℕ) (ts : List Token) (t : Tree) → Derives 1 d ts t
    → (s : State) × (run d start ts ≡ goes s) × (finished s ≡ Some t)
complete d ts t p = let h = form_read d p [] (omega arith) (omega arith) in (h.0, h.1, finished_behind t h.0 h.2)
