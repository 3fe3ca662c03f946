-- What the tokens so far are, in each mode.
use Rattle.std.proofs.Common.{◌≡◌, ℕ, zero, suc, ◌<◌, ◌≤◌, Bool, true, false, List, [], ◌∷◌, ◌++◌, sym, ap, ◌∙◌, refl, subst, ◌⊎◌, inl, inr, append_assoc, append-nil, arith, nat_le, nat_lt, if◌then◌else◌, pos, negsuc, le_trans, leb-true, ltb-true, Some}
use Rattle.std.specs.Prelude.{⊤}
use Rattle.selector_read.specs.declared.trees.MathOp.{MathOp}
use Rattle.selector_read.specs.declared.trees.MathOp.TheVariants.{Add, Sub, Mul, Div}
use Rattle.selector_tokens.specs.declared.tokens.Token.{Token}
use Rattle.selector_tokens.specs.declared.tokens.CompareOp.{CompareOp}
use Rattle.selector_tokens.specs.declared.tokens.Token.TheVariants.{Name, Word, Number, Text, Compare, Plus, Minus, Open, Comma}
use Rattle.selector_tokens.specs.declared.tokens.Word.TheVariants as reserved
use Rattle.selector_read.specs.Trees.{Tree, int, text, truth, name}
use Rattle.selector_read.specs.Grammar.{Derives, negated_by, listed, a_number, a_string, a_true, a_false, a_name}
use Rattle.selector_read.specs.Reading.{Begun, or_of, and_of, not_of, compare_of, low_of, high_of, math_of, minus_of, plus_of, paren, awaited, nesting, Held, Mode, operand, named, valued, not_value, not_name, null_next, list_next, item_next, item_read, pattern_next, pattern_read, escape_next, State, state, Step, goes, unexpected, too_deep, open_pattern, begins, sum_only, math_step, compare_step, operand_step, only_character}
use Rattle.selector_read.specs.Grammar.{math_level}
use Rattle.selector_read.proofs.SoundLevels.{raise}
use Rattle.selector_read.proofs.SoundForms.{math_token, outer, stands_as, Left, Opened, opened, Below, Settled, depth_left}

-- a text's numbers are not negative
abbrev pub Plain : Token → Type 0
Plain (Number (pos n)) = ⊤
Plain (Number (negsuc n)) = ⊥
Plain other = ⊤

-- strings of which each has a comma behind it
abbrev pub items : List (List ℕ) → List Token
items [] = []
items (s ∷ ss) = Text s ∷ Comma ∷ items ss

-- the tokens behind those that begin forms, where d more may be nested
abbrev pub Inner : ℕ → List Begun → Mode → List Token → Type 0
Inner d fs operand us = us ≡ []
Inner d fs (named x) us = (awaited fs ≤ 4) × (us ≡ Name x ∷ [])
Inner d fs (valued e l) us = ((l ≡ 4) ⊎ (l ≡ 8)) × Derives l d us e × (awaited fs ≤ l)
Inner d fs (not_value e) us = (vs : List Token) × Derives 5 d vs
    e × (awaited fs ≤ 4) × (us ≡ vs ++ Word reserved.Not ∷ [])
Inner d fs (not_name x) us = (awaited fs ≤ 4) × (us ≡ Name x ∷ Word reserved.Not ∷ [])
Inner d fs (null_next n x) us = (awaited fs ≤ 4) × (us ≡ Name x ∷ Word reserved.Is ∷ negated_by n)
Inner d fs (list_next n x) us = (awaited fs ≤ 4) × (us ≡ Name x ∷ negated_by n ++ Word reserved.In ∷ [])
Inner d fs (item_next n x list) us = (k : ℕ) × (d ≡ suc k) × (awaited fs ≤ 4) ×
    (us ≡ Name x ∷ negated_by n ++ Word reserved.In ∷ Open ∷ items list)
Inner d fs (item_read n x list) us = (k : ℕ) × (s : List ℕ) × (ss : List (List ℕ)) × (list ≡ s ∷ ss) × (d ≡ suc k) ×
    (awaited fs ≤ 4) × (us ≡ Name x ∷ negated_by n ++ Word reserved.In ∷ Open ∷ listed s ss)
Inner d fs (pattern_next n x) us = (awaited fs ≤ 4) × (us ≡ Name x ∷ negated_by n ++ Word reserved.Like ∷ [])
Inner d fs (pattern_read n x p) us = (awaited fs ≤ 4) × (us ≡ Name x ∷ negated_by n ++ Word reserved.Like ∷ Text p ∷ [])
Inner d fs (escape_next n x p) us = (awaited fs ≤ 4) ×
    (us ≡ Name x ∷ negated_by n ++ Word reserved.Like ∷ Text p ∷ Word reserved.Escape ∷ [])

-- the tokens lead to the state
pub record Stands (most : ℕ) (s : State) (ws : List Token) : Type 0 where
  pub depth : ℕ
  pub front : List Token
  pub part : List Token
  pub opens : Opened most depth s.begun front
  pub inner : Inner depth s.begun s.mode part
  pub cut : front ++ part ≡ ws

-- where a step goes on, and where it finds an open pattern
abbrev pub OnStep : Type 0 → (State → Type 0) → Step → Type 0
OnStep Q P (goes s) = P s
OnStep Q P unexpected = ⊤
OnStep Q P too_deep = ⊤
OnStep Q P open_pattern = Q

-- a step that finds no open pattern
abbrev pub OnGoes : (State → Type 0) → Step → Type 0
OnGoes P one = OnStep ⊥ P one

-- an open pattern is found only at the string behind ESCAPE, where that is one character
abbrev pub OpenAt : Mode → Token → Type 0
OpenAt (escape_next n x p) t = (e : List ℕ) × (c : ℕ) × (t ≡ Text e) × (only_character e ≡ Some c)
OpenAt other t = ⊥

-- what the tokens and one more lead to
abbrev pub Leads : ℕ → List Token → List Token → Token → Step → Type 0
Leads most ts us t = OnGoes (λ s. Stands most s (ts ++ us ++ t ∷ []))

-- ---- the parts of a step

pub if_unexpected : (P : State → Type 0) (b : Bool) (s : Step) → (b ≡ true → OnGoes P s)
    → OnGoes P (if b then s else unexpected)
if_unexpected P true s on = on refl
if_unexpected P false s on = tt

pub if_too_deep : (P : State → Type 0) (b : Bool) (s : Step) → (b ≡ true → OnGoes P s)
    → OnGoes P (if b then s else too_deep)
if_too_deep P true s on = on refl
if_too_deep P false s on = tt

pub on_sum : (P : State → Type 0) (l : ℕ) (s : Step) → (l ≡ 4) ⊎ (l ≡ 8) → (l ≡ 8 → OnGoes P s)
    → OnGoes P (sum_only l s)
on_sum P l s (inl is) on = rw is tt
on_sum P l s (inr is) on = if_unexpected P (nat_le 5 l) s (λ _. on is)

-- one more may be nested
pub room : (most d : ℕ) (fs : List Begun) (ts : List Token) → Opened most d fs ts → nesting fs < most
    → (k : ℕ) × (d ≡ suc k)
room most zero fs ts opens less = absurd (omega (arith, depth_left most zero fs ts opens))
room most (suc k) fs ts opens less = (k, refl)

last_one : (ts us : List Token) (t : Token) → ts ++ (us ++ t ∷ []) ++ [] ≡ ts ++ us ++ t ∷ []
last_one ts us t = append-nil (ts ++ (us ++ t ∷ [])) ∙ sym (append_assoc ts us (t ∷ []))

-- a form is begun
pub begun_by : (most d : ℕ) (f : Begun) (fs : List Begun) (ts us : List Token) (t : Token)
    → Opened most (outer f d) fs ts → Left d f (us ++ t ∷ []) → awaited fs ≤ stands_as f
    → Stands most (state (f ∷ fs) operand) (ts ++ us ++ t ∷ [])
begun_by most d f fs ts us t opens left stands =
    record {
      depth = d;
      front = ts ++ (us ++ t ∷ []);
      part = [];
      opens = opened d f fs ts (us ++ t ∷ []) opens left stands;
      inner = refl;
      cut = last_one ts us t;
    }

-- the mode changes, and no form is begun
pub turns : (most d : ℕ) (fs : List Begun) (m : Mode) (ts us : List Token) (t : Token) → Opened most d fs ts
    → Inner d fs m (us ++ t ∷ []) → Stands most (state fs m) (ts ++ us ++ t ∷ [])
turns most d fs m ts us t opens inner = record {
  depth = d;
  front = ts;
  part = us ++ t ∷ [];
  opens = opens;
  inner = inner;
  cut = sym (append_assoc ts us (t ∷ []));
}

-- ---- an operand

begins_keeps : (most d : ℕ) (f : Begun) (fs : List Begun) (ts : List Token) (t : Token) → ((k : ℕ) → outer f k ≡ suc k)
    → ((k : ℕ) → Left k f (t ∷ [])) → awaited fs ≤ stands_as f → Opened most d fs ts
    → Leads most ts [] t (begins most f fs)
begins_keeps most d f fs ts t nests left stands opens =
    if_too_deep _ (nat_lt (nesting fs) most) _ (λ is. go (room most d fs ts opens (ltb-true _ _ is)))
  where
    go : (k : ℕ) × (d ≡ suc k) → Stands most (state (f ∷ fs) operand) (ts ++ [] ++ t ∷ [])
    go one = begun_by most one.0 f fs ts [] t (subst (λ n. Opened most n fs ts) (one.1 ∙ sym (nests one.0)) opens)
        (left one.0) stands

pub awaits_most : (fs : List Begun) → awaited fs ≤ 7
awaits_most [] = omega arith
awaits_most (or_of a ∷ fs) = omega arith
awaits_most (and_of a ∷ fs) = omega arith
awaits_most (not_of ∷ fs) = omega arith
awaits_most (compare_of op a ∷ fs) = omega arith
awaits_most (low_of n a ∷ fs) = omega arith
awaits_most (high_of n a b ∷ fs) = omega arith
awaits_most (math_of Add a ∷ fs) = omega arith
awaits_most (math_of Sub a ∷ fs) = omega arith
awaits_most (math_of Mul a ∷ fs) = omega arith
awaits_most (math_of Div a ∷ fs) = omega arith
awaits_most (minus_of ∷ fs) = omega arith
awaits_most (plus_of ∷ fs) = omega arith
awaits_most (paren ∷ fs) = omega arith

pub primary : (most d : ℕ) (fs : List Begun) (e : Tree) (ts : List Token) (t : Token) → Opened most d fs ts
    → Derives 8 d (t ∷ []) e → Stands most (state fs (valued e 8)) (ts ++ [] ++ t ∷ [])
primary most d fs e ts t opens x = turns most d fs (valued e 8) ts [] t opens
    (inr refl, x, le_trans (awaits_most fs) (omega arith))

named_or_valued : (most d : ℕ) (fs : List Begun) (x : List ℕ) (ts : List Token) (b : Bool) → nat_le (awaited fs) 4 ≡ b
    → Opened most d fs ts → Stands most (state fs (if b then named x else valued (name x) 8)) (ts ++ [] ++ Name x ∷ [])
named_or_valued most d fs x ts true is opens = turns most d fs (named x) ts [] (Name x) opens (leb-true _ _ is, refl)
named_or_valued most d fs x ts false is opens = primary most d fs (name x) ts (Name x) opens (a_name d x)

pub operand_keeps : (most d : ℕ) (fs : List Begun) (ts : List Token) (t : Token) → Plain t → Opened most d fs ts
    → Leads most ts [] t (operand_step most fs t)
operand_keeps most d fs ts (Word reserved.Not) plain opens =
    if_unexpected _ (nat_le (awaited fs) 3) _
    (λ is. begins_keeps most d not_of fs ts _ (λ k. refl) (λ k. refl) (leb-true _ _ is) opens)
operand_keeps most d fs ts Plus plain opens =
    begins_keeps most d plus_of fs ts _ (λ k. refl) (λ k. refl) (awaits_most fs) opens
operand_keeps most d fs ts Minus plain opens =
    begins_keeps most d minus_of fs ts _ (λ k. refl) (λ k. refl) (awaits_most fs) opens
operand_keeps most d fs ts Open plain opens =
    begins_keeps most d paren fs ts _ (λ k. refl) (λ k. refl) (le_trans (awaits_most fs) (omega arith)) opens
operand_keeps most d fs ts (Number (pos n)) plain opens = primary most d fs (int (pos n)) ts _ opens (a_number d n)
operand_keeps most d fs ts (Number (negsuc n)) plain opens = absurd plain
operand_keeps most d fs ts (Text s) plain opens = primary most d fs (text s) ts _ opens (a_string d s)
operand_keeps most d fs ts (Word reserved.True) plain opens = primary most d fs (truth true) ts _ opens (a_true d)
operand_keeps most d fs ts (Word reserved.False) plain opens = primary most d fs (truth false) ts _ opens (a_false d)
operand_keeps most d fs ts (Name x) plain opens = named_or_valued most d fs x ts (nat_le (awaited fs) 4) refl opens
operand_keeps most d fs ts other plain opens = tt

-- ---- behind an expression

below_awaits : (l : ℕ) (fs : List Begun) → 5 ≤ l → Below l fs → awaited fs ≤ l
below_awaits l [] five less = omega arith
below_awaits l (or_of a ∷ fs) five less = omega arith
below_awaits l (and_of a ∷ fs) five less = omega arith
below_awaits l (not_of ∷ fs) five less = omega arith
below_awaits l (compare_of op a ∷ fs) five less = omega arith
below_awaits l (low_of n a ∷ fs) five less = omega arith
below_awaits l (high_of n a b ∷ fs) five less = omega arith
below_awaits l (math_of op a ∷ fs) five less = omega arith
below_awaits l (minus_of ∷ fs) five less = omega arith
below_awaits l (plus_of ∷ fs) five less = omega arith
below_awaits l (paren ∷ fs) five less = omega arith

-- the expression that the tokens before are, at a level
pub cut_again : (most : ℕ) (s : State) (front part ws : List Token) (t : Token) → front ++ part ≡ ws
    → Stands most s (front ++ part ++ t ∷ []) → Stands most s (ws ++ t ∷ [])
cut_again most s front part ws t cut at = subst (λ vs. Stands most s (vs ++ t ∷ [])) cut at

pub math_keeps : (most : ℕ) (op : MathOp) (h : Held) (ws : List Token) → 5 ≤ math_level op
    → Settled most (math_level op) h ws → OnGoes (λ s. Stands most s (ws ++ math_token op ∷ [])) (math_step op h)
math_keeps most op h ws five at =
    cut_again most _ at.front at.part ws _ at.cut
    (begun_by most at.depth (math_of op h.tree) h.begun at.front at.part (math_token op) at.opens
    (at.part, raise (math_level op) (le_trans (omega arith) five) at.high at.derives, refl)
    (below_awaits (math_level op) h.begun five at.below))

pub compare_keeps : (most : ℕ) (op : CompareOp) (h : Held) (ws : List Token) → Settled most 5 h ws
    → OnGoes (λ s. Stands most s (ws ++ Compare op ∷ []))
    (compare_step h (state (compare_of op h.tree ∷ h.begun) operand))
compare_keeps most op h ws at = if_unexpected _ (nat_le (awaited h.begun) 4) _ (λ is.
    cut_again most _ at.front at.part ws _ at.cut
    (begun_by most at.depth (compare_of op h.tree) h.begun at.front at.part (Compare op) at.opens
    (at.part, raise 5 (omega arith) at.high at.derives, refl) (leb-true _ _ is)))

pub between_keeps : (most : ℕ) (h : Held) (ws : List Token) → Settled most 5 h ws
    → OnGoes (λ s. Stands most s (ws ++ Word reserved.Between ∷ []))
    (compare_step h (state (low_of false h.tree ∷ h.begun) operand))
between_keeps most h ws at = if_unexpected _ (nat_le (awaited h.begun) 4) _ (λ is.
    cut_again most _ at.front at.part ws _ at.cut
    (begun_by most at.depth (low_of false h.tree) h.begun at.front at.part _ at.opens (
      at.part,
      raise 5 (omega arith) at.high at.derives,
      ap (λ (l : List Token). l ++ Word reserved.Between ∷ []) (sym (append-nil at.part)),
    ) (leb-true _ _ is)))

pub not_keeps : (most : ℕ) (h : Held) (ws : List Token) → Settled most 5 h ws
    → OnGoes (λ s. Stands most s (ws ++ Word reserved.Not ∷ [])) (compare_step h (state h.begun (not_value h.tree)))
not_keeps most h ws at = if_unexpected _ (nat_le (awaited h.begun) 4) _ (λ is.
    cut_again most _ at.front at.part ws _ at.cut
    (turns most at.depth h.begun (not_value h.tree) at.front at.part _ at.opens
    (at.part, raise 5 (omega arith) at.high at.derives, leb-true _ _ is, refl)))
