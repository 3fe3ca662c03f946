-- How the tokens of a text follow from its first token.
use Rattle.std.proofs.Common.{◌≡◌, ℕ, zero, suc, ◌+◌, ◌-◌, ◌<◌, ◌≤◌, Bool, true, false, eqb, ◌&&◌, List, [], ◌∷◌, length, get_or, drop, refl, sym, ap, ◌∙◌, arith, inl, inr, add-zero}
use Rattle.std.specs.Prelude.{Some, None}
use Rattle.std.specs.Char.{is_ascii_whitespace}
use Rattle.std.specs.List.{take_while, prefix_len}
use Rattle.std.proofs.lemmas.Bool.{cases_Bool, eqb-true, ne_eqb}
use Rattle.std.proofs.lemmas.List.{length-drop, drop-drop, nil_from_length}
use Rattle.std.proofs.lemmas.List.Folds.{length-prefix_len}
use Rattle.std.proofs.lemmas.List.Sums.{prefix_len-le-length}
use Rattle.selector_tokens.specs.declared.faults.Kind.{Kind}
use Rattle.selector_tokens.specs.declared.tokens.Token.{Token}
use Rattle.selector_tokens.specs.Lexing.{found, fault, begins_with_any, first_token, is_number, lexed_from, stops, then_lexed}
use Rattle.selector_tokens.proofs.Within.{first_token_within}

-- bytes that belong to a token are passed over
pub lexed_from-inner : (n : ℕ) (close : Bool) (at : ℕ) (cs : List ℕ) → n ≤ length cs → lexed_from n close at cs ≡ lexed_from 0 close (at + n) (drop n cs)
unfolding lexed_from
lexed_from-inner zero close at cs le = rw add-zero refl
lexed_from-inner (suc n) close at [] le = absurd (omega arith)
lexed_from-inner (suc n) close at (c ∷ cs) le =
    let place : at + 1 + n ≡ at + suc n = omega arith in
    lexed_from-inner n close (at + 1) cs (omega arith) ∙ ap (λ (k : ℕ). lexed_from 0 close k (drop n cs)) place

-- a token, and the tokens behind it
pub lexed_from-found : (close : Bool) (at c : ℕ) (cs : List ℕ) (t : Token) (n : ℕ) → is_ascii_whitespace c ≡ false → first_token close c cs ≡ found t n
    → lexed_from 0 close at (c ∷ cs) ≡ then_lexed at t (lexed_from 0 (is_number t) (at + n) (drop n (c ∷ cs)))
unfolding lexed_from
lexed_from-found close at c cs t zero no_space first = absurd (omega (arith, (first_token_within close c cs t 0 first).0))
lexed_from-found close at c cs t (suc n) no_space first =
    let within = first_token_within close c cs t (suc n) first in
    let inner : suc n - 1 ≡ n = omega arith in
    let place : at + 1 + n ≡ at + suc n = omega arith in
    rw (no_space, first, inner, lexed_from-inner n (is_number t) (at + 1) cs (omega (arith, within.1)), place) refl

-- a place where no token can be read
pub lexed_from-fault : (close : Bool) (at c : ℕ) (cs : List ℕ) (kind : Kind) → is_ascii_whitespace c ≡ false → first_token close c cs ≡ fault kind
    → lexed_from 0 close at (c ∷ cs) ≡ stops at (Some kind)
unfolding lexed_from
lexed_from-fault close at c cs kind no_space first = rw (no_space, first) refl

pub lexed_from-end : (close : Bool) (at : ℕ) → lexed_from 0 close at [] ≡ stops at None
unfolding lexed_from
lexed_from-end close at = refl

pub lexed_from-space : (close : Bool) (at c : ℕ) (cs : List ℕ) → is_ascii_whitespace c ≡ true → lexed_from 0 close at (c ∷ cs) ≡ lexed_from 0 false (at + 1) cs
unfolding lexed_from
lexed_from-space close at c cs space = rw space refl

-- how much white space a text begins with
abbrev pub space : List ℕ → ℕ
space text = prefix_len is_ascii_whitespace text

and_true : (b : Bool) → (b && true) ≡ b
and_true true = refl
and_true false = refl

and_false : (b : Bool) → (b && false) ≡ false
and_false true = refl
and_false false = refl

-- white space is passed over; a number does not end just before what stands behind it
pub lexed_from-spaces : (close : Bool) (at : ℕ) (text : List ℕ) → lexed_from 0 close at text ≡ lexed_from 0 (close && eqb (space text) 0) (at + space text) (drop (space text) text)
lexed_from-spaces close at [] = rw (and_true, add-zero) refl
lexed_from-spaces close at (c ∷ cs) =
    elim (cases_Bool (is_ascii_whitespace c)) [
      | inl yes_space ↦
          let n : space (c ∷ cs) ≡ suc (space cs) = rw yes_space (omega arith) in
          let place : at + 1 + space cs ≡ at + suc (space cs) = omega arith in
          let later : eqb (suc (space cs)) 0 ≡ false = ne_eqb (suc (space cs)) 0 (λ e. omega arith) in
          lexed_from-space close at c cs yes_space ∙ lexed_from-spaces false (at + 1) cs ∙ rw (n, later, and_false, place) refl
      | inr no_space ↦
          let n : space (c ∷ cs) ≡ 0 = rw no_space refl in
          rw (n, and_true, add-zero) refl
    ]

no_space : (text : List ℕ) → begins_with_any is_ascii_whitespace (drop (space text) text) ≡ false
no_space [] = refl
no_space (c ∷ cs) =
    elim (cases_Bool (is_ascii_whitespace c)) [
      | inl white ↦ let n : space (c ∷ cs) ≡ suc (space cs) = rw white (omega arith) in rw n (no_space cs)
      | inr other ↦ let n : space (c ∷ cs) ≡ 0 = rw other refl in rw n other
    ]

-- the same at a text of which only the first byte and the rest are named
fault_in : (text : List ℕ) (close : Bool) (at : ℕ) (kind : Kind) → begins_with_any is_ascii_whitespace text ≡ false → 0 < length text
    → first_token close (get_or text 0 0) (drop 1 text) ≡ fault kind → lexed_from 0 close at text ≡ stops at (Some kind)
fault_in [] close at kind starts some first = absurd (omega arith)
fault_in (c ∷ cs) close at kind starts some first = lexed_from-fault close at c cs kind starts first

found_in : (text : List ℕ) (close : Bool) (at : ℕ) (t : Token) (n : ℕ) → begins_with_any is_ascii_whitespace text ≡ false → 0 < length text
    → first_token close (get_or text 0 0) (drop 1 text) ≡ found t n → lexed_from 0 close at text ≡ then_lexed at t (lexed_from 0 (is_number t) (at + n) (drop n text))
found_in [] close at t n starts some first = absurd (omega arith)
found_in (c ∷ cs) close at t n starts some first = lexed_from-found close at c cs t n starts first

-- ---- a lexer at a place of the text

module _ (text : List ℕ) (at k : ℕ) (within : at ≤ length text) (is_space : k ≡ length (take_while is_ascii_whitespace (drop at text))) where
  k_is : k ≡ space (drop at text)
  k_is = is_space ∙ length-prefix_len is_ascii_whitespace (drop at text)

  -- the end of the white space lies within the text
  pub space_within : at + k ≤ length text
  space_within = omega (arith, k_is, prefix_len-le-length is_ascii_whitespace (drop at text), length-drop at text)

  -- no token begins in the white space
  pub behind_space : (close : Bool) → 0 < k → lexed_from 0 false (at + k) (drop (at + k) text) ≡ lexed_from 0 close at (drop at text)
  behind_space close some =
      let later : eqb k 0 ≡ false = ne_eqb k 0 (λ e. omega arith) in
      let passed : lexed_from 0 close at (drop at text) ≡ lexed_from 0 (close && eqb k 0) (at + k) (drop k (drop at text)) = rw k_is (lexed_from-spaces close at (drop at text)) in
      sym (passed ∙ rw (later, and_false, drop-drop) refl)

  -- no white space is left
  pub space_ends : begins_with_any is_ascii_whitespace (drop (at + k) text) ≡ false
  space_ends = rw (← drop-drop, k_is) (no_space (drop at text))

-- a lexer at the first byte of a token, or at the end of the text
module _ (text : List ℕ) (at : ℕ) (close : Bool) (within : at ≤ length text) (at_token : begins_with_any is_ascii_whitespace (drop at text) ≡ false) where
  pub at_end : eqb (length (drop at text)) 0 ≡ true → lexed_from 0 close at (drop at text) ≡ stops (length text) None
  at_end none =
      let size = eqb-true _ _ none in
      let end : at ≡ length text = omega (arith, length-drop at text) in
      rw (nil_from_length (drop at text) size) (lexed_from-end close at ∙ ap (λ (n : ℕ). stops n None) end)

  pub at_fault : (kind : Kind) → 0 < length (drop at text) → first_token close (get_or (drop at text) 0 0) (drop 1 (drop at text)) ≡ fault kind
      → lexed_from 0 close at (drop at text) ≡ stops at (Some kind)
  at_fault kind some first = fault_in (drop at text) close at kind at_token some first

  pub at_found : (t : Token) (n : ℕ) → 0 < length (drop at text) → first_token close (get_or (drop at text) 0 0) (drop 1 (drop at text)) ≡ found t n
      → lexed_from 0 close at (drop at text) ≡ then_lexed at t (lexed_from 0 (is_number t) (at + n) (drop (at + n) text))
  at_found t n some first = found_in (drop at text) close at t n at_token some first ∙ rw drop-drop refl

  pub found_within : (t : Token) (n : ℕ) → 0 < length (drop at text) → first_token close (get_or (drop at text) 0 0) (drop 1 (drop at text)) ≡ found t n
      → (0 < n) × (at + n ≤ length text)
  found_within t n some first =
      let w = first_token_within close _ _ t n first in
      (w.0, omega (arith, w.1, length-drop 1 (drop at text), length-drop at text))
