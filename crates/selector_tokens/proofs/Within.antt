-- A token lies within the text.
use Rattle.std.proofs.Common.{◌≡◌, ℕ, suc, ◌+◌, ◌<◌, ◌≤◌, Bool, true, false, cond, eqb, List, [], ◌∷◌, length, drop, refl, ap, arith}
use Rattle.std.specs.Prelude.{Option, Some, None, option_map}
use Rattle.std.specs.Option.{option_map_or}
use Rattle.std.specs.Char.{is_ascii_digit}
use Rattle.std.specs.List.{take_while, prefix_len}
use Rattle.std.proofs.lemmas.Bool.{or_left, false≢true}
use Rattle.std.proofs.lemmas.List.Folds.{length-prefix_len}
use Rattle.std.proofs.lemmas.List.Sums.{prefix_len-le-length}
use Rattle.selector_tokens.specs.declared.faults.Kind.{Kind}
use Rattle.selector_tokens.specs.declared.tokens.Token.{Token}
use Rattle.selector_tokens.specs.declared.tokens.Token.TheVariants.{Text, Compare, Plus, Minus, Times, Divide, Open, Close, Comma}
use Rattle.selector_tokens.specs.declared.tokens.CompareOp.TheVariants.{Equal, Unequal, Less, LessEqual, Greater, GreaterEqual}
use Rattle.selector_tokens.specs.declared.faults.Kind.TheVariants.{BadChar, OpenString, FloatLiteral, IntRange}
use Rattle.selector_tokens.specs.Lexing.{First, found, fault, begins_name, is_name_byte, begins_with, name_first, number_first, string_first, string_in, sign_first, first_token, longer}

-- the token takes at least one byte, and no more than the text has
abbrev pub IsWithin : ℕ → ℕ → Type 0
IsWithin size n = (0 < n) × (n ≤ size)

abbrev pub FoundWithin : ℕ → First → Type 0
FoundWithin size first = (t : Token) (n : ℕ) → first ≡ found t n → IsWithin size n

found_within : (size : ℕ) (t : Token) (n : ℕ) → IsWithin size n → FoundWithin size (found t n)
found_within size t n h u m e = let same : n ≡ m = cc in (omega arith, omega arith)

fault_within : (size : ℕ) (kind : Kind) → FoundWithin size (fault kind)
fault_within size kind u m e = absurd cc

choice_within : (size : ℕ) (b : Bool) (x y : First) → (b ≡ true → FoundWithin size x) → (b ≡ false → FoundWithin size y) → FoundWithin size (cond b x y)
choice_within size true x y p q = p refl
choice_within size false x y p q = q refl

front_within : (p : ℕ → Bool) (c : ℕ) (cs : List ℕ) → p c ≡ true → IsWithin (suc (length cs)) (length (take_while p (c ∷ cs)))
front_within p c cs passes =
    let n = length-prefix_len p (c ∷ cs) in
    let first : prefix_len p (c ∷ cs) ≡ 1 + prefix_len p cs = rw passes refl in
    let rest = prefix_len-le-length p cs in
    (omega arith, omega arith)

-- ---- strings

abbrev StringWithin : ℕ → Option (List ℕ × ℕ) → Type 0
StringWithin size string = (s : List ℕ × ℕ) → string ≡ Some s → IsWithin size s.1

longer_within : (size c n : ℕ) (string : Option (List ℕ × ℕ)) → StringWithin size string → StringWithin (n + size) (option_map (longer c n) string)
longer_within size c n None h s e = absurd cc
longer_within size c n (Some t) h s e =
    let within = h t refl in
    let same : n + t.1 ≡ s.1 = ap (λ (o : Option (List ℕ × ℕ)). option_map_or (λ (x : List ℕ × ℕ). x.1) o 0) e in
    (omega (arith, within.0), omega (arith, within.1))

string_choice : (size : ℕ) (b : Bool) (x y : Option (List ℕ × ℕ)) → StringWithin size x → StringWithin size y → StringWithin size (cond b x y)
string_choice size true x y p q = p
string_choice size false x y p q = q

closed_within : (size : ℕ) → 0 < size → StringWithin size (Some ([], 1))
closed_within size some s e =
    let same : 1 ≡ s.1 = ap (λ (o : Option (List ℕ × ℕ)). option_map_or (λ (x : List ℕ × ℕ). x.1) o 0) e in
    (omega arith, omega arith)

open_within : (size : ℕ) → StringWithin size None
open_within size s e = absurd cc

wider : (m n : ℕ) (string : Option (List ℕ × ℕ)) → m ≤ n → StringWithin m string → StringWithin n string
wider m n string le h s e = let w = h s e in (w.0, omega (arith, w.1))

pub string_within : (cs : List ℕ) → StringWithin (length cs) (string_in cs)
unfolding string_in
string_within [] = open_within 0
string_within (c ∷ []) = string_choice 1 (eqb c 39) (Some ([], 1)) None (closed_within 1 (omega arith)) (open_within 1)
string_within (c ∷ d ∷ cs) =
    let n = suc (suc (length cs)) in
    let doubled = wider (2 + length cs) (suc (suc (length cs))) (option_map (longer 39 2) (string_in cs)) (omega arith) (longer_within (length cs) 39 2 (string_in cs) (string_within cs)) in
    let more = wider (1 + suc (length cs)) (suc (suc (length cs))) (option_map (longer c 1) (string_in (d ∷ cs))) (omega arith) (longer_within (suc (length cs)) c 1 (string_in (d ∷ cs)) (string_within (d ∷ cs))) in
    string_choice (suc (suc (length cs))) (eqb c 39) (cond (eqb d 39) (option_map (longer 39 2) (string_in cs)) (Some ([], 1))) (option_map (longer c 1) (string_in (d ∷ cs)))
    (string_choice (suc (suc (length cs))) (eqb d 39) (option_map (longer 39 2) (string_in cs)) (Some ([], 1)) doubled (closed_within (suc (suc (length cs))) (omega arith)))
    more

-- ---- signs

begins_within : (c : ℕ) (behind : List ℕ) → begins_with c behind ≡ true → IsWithin (suc (length behind)) 2
begins_within c [] h = absurd (false≢true h)
begins_within c (b ∷ bs) h = (omega arith, omega arith)

one : (cs : List ℕ) → IsWithin (suc (length cs)) 1
one cs = (omega arith, omega arith)

-- one of two answers
either : {size : ℕ} {b : Bool} {x y : First} → (b ≡ true → FoundWithin size x) → FoundWithin size y → FoundWithin size (cond b x y)
either {size} {b} {x} {y} p q = choice_within size b x y p (λ _. q)

sign_within : (c : ℕ) (cs : List ℕ) → FoundWithin (suc (length cs)) (sign_first c cs)
sign_within c cs =
    let size = suc (length cs) in
    let one : (t : Token) → FoundWithin (suc (length cs)) (found t 1) = λ t. found_within (suc (length cs)) t 1 (omega arith, omega arith) in
    let two : (d : ℕ) (t : Token) → begins_with d cs ≡ true → FoundWithin (suc (length cs)) (found t 2) = λ d t e. found_within (suc (length cs)) t 2 (begins_within d cs e) in
    either (λ _. one (Compare Equal)) (either (λ _. either (two 62 (Compare Unequal)) (either (two 61 (Compare LessEqual)) (one (Compare Less))))
    (either (λ _. either (two 61 (Compare GreaterEqual)) (one (Compare Greater)))
    (either (λ _. one Plus) (either (λ _. one Minus) (either (λ _. one Times) (either (λ _. one Divide) (either (λ _. one Open) (either (λ _. one Close) (either (λ _. one Comma)
    (either (λ _. fault_within (suc (length cs)) FloatLiteral) (fault_within (suc (length cs)) BadChar)))))))))))

-- ---- the first token

name_within : (c : ℕ) (cs : List ℕ) → begins_name c ≡ true → FoundWithin (suc (length cs)) (name_first (take_while is_name_byte (c ∷ cs)))
name_within c cs begins = found_within (suc (length cs)) _ _ (front_within is_name_byte c cs (or_left _ _ begins))

number_within : (c : ℕ) (cs behind : List ℕ) → is_ascii_digit c ≡ true → FoundWithin (suc (length cs)) (number_first (take_while is_ascii_digit (c ∷ cs)) behind)
number_within c cs behind digit =
    either (λ _. fault_within (suc (length cs)) FloatLiteral)
    (either (λ _. found_within (suc (length cs)) _ _ (front_within is_ascii_digit c cs digit)) (fault_within (suc (length cs)) IntRange))

string_token_within : (size : ℕ) (string : Option (List ℕ × ℕ)) → StringWithin size string → FoundWithin (suc size) (string_first string)
string_token_within size None h = fault_within (suc size) OpenString
string_token_within size (Some s) h = let w = h s refl in found_within (suc size) (Text s.0) (suc s.1) (omega arith, omega (arith, w.1))

-- a token takes at least one byte, and lies within the text
pub first_token_within : (close : Bool) (c : ℕ) (cs : List ℕ) (t : Token) (n : ℕ) → first_token close c cs ≡ found t n → IsWithin (suc (length cs)) n
unfolding first_token
first_token_within close c cs =
    choice_within (suc (length cs)) (begins_name c) _ _ (λ begins. either (λ _. fault_within (suc (length cs)) BadChar) (name_within c cs begins))
    (λ _. choice_within (suc (length cs)) (is_ascii_digit c) _ _ (λ digit. number_within c cs (drop (length (take_while is_ascii_digit (c ∷ cs))) (c ∷ cs)) digit)
    (λ _. either (λ _. string_token_within (length cs) (string_in cs) (string_within cs)) (sign_within c cs)))
