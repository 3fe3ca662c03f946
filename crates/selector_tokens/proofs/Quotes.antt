-- What a string says, run by run of bytes that are no quotes.
use Rattle.std.proofs.Common.{◌≡◌, ℕ, suc, ◌+◌, ◌-◌, ◌<◌, ◌≤◌, Bool, true, false, eqb, List, [], ◌∷◌, ◌++◌, length, get_or, take, drop, refl, sym, ap, ◌∙◌, append_assoc, add_assoc, arith}
use Rattle.std.specs.Prelude.{Option, Some, None, option_map}
use Rattle.std.specs.List.{position_or_len}
use Rattle.std.proofs.lemmas.Bool.{eqb-true, false≢true}
use Rattle.std.proofs.lemmas.List.{append-nil, take-append-drop, length-take, length-drop, get_or-take, drop_more, take_rest, nil_from_length}
use Rattle.std.proofs.lemmas.List.Sums.{fails_before_first, passes_at_first, prefix_len-le-length}
use Rattle.selector_tokens.specs.Lexing.{string_in, longer, begins_with}

abbrev pub is_quote : ℕ → Bool
is_quote byte = eqb byte 39

-- what a string says and takes, with these bytes before it, which say `front` and are n
abbrev pub behind_front : List ℕ → ℕ → List ℕ × ℕ → List ℕ × ℕ
behind_front front n string = (front ++ string.0, n + string.1)

map_twice : (a b : List ℕ) (m n : ℕ) (o : Option (List ℕ × ℕ)) → option_map (behind_front a m) (option_map (behind_front b n) o) ≡ option_map (behind_front (a ++ b) (m + n)) o
map_twice a b m n None = refl
map_twice a b m n (Some s) = rw (append_assoc a b s.0, add_assoc m n s.1) refl

map_nothing : (o : Option (List ℕ × ℕ)) → o ≡ option_map (behind_front [] 0) o
map_nothing None = refl
map_nothing (Some s) = let e : 0 + s.1 ≡ s.1 = omega arith in rw e refl

-- ---- one byte

pub string_in-plain : (c : ℕ) (cs : List ℕ) → is_quote c ≡ false → string_in (c ∷ cs) ≡ option_map (longer c 1) (string_in cs)
unfolding string_in
string_in-plain c [] plain = rw plain refl
string_in-plain c (d ∷ cs) plain = rw plain refl

pub string_in-double : (cs : List ℕ) → string_in (39 ∷ 39 ∷ cs) ≡ option_map (longer 39 2) (string_in cs)
unfolding string_in
string_in-double cs = refl

pub string_in-end : (cs : List ℕ) → begins_with 39 cs ≡ false → string_in (39 ∷ cs) ≡ Some ([], 1)
unfolding string_in
string_in-end [] other = refl
string_in-end (d ∷ cs) other = rw other refl

-- ---- a run of bytes

pub string_in-run : (front cs : List ℕ) → ((k : ℕ) → k < length front → is_quote (get_or front k 0) ≡ false) → string_in (front ++ cs) ≡ option_map (behind_front front (length front)) (string_in cs)
string_in-run [] cs plain = map_nothing (string_in cs)
string_in-run (c ∷ front) cs plain =
    let first : is_quote c ≡ false = plain 0 (omega arith) in
    let more = string_in-run front cs (λ k lt. plain (suc k) (omega arith)) in
    let size : 1 + length front ≡ suc (length front) = omega arith in
    string_in-plain c (front ++ cs) first ∙ ap (λ (o : Option (List ℕ × ℕ)). option_map (longer c 1) o) more
    ∙ map_twice (c ∷ []) front 1 (length front) (string_in cs)
    ∙ ap (λ (n : ℕ). option_map (behind_front (c ∷ front) n) (string_in cs)) size

-- where the first quote of a text is, or its length
abbrev pub plain : List ℕ → ℕ
plain text = position_or_len is_quote text

pub plain_within : (text : List ℕ) → plain text ≤ length text
plain_within text = prefix_len-le-length _ text

length-run : (text : List ℕ) → length (take (plain text) text) ≡ plain text
length-run text = omega (arith, length-take (plain text) text, plain_within text)

pub string_in-from_quote : (text : List ℕ) → string_in text ≡ option_map (behind_front (take (plain text) text) (plain text)) (string_in (drop (plain text) text))
string_in-from_quote text =
    let k = plain text in
    let parts = ap string_in (sym (take-append-drop (plain text) text)) in
    let run = string_in-run (take (plain text) text) (drop (plain text) text)
    (λ i lt. let below : i < plain text = omega (arith, length-run text) in rw (get_or-take (plain text) text i 0 below) (fails_before_first is_quote text i 0 below)) in
    parts ∙ run ∙ ap (λ (n : ℕ). option_map (behind_front (take (plain text) text) n) (string_in (drop (plain text) text))) (length-run text)

-- ---- a text, so far

-- what `says` says is the part of the string before `rest`
abbrev pub SoFar : List ℕ → List ℕ → List ℕ → Type 0
SoFar says rest behind = string_in behind ≡ option_map (behind_front says (length behind - length rest)) (string_in rest)

pub begun : (behind : List ℕ) → SoFar [] behind behind
begun behind = let none : length behind - length behind ≡ 0 = omega arith in rw none (map_nothing (string_in behind))

run_then : (says rest behind cs : List ℕ) → SoFar says rest behind → drop (plain rest) rest ≡ cs
    → string_in behind ≡ option_map (behind_front (says ++ take (plain rest) rest) (length behind - length rest + plain rest)) (string_in cs)
run_then says rest behind cs so_far e =
    so_far ∙ ap (λ (o : Option (List ℕ × ℕ)). option_map (behind_front says (length behind - length rest)) o) (string_in-from_quote rest)
    ∙ map_twice says (take (plain rest) rest) (length behind - length rest) (plain rest) (string_in (drop (plain rest) rest))
    ∙ ap (λ (t : List ℕ). option_map (behind_front (says ++ take (plain rest) rest) (length behind - length rest + plain rest)) (string_in t)) e

pub left-length : (rest cs : List ℕ) → drop (plain rest) rest ≡ cs → length rest ≡ plain rest + length cs
left-length rest cs e = omega (arith, length-drop (plain rest) rest, plain_within rest, ap (λ (t : List ℕ). length t) e)

-- ---- the text cut at its first quote, `quoted` being what stands from there on

abbrev pub behind_first : List ℕ → List ℕ
behind_first quoted = take (length quoted - 1) (drop 1 quoted)

begins_with-is : (c : ℕ) (cs : List ℕ) → begins_with c cs ≡ true → cs ≡ c ∷ drop 1 cs
begins_with-is c [] h = absurd (false≢true h)
begins_with-is c (b ∷ bs) h = rw (eqb-true b c h) refl

-- it begins with a quote
quoted_is : (rest quoted : List ℕ) → quoted ≡ drop (plain rest) rest → eqb (length quoted) 0 ≡ false → quoted ≡ 39 ∷ behind_first quoted
quoted_is rest [] e some = absurd (false≢true (sym some))
quoted_is rest (b ∷ bs) e some =
    let lt : plain rest < length rest = omega (arith, length-drop (plain rest) rest, ap (λ (t : List ℕ). length t) e) in
    let is_one = eqb-true _ _ (passes_at_first is_quote rest 0 lt) in
    let first : b ≡ 39 = ap (λ (t : List ℕ). get_or t 0 0) (e ∙ drop_more rest (plain rest) 0 lt) ∙ is_one in
    rw (take_rest (b ∷ bs) 1, first) refl

-- at the closing quote
pub closes : (says rest behind before quoted : List ℕ) → length rest ≤ length behind → SoFar says rest behind
    → before ≡ take (plain rest) rest → quoted ≡ drop (plain rest) rest → eqb (length quoted) 0 ≡ false → begins_with 39 (behind_first quoted) ≡ false
    → string_in behind ≡ Some (says ++ before, length behind - length (behind_first quoted))
closes says rest behind before quoted within so_far front e some other =
    let cut = sym e ∙ quoted_is rest quoted e some in
    let left = left-length rest (39 ∷ behind_first quoted) cut in
    let size : length behind - length rest + plain rest + 1 ≡ length behind - length (behind_first quoted) = omega arith in
    run_then says rest behind (39 ∷ behind_first quoted) so_far cut
    ∙ ap (λ (o : Option (List ℕ × ℕ)). option_map (behind_front (says ++ take (plain rest) rest) (length behind - length rest + plain rest)) o) (string_in-end (behind_first quoted) other)
    ∙ rw (append-nil (says ++ take (plain rest) rest), front, size) refl

-- at a doubled quote
pub goes_on : (says rest behind before quoted : List ℕ) → length rest ≤ length behind → SoFar says rest behind
    → before ≡ take (plain rest) rest → quoted ≡ drop (plain rest) rest → eqb (length quoted) 0 ≡ false → begins_with 39 (behind_first quoted) ≡ true
    → (length (behind_first (behind_first quoted)) ≤ length behind) × SoFar ((says ++ before) ++ 39 ∷ []) (behind_first (behind_first quoted)) behind
goes_on says rest behind before quoted within so_far front e some double =
    let more = behind_first (behind_first quoted) in
    let second = begins_with-is 39 (behind_first quoted) double ∙ ap (λ (t : List ℕ). 39 ∷ t) (sym (take_rest (behind_first quoted) 1)) in
    let cut = sym e ∙ quoted_is rest quoted e some ∙ ap (λ (t : List ℕ). 39 ∷ t) second in
    let left = left-length rest (39 ∷ 39 ∷ behind_first (behind_first quoted)) cut in
    let size : length behind - length rest + plain rest + 2 ≡ length behind - length (behind_first (behind_first quoted)) = omega arith in (
      omega arith,
      run_then says rest behind (39 ∷ 39 ∷ behind_first (behind_first quoted)) so_far cut
          ∙ ap (λ (o : Option (List ℕ × ℕ)). option_map (behind_front (says ++ take (plain rest) rest) (length behind - length rest + plain rest)) o) (string_in-double (behind_first (behind_first quoted)))
          ∙ map_twice (says ++ take (plain rest) rest) (39 ∷ []) (length behind - length rest + plain rest) 2 (string_in (behind_first (behind_first quoted)))
          ∙ rw (front, size) refl,
    )

-- no quote is left
pub never : (says rest behind quoted : List ℕ) → SoFar says rest behind → quoted ≡ drop (plain rest) rest → eqb (length quoted) 0 ≡ true → string_in behind ≡ None
unfolding string_in
never says rest behind quoted so_far e none =
    let cut = sym e ∙ nil_from_length quoted (eqb-true _ _ none) in
    run_then says rest behind [] so_far cut
