-- What pieces of a text are cut into, whatever stands behind them, or where an end, a space, `)` or `,` does.
use Rattle.std.proofs.Common.{◌≡◌, ℕ, suc, ◌+◌, ◌-◌, ◌^◌, ◌<◌, Bool, true, false, List, [], ◌∷◌, ◌++◌, length, Some, refl, sym, ap, subst, inl, inr, ◌∙◌, append_assoc, arith, drop, length-append}
use Rattle.std.specs.Prelude.{Option, pos, nat_lt, if◌then◌else◌, ◌==◌, codes, flat_map, option_map}
use Rattle.std.specs.Char.{digit_value, is_ascii_whitespace, is_ascii_digit}
use Rattle.std.specs.Fmt.{decimal}
use Rattle.std.specs.List.{list_all, take_while}
use Rattle.std.specs.Str.Parse.{digits_value, IsNumeral, AllDigits}
use Rattle.std.proofs.lemmas.Bool.{lt-ltb, cond-true, cond-false, true≢false, and_from, and_parts, eqb-true, cases_Bool}
use Rattle.std.proofs.lemmas.Bool.Decides.{nat_tests}
use Rattle.std.proofs.lemmas.List.Sums.{take_while-cons}
use Rattle.std.proofs.Math.Seq.{drop-append_seam}
use Rattle.selector_tokens.specs.declared.faults.Kind.TheVariants.{FloatLiteral, IntRange}
use Rattle.std.proofs.lemmas.Fmt.{decimal_is_IsNumeral}
use Rattle.selector_tokens.specs.declared.tokens.Token.{Token}
use Rattle.selector_tokens.specs.declared.tokens.Token.TheVariants.{Name, Word, Number, Text, Plus, Minus, Open, Close, Comma}
use Rattle.selector_tokens.specs.declared.tokens.Word.{Word as ReservedWord}
use Rattle.selector_tokens.specs.declared.tokens.Word.TheVariants as reserved
use Rattle.selector_tokens.specs.Lexing.{found, fault, first_token, is_number, begins_name, is_name_byte, begins_with, begins_with_any, name_first, name_or_word, word_of, number_first, is_float_byte, string_first, string_in, longer}
use Rattle.selector_read.specs.Writing.{string_byte, quoted, words}
use Rattle.selector_read.specs.Grammar.{negated_by}
use Rattle.selector_read.proofs.WritingCuts.{Cut, after_tokens, cuts, IsName}

-- a text that is empty, or begins with a space, `)` or `,`: no token before it goes on into it
pub data IsApart : List ℕ → Type 0 where
  at_end : IsApart []
  at_space : (cs : List ℕ) → IsApart (32 ∷ cs)
  at_close : (cs : List ℕ) → IsApart (41 ∷ cs)
  at_comma : (cs : List ℕ) → IsApart (44 ∷ cs)

-- the text is cut into these tokens, where what stands behind it is apart from it
pub record Lexes (s : List ℕ) (ts : List Token) : Type 0 where
  pub cut : (rest : List ℕ) → IsApart rest → cuts 0 false (s ++ rest) ≡ after_tokens ts (cuts 0 false rest)

-- the text is cut into these tokens, whatever stands behind it
pub record Begins (s : List ℕ) (ts : List Token) : Type 0 where
  pub cut : (rest : List ℕ) → cuts 0 false (s ++ rest) ≡ after_tokens ts (cuts 0 false rest)

-- no token before the text goes on into it
pub record Starts (s : List ℕ) : Type 0 where
  pub apart : (rest : List ℕ) → IsApart (s ++ rest)

after_both : (ts us : List Token) (c : Cut) → after_tokens ts (after_tokens us c) ≡ after_tokens (ts ++ us) c
after_both ts us c = ap (λ (all : List Token). let k : Cut = record { tokens = all; fault = c.fault } in k) (sym (append_assoc ts us c.tokens))

pub lexes_before : (s u : List ℕ) (ts us : List Token) → Begins s ts → Lexes u us → Lexes (s ++ u) (ts ++ us)
lexes_before s u ts us b l =
    record { cut = λ rest apart. rw (append_assoc s u rest) (b.cut (u ++ rest) ∙ ap (after_tokens ts) (l.cut rest apart) ∙ after_both ts us (cuts 0 false rest)) }

pub lexes_after : (s u : List ℕ) (ts us : List Token) → Lexes s ts → Starts u → Lexes u us → Lexes (s ++ u) (ts ++ us)
lexes_after s u ts us l starts m =
    record { cut = λ rest apart. rw (append_assoc s u rest) (l.cut (u ++ rest) (starts.apart rest) ∙ ap (after_tokens ts) (m.cut rest apart) ∙ after_both ts us (cuts 0 false rest)) }

pub begins_after : (s u : List ℕ) (ts us : List Token) → Lexes s ts → Starts u → Begins u us → Begins (s ++ u) (ts ++ us)
begins_after s u ts us l starts m =
    record { cut = λ rest. rw (append_assoc s u rest) (l.cut (u ++ rest) (starts.apart rest) ∙ ap (after_tokens ts) (m.cut rest) ∙ after_both ts us (cuts 0 false rest)) }

pub begins_lexes : (s : List ℕ) (ts : List Token) → Begins s ts → Lexes s ts
begins_lexes s ts b = record { cut = λ rest apart. b.cut rest }

-- how many bytes a token takes, and what is cut behind them
skipped : (u rest : List ℕ) (close : Bool) → cuts (length u) close (u ++ rest) ≡ cuts 0 close rest
unfolding cuts
skipped [] rest close = refl
skipped (c ∷ cs) rest close = skipped cs rest close

apart_from_number : {rest : List ℕ} (close : Bool) → IsApart rest → cuts 0 close rest ≡ cuts 0 false rest
unfolding cuts first_token
apart_from_number true at_end = refl
apart_from_number true (at_space cs) = refl
apart_from_number true (at_close cs) = refl
apart_from_number true (at_comma cs) = refl
apart_from_number false apart = refl

-- a token of the bytes c ∷ cs
token_cut : (c : ℕ) (cs rest : List ℕ) (t : Token) → is_ascii_whitespace c ≡ false → first_token false c (cs ++ rest) ≡ found t (length (c ∷ cs)) → IsApart rest
    → cuts 0 false (c ∷ cs ++ rest) ≡ after_tokens (t ∷ []) (cuts 0 false rest)
unfolding cuts
token_cut c cs rest t white first apart =
    let one_less : suc (length cs) - 1 ≡ length cs = omega arith in
    rw (white, first) (ap (λ (n : ℕ). after_tokens (t ∷ []) (cuts n (is_number t) (cs ++ rest))) one_less ∙ ap (after_tokens (t ∷ [])) (skipped cs rest (is_number t) ∙ apart_from_number (is_number t) apart))

-- ---- names and words

-- the bytes up to what they don't go on into
taken : (p : ℕ → Bool) (s rest : List ℕ) → list_all p s ≡ true → begins_with_any p rest ≡ false → take_while p (s ++ rest) ≡ s
taken p [] [] all stops = refl
taken p [] (c ∷ cs) all stops = rw (take_while-cons p c cs, stops) refl
taken p (c ∷ cs) rest all stops =
    let both : (p c ≡ true) × (list_all p cs ≡ true) = and_parts (p c) (list_all p cs) all in
    rw (take_while-cons p c (cs ++ rest), both.0) (ap (λ (xs : List ℕ). c ∷ xs) (taken p cs rest both.1 stops))

no_name_byte : {rest : List ℕ} → IsApart rest → begins_with_any is_name_byte rest ≡ false
no_name_byte at_end = refl
no_name_byte (at_space cs) = refl
no_name_byte (at_close cs) = refl
no_name_byte (at_comma cs) = refl

no_digit : {rest : List ℕ} → IsApart rest → begins_with_any is_ascii_digit rest ≡ false
no_digit at_end = refl
no_digit (at_space cs) = refl
no_digit (at_close cs) = refl
no_digit (at_comma cs) = refl

no_float_byte : {rest : List ℕ} → IsApart rest → begins_with_any is_float_byte rest ≡ false
no_float_byte at_end = refl
no_float_byte (at_space cs) = refl
no_float_byte (at_close cs) = refl
no_float_byte (at_comma cs) = refl

no_quote : {rest : List ℕ} → IsApart rest → begins_with 39 rest ≡ false
no_quote at_end = refl
no_quote (at_space cs) = refl
no_quote (at_close cs) = refl
no_quote (at_comma cs) = refl

name_is_no_white : (c : ℕ) → begins_name c ≡ true → is_ascii_whitespace c ≡ false
name_is_no_white c h = grind (arith, nat_tests)

digit_is_no_white : (c : ℕ) → is_ascii_digit c ≡ true → is_ascii_whitespace c ≡ false
digit_is_no_white c h = grind (arith, nat_tests)

digit_begins_no_name : (c : ℕ) → is_ascii_digit c ≡ true → begins_name c ≡ false
digit_begins_no_name c h = grind (arith, nat_tests)

first_name : (c : ℕ) (cs : List ℕ) → begins_name c ≡ true → first_token false c cs ≡ name_first (take_while is_name_byte (c ∷ cs))
unfolding first_token
first_name c cs h = cond-true (begins_name c) (name_first (take_while is_name_byte (c ∷ cs))) _ h

first_number : (c : ℕ) (cs : List ℕ) → is_ascii_digit c ≡ true
    → first_token false c cs ≡ number_first (take_while is_ascii_digit (c ∷ cs)) (drop (length (take_while is_ascii_digit (c ∷ cs))) (c ∷ cs))
unfolding first_token
first_number c cs h =
    cond-false (begins_name c) (name_first (take_while is_name_byte (c ∷ cs))) _ (digit_begins_no_name c h)
    ∙ cond-true (is_ascii_digit c) (number_first (take_while is_ascii_digit (c ∷ cs)) (drop (length (take_while is_ascii_digit (c ∷ cs))) (c ∷ cs))) _ h

-- letters are a reserved word or a name
pub letters_lexed : (c : ℕ) (cs : List ℕ) → begins_name c ≡ true → list_all is_name_byte (c ∷ cs) ≡ true → Lexes (c ∷ cs) (name_or_word (c ∷ cs) (word_of (c ∷ cs)) ∷ [])
letters_lexed c cs begins all = record {
  cut = λ rest apart. token_cut c cs rest (name_or_word (c ∷ cs) (word_of (c ∷ cs))) (name_is_no_white c begins)
      (first_name c (cs ++ rest) begins ∙ ap name_first (taken is_name_byte (c ∷ cs) rest all (no_name_byte apart))) apart;
}

pub name_lexed : (x : List ℕ) → IsName x → Lexes x (Name x ∷ [])
name_lexed [] is = absurd (true≢false (sym is.begins))
name_lexed (c ∷ cs) is = subst (λ (w : Option ReservedWord). Lexes (c ∷ cs) (name_or_word (c ∷ cs) w ∷ [])) is.free (letters_lexed c cs is.begins is.goes_on)

-- ---- numbers

digits_lexed : (c : ℕ) (cs : List ℕ) (n : ℕ) → list_all is_ascii_digit (c ∷ cs) ≡ true → digits_value 10 (c ∷ cs) ≡ n → n < 2 ^ 63 → Lexes (c ∷ cs) (Number (pos n) ∷ [])
digits_lexed c cs n all value small =
    let digit : is_ascii_digit c ≡ true = (and_parts (is_ascii_digit c) (list_all is_ascii_digit cs) all).0 in
    record {
      cut = λ rest apart. token_cut c cs rest (Number (pos n)) (digit_is_no_white c digit)
          (first_number c (cs ++ rest) digit
          ∙ ap (λ (ds : List ℕ). number_first ds (drop (length ds) (c ∷ (cs ++ rest)))) (taken is_ascii_digit (c ∷ cs) rest all (no_digit apart))
          ∙ ap (λ (behind : List ℕ). number_first (c ∷ cs) behind) (drop-append_seam (c ∷ cs) rest)
          ∙ cond-false (begins_with_any is_float_byte rest) (fault FloatLiteral) _ (no_float_byte apart)
          ∙ ap (λ (v : ℕ). if nat_lt v (2 ^ 63) then found (Number (pos v)) (length (c ∷ cs)) else fault IntRange) value
          ∙ cond-true (nat_lt n (2 ^ 63)) (found (Number (pos n)) (length (c ∷ cs))) (fault IntRange) (lt-ltb n (2 ^ 63) small)) apart;
    }

is_digit : (c : ℕ) → digit_value c < 10 → is_ascii_digit c ≡ true
is_digit c h = grind (arith, nat_tests)

all_digits : (ds : List ℕ) → AllDigits 10 ds → list_all is_ascii_digit ds ≡ true
all_digits [] h = refl
all_digits (c ∷ cs) h = and_from (is_ascii_digit c) (list_all is_ascii_digit cs) (is_digit c h.0) (all_digits cs h.1)

numeral_lexed : (ds : List ℕ) (n : ℕ) → IsNumeral 10 ds → digits_value 10 ds ≡ n → n < 2 ^ 63 → Lexes ds (Number (pos n) ∷ [])
numeral_lexed [] n is value small = absurd (omega (arith, is.0))
numeral_lexed (c ∷ cs) n is value small = digits_lexed c cs n (all_digits (c ∷ cs) is.1) value small

pub number_lexed : (n : ℕ) → n < 2 ^ 63 → Lexes (decimal n) (Number (pos n) ∷ [])
number_lexed n small =
    let numeral : IsNumeral 10 (decimal n) × (digits_value 10 (decimal n) ≡ n) = decimal_is_IsNumeral n (omega arith) in
    numeral_lexed (decimal n) n numeral.0 numeral.1 small

-- ---- strings

string_goes_on : (c : ℕ) (cs : List ℕ) → (c == 39) ≡ false → 0 < length cs → string_in (c ∷ cs) ≡ option_map (longer c 1) (string_in cs)
unfolding string_in
string_goes_on c [] plain some = absurd (omega arith)
string_goes_on c (d ∷ ds) plain some = cond-false (c == 39) _ (option_map (longer c 1) (string_in (d ∷ ds))) plain

string_ends : (rest : List ℕ) → begins_with 39 rest ≡ false → string_in (39 ∷ rest) ≡ Some ([], 1)
unfolding string_in
string_ends [] stops = refl
string_ends (d ∷ ds) stops = cond-false (d == 39) _ (Some ([], 1)) stops

counted : (s : List ℕ) (m n : ℕ) → m ≡ n → ◌≡◌ {A = Option (List ℕ × ℕ)} (Some (s, m)) (Some (s, n))
counted s m n e = ap (λ (k : ℕ). let o : Option (List ℕ × ℕ) = Some (s, k) in o) e

quote_read : (cs bytes : List ℕ) (n : ℕ) → string_in bytes ≡ Some (cs, n + 1) → string_in (39 ∷ 39 ∷ bytes) ≡ Some (39 ∷ cs, suc (suc n) + 1)
unfolding string_in
quote_read cs bytes n h = ap (option_map (longer 39 2)) h ∙ counted (39 ∷ cs) (2 + (n + 1)) (suc (suc n) + 1) (omega arith)

plain_read : (c : ℕ) (cs bytes : List ℕ) (n : ℕ) → (c == 39) ≡ false → 0 < length bytes → string_in bytes ≡ Some (cs, n + 1) → string_in (c ∷ bytes) ≡ Some (c ∷ cs, suc n + 1)
plain_read c cs bytes n plain some h = string_goes_on c bytes plain some ∙ ap (option_map (longer c 1)) h ∙ counted (c ∷ cs) (1 + (n + 1)) (suc n + 1) (omega arith)

read_back : (s rest : List ℕ) → begins_with 39 rest ≡ false → string_in (flat_map string_byte s ++ 39 ∷ rest) ≡ Some (s, length (flat_map string_byte s) + 1)
read_back [] rest stops = string_ends rest stops
read_back (c ∷ cs) rest stops = elim (cases_Bool (c == 39)) [
  | inl quote ↦ subst (λ (x : ℕ). string_in (flat_map string_byte (x ∷ cs) ++ 39 ∷ rest) ≡ Some (x ∷ cs, length (flat_map string_byte (x ∷ cs)) + 1)) (sym (eqb-true c 39 quote))
      (quote_read cs (flat_map string_byte cs ++ 39 ∷ rest) (length (flat_map string_byte cs)) (read_back cs rest stops))
  | inr plain ↦ subst (λ (bytes : List ℕ). string_in (bytes ++ flat_map string_byte cs ++ 39 ∷ rest) ≡ Some (c ∷ cs, length (bytes ++ flat_map string_byte cs) + 1))
      (sym (cond-false (c == 39) (39 ∷ 39 ∷ []) (c ∷ []) plain))
      (plain_read c cs (flat_map string_byte cs ++ 39 ∷ rest) (length (flat_map string_byte cs)) plain (omega (arith, length-append (flat_map string_byte cs) (39 ∷ rest))) (read_back cs rest stops))
]

pub string_lexed : (s : List ℕ) → Lexes (quoted s) (Text s ∷ [])
unfolding first_token
string_lexed s = record {
  cut = λ rest apart. token_cut 39 (flat_map string_byte s ++ 39 ∷ []) rest (Text s) refl
      (ap (λ (bytes : List ℕ). string_first (string_in bytes)) (append_assoc (flat_map string_byte s) (39 ∷ []) rest)
      ∙ ap string_first (read_back s rest (no_quote apart))
      ∙ ap (λ (n : ℕ). found (Text s) (suc n)) (sym (length-append (flat_map string_byte s) (39 ∷ [])))) apart;
}

-- ---- words and signs between spaces

pub open_lexed : Begins (codes "(") (Open ∷ [])
unfolding cuts first_token
open_lexed = record { cut = λ rest. refl }

pub close_lexed : Begins (codes ")") (Close ∷ [])
unfolding cuts first_token
close_lexed = record { cut = λ rest. refl }

pub close_starts : Starts (codes ")")
close_starts = record { apart = λ rest. at_close rest }

pub comma_lexed : Begins (codes ", ") (Comma ∷ [])
unfolding cuts first_token
comma_lexed = record { cut = λ rest. refl }

pub comma_starts : Starts (codes ", ")
comma_starts = record { apart = λ rest. at_comma (32 ∷ rest) }

pub minus_lexed : Begins (codes "-") (Minus ∷ [])
unfolding cuts first_token
minus_lexed = record { cut = λ rest. refl }

pub plus_lexed : Begins (codes "+") (Plus ∷ [])
unfolding cuts first_token
plus_lexed = record { cut = λ rest. refl }

pub or_lexed : Begins (codes " OR ") (Word reserved.Or ∷ [])
unfolding cuts first_token word_of
or_lexed = record { cut = λ rest. refl }

pub and_lexed : Begins (codes " AND ") (Word reserved.And ∷ [])
unfolding cuts first_token word_of
and_lexed = record { cut = λ rest. refl }

pub not_lexed : Begins (codes "NOT ") (Word reserved.Not ∷ [])
unfolding cuts first_token word_of
not_lexed = record { cut = λ rest. refl }

pub between_lexed : (n : Bool) → Begins (words n (codes " BETWEEN ")) (negated_by n ++ Word reserved.Between ∷ [])
unfolding cuts first_token word_of
between_lexed true = record { cut = λ rest. refl }
between_lexed false = record { cut = λ rest. refl }

pub in_lexed : (n : Bool) → Begins (words n (codes " IN (")) (negated_by n ++ Word reserved.In ∷ Open ∷ [])
unfolding cuts first_token word_of
in_lexed true = record { cut = λ rest. refl }
in_lexed false = record { cut = λ rest. refl }

pub like_lexed : (n : Bool) → Begins (words n (codes " LIKE ")) (negated_by n ++ Word reserved.Like ∷ [])
unfolding cuts first_token word_of
like_lexed true = record { cut = λ rest. refl }
like_lexed false = record { cut = λ rest. refl }

pub escape_lexed : Begins (codes " ESCAPE ") (Word reserved.Escape ∷ [])
unfolding cuts first_token word_of
escape_lexed = record { cut = λ rest. refl }
