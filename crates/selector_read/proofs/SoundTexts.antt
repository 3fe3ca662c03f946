-- The numbers among a text's tokens are not negative.
use Rattle.std.proofs.Common.{ℕ, zero, suc, ◌+◌, ◌-◌, ◌^◌, ◌==◌, ◌&&◌, Bool, true, false, List, [], ◌∷◌, ◌++◌, length, drop, nat_lt, Option, Some, None, if◌then◌else◌, take_while}
use Rattle.std.specs.Char.{is_ascii_digit, is_ascii_whitespace}
use Rattle.std.specs.Str.Parse.{digits_value}
use Rattle.selector_tokens.specs.declared.tokens.Word.{Word}
use Rattle.selector_tokens.specs.declared.tokens.Token.{Token}
use Rattle.selector_tokens.specs.Lexing.{First, found, fault, begins_name, begins_with, begins_with_any, is_name_byte, is_float_byte, name_or_word, word_of, number_first, string_first, string_in, sign_first, first_token, is_number, Lexed, then_lexed, stops, lexed_from, lexed}
use Rattle.selector_read.specs.Selectors.{tokens}
use Rattle.selector_read.proofs.SoundModes.{Plain}
use Rattle.selector_read.proofs.Sound.{AllPlain}

abbrev PlainFirst : First → Type 0
PlainFirst (found t n) = Plain t
PlainFirst (fault kind) = Unit {0}

either_way : (b : Bool) (x y : First) → PlainFirst x → PlainFirst y → PlainFirst (if b then x else y)
either_way true x y p q = p
either_way false x y p q = q

plain_name : (letters : List ℕ) (o : Option Word) → Plain (name_or_word letters o)
plain_name letters None = tt
plain_name letters (Some word) = tt

plain_string : (o : Option (List ℕ × ℕ)) → PlainFirst (string_first o)
plain_string None = tt
plain_string (Some string) = tt

plain_number : (digits behind : List ℕ) → PlainFirst (number_first digits behind)
plain_number digits behind = either_way (begins_with_any is_float_byte behind) _ _ tt
    (either_way (nat_lt (digits_value 10 digits) (2 ^ 63)) _ _ tt tt)

plain_sign : (c : ℕ) (behind : List ℕ) → PlainFirst (sign_first c behind)
plain_sign c behind =
    either_way (c == 61) _ _ tt (either_way (c == 60) _ _
    (either_way (begins_with 62 behind) _ _ tt (either_way (begins_with 61 behind) _ _ tt tt))
    (either_way (c == 62) _ _ (either_way (begins_with 61 behind) _ _ tt tt)
    (either_way (c == 43) _ _ tt (either_way (c == 45) _ _ tt (either_way (c == 42) _ _ tt (either_way (c == 47) _ _ tt
    (either_way (c == 40) _ _ tt (either_way (c == 41) _ _ tt
    (either_way (c == 44) _ _ tt (either_way (c == 46 && begins_with_any is_ascii_digit behind) _ _ tt tt))))))))))

plain_first : (close : Bool) (c : ℕ) (cs : List ℕ) → PlainFirst (first_token close c cs)
unfolding first_token
plain_first close c cs =
    either_way (begins_name c) _ _ (either_way close _ _ tt
    (plain_name (take_while is_name_byte (c ∷ cs)) (word_of (take_while is_name_byte (c ∷ cs)))))
    (either_way (is_ascii_digit c) _ _ (plain_number (take_while is_ascii_digit (c ∷ cs))
    (drop (length (take_while is_ascii_digit (c ∷ cs))) (c ∷ cs)))
    (either_way (c == 39) _ _ (plain_string (string_in cs)) (plain_sign c cs)))

-- the tokens are plain
abbrev PlainLexed : Lexed → Type 0
PlainLexed l = AllPlain (tokens l.tokens)

plain_found : (first : First) (at : ℕ) (rest : Token → ℕ → Lexed) → PlainFirst first
    → ((t : Token) (n : ℕ) → PlainLexed (rest t n))
    → PlainLexed (elim first as (λ _. Lexed) [
      | found t n ↦ then_lexed at t (rest t n)
      | fault kind ↦ stops at
          (Some kind)
    ])
plain_found (found t n) at rest plain all = (plain, all t n)
plain_found (fault kind) at rest plain all = tt

plain_either : (b : Bool) (x y : Lexed) → PlainLexed x → PlainLexed y → PlainLexed (if b then x else y)
plain_either true x y p q = p
plain_either false x y p q = q

plain_from : (inner : ℕ) (close : Bool) (at : ℕ) (text : List ℕ) → PlainLexed (lexed_from inner close at text)
unfolding lexed_from
plain_from inner close at [] = tt
plain_from (suc inner) close at (c ∷ cs) = plain_from inner close (at + 1) cs
plain_from zero close at (c ∷ cs) =
    plain_either (is_ascii_whitespace c) _ _ (plain_from zero false (at + 1) cs)
    (plain_found (first_token close c cs) at (λ t n. lexed_from (n - 1) (is_number t) (at + 1) cs)
    (plain_first close c cs) (λ t n. plain_from (n - 1) (is_number t) (at + 1) cs))

pub plain_text : (text : List ℕ) → AllPlain (tokens (lexed text).tokens)
plain_text text = plain_from 0 false 0 text

-- a part of plain tokens is plain
pub plain_front : (ts us : List Token) → AllPlain (ts ++ us) → AllPlain ts
plain_front [] us all = tt
plain_front (t ∷ ts) us all = (all.0, plain_front ts us all.1)

pub plain_last : (ts : List Token) (t : Token) → AllPlain (ts ++ t ∷ []) → Plain t
plain_last [] t all = all.0
plain_last (u ∷ ts) t all = plain_last ts t all.1
