-- How a text is cut into tokens (docs/SELECTORS.md, "Tokens").
use Rattle.std.specs.Prelude.{ℕ, suc, zero, ◌+◌, ◌-◌, ◌^◌, drop, pos, ◌==◌, ◌||◌, ◌&&◌, nat_lt, Bool, true, false, List, [], ◌∷◌, length, map, Option, Some, None, option_map, codes, if◌then◌else◌}
use Rattle.std.specs.Char.{is_ascii_alphabetic, is_ascii_digit, is_ascii_whitespace, to_ascii_lowercase}
use Rattle.std.specs.List.{take_while}
use Rattle.std.specs.Str.{bytes_eq}
use Rattle.std.specs.Str.Parse.{digits_value}
use Rattle.selector_tokens.specs.declared.faults.Kind.{Kind}
use Rattle.selector_tokens.specs.declared.faults.Kind.TheVariants.{BadChar, OpenString, FloatLiteral, IntRange}
use Rattle.selector_tokens.specs.declared.tokens.CompareOp.TheVariants.{Equal, Unequal, Less, LessEqual, Greater, GreaterEqual}
use Rattle.selector_tokens.specs.declared.tokens.Word.{Word}
use Rattle.selector_tokens.specs.declared.tokens.Word.TheVariants as reserved
use Rattle.selector_tokens.specs.declared.tokens.Token.{Token}
use Rattle.selector_tokens.specs.declared.tokens.Token.TheVariants as token
use Rattle.selector_tokens.specs.declared.tokens.Placed.{Placed}

-- ---- identifiers and reserved words

-- an ASCII letter, `_` or `$`
abbrev pub begins_name : ℕ → Bool
begins_name c = is_ascii_alphabetic c || (c == 95 || c == 36)

-- what an identifier goes on with: these and digits
abbrev pub is_name_byte : ℕ → Bool
is_name_byte c = begins_name c || is_ascii_digit c

-- the reserved words, in small letters
abbrev pub reserved_words : List (List ℕ × Word)
reserved_words =
    (codes "and", reserved.And) ∷ (codes "or", reserved.Or) ∷ (codes "not", reserved.Not) ∷ (codes "between", reserved.Between)
    ∷ (codes "in", reserved.In) ∷ (codes "like", reserved.Like) ∷ (codes "escape", reserved.Escape) ∷ (codes "is", reserved.Is)
    ∷ (codes "null", reserved.Null) ∷ (codes "true", reserved.True) ∷ (codes "false", reserved.False) ∷ []

-- the word whose letters these are
abbrev pub word_among : List (List ℕ × Word) → List ℕ → Option Word
word_among [] letters = None
word_among (entry ∷ entries) letters = if bytes_eq letters entry.0 then Some entry.1 else word_among entries letters

-- the reserved word that these letters are, whatever their case
unfoldable pub word_of : List ℕ → Option Word
word_of letters = word_among reserved_words (map to_ascii_lowercase letters)

-- letters as a token: a reserved word if they are one, and else an identifier
abbrev pub name_or_word : List ℕ → Option Word → Token
name_or_word letters None = token.Name letters
name_or_word letters (Some word) = token.Word word

-- ---- the first token of a text

-- what stands first in a text that is not blank there
pub data First : Type 0 where
  -- this token, which takes so many bytes
  found : Token → ℕ → First
  -- no token can be read here
  fault : Kind → First

-- whether a text's first byte is this one
abbrev pub begins_with : ℕ → List ℕ → Bool
begins_with c [] = false
begins_with c (b ∷ bs) = b == c

-- whether a text's first byte passes
abbrev pub begins_with_any : (ℕ → Bool) → List ℕ → Bool
begins_with_any passes [] = false
begins_with_any passes (b ∷ bs) = passes b

-- a text that begins with just these letters
abbrev pub name_first : List ℕ → First
name_first letters = found (name_or_word letters (word_of letters)) (length letters)

-- `.`, `e` or `E`: what would go on a number as a float
abbrev pub is_float_byte : ℕ → Bool
is_float_byte c = c == 46 || (c == 101 || c == 69)

-- a run of digits, and the text behind it
abbrev pub number_first : List ℕ → List ℕ → First
number_first digits behind =
    if begins_with_any is_float_byte behind then fault FloatLiteral
    else if nat_lt (digits_value 10 digits) (2 ^ 63) then found (token.Number (pos (digits_value 10 digits))) (length digits) else fault IntRange

-- a string with one character more in front, which takes n bytes of the text
abbrev pub longer : ℕ → ℕ → List ℕ × ℕ → List ℕ × ℕ
longer c n string = (c ∷ string.0, n + string.1)

-- behind an opening quote: what the string says, with each doubled quote once, and how many bytes it takes with its
-- closing quote
unfoldable pub string_in : List ℕ → Option (List ℕ × ℕ)
string_in [] = None
string_in (c ∷ []) = if c == 39 then Some ([], 1) else None
string_in (c ∷ d ∷ cs) =
    if c == 39 then (if d == 39 then option_map (longer 39 2) (string_in cs) else Some ([], 1))
    else option_map (longer c 1) (string_in (d ∷ cs))

-- a string, if it has a closing quote; it takes its opening quote too
abbrev pub string_first : Option (List ℕ × ℕ) → First
string_first None = fault OpenString
string_first (Some string) = found (token.Text string.0) (suc string.1)

-- a sign, given the text behind its first byte; a `.` before a digit begins a float
abbrev pub sign_first : ℕ → List ℕ → First
sign_first c behind =
    if c == 61 then found (token.Compare Equal) 1
    else if c == 60 then (if begins_with 62 behind then found (token.Compare Unequal) 2 else if begins_with 61 behind then found (token.Compare LessEqual) 2 else found (token.Compare Less) 1)
    else if c == 62 then (if begins_with 61 behind then found (token.Compare GreaterEqual) 2 else found (token.Compare Greater) 1)
    else if c == 43 then found token.Plus 1
    else if c == 45 then found token.Minus 1
    else if c == 42 then found token.Times 1
    else if c == 47 then found token.Divide 1
    else if c == 40 then found token.Open 1
    else if c == 41 then found token.Close 1
    else if c == 44 then found token.Comma 1
    else if c == 46 && begins_with_any is_ascii_digit behind then fault FloatLiteral
    else fault BadChar

-- the first token of a text that begins with the byte c, which is no white space; `close` says that a number ends
-- just before it
unfoldable pub first_token : Bool → ℕ → List ℕ → First
first_token close c cs =
    if begins_name c then (if close then fault BadChar else name_first (take_while is_name_byte (c ∷ cs)))
    else if is_ascii_digit c then number_first (take_while is_ascii_digit (c ∷ cs)) (drop (length (take_while is_ascii_digit (c ∷ cs))) (c ∷ cs))
    else if c == 39 then string_first (string_in cs)
    else sign_first c cs

-- ---- a whole text

-- what stands at the end of a text, or of the part of it that is tokens: a place, and the fault there if there is one
pub record Stop : Type 0 where
  pub at : ℕ
  pub fault : Option Kind

-- the tokens of a text from the left, up to its end or to the first place where none can be read
pub record Lexed : Type 0 where
  pub tokens : List Placed
  pub stop : Stop

-- no token, and this at the end
abbrev pub stops : ℕ → Option Kind → Lexed
stops at why = record { tokens = []; stop = record { at = at; fault = why } }

-- one token more in front
abbrev pub then_lexed : ℕ → Token → Lexed → Lexed
then_lexed at t rest = record rest { tokens = record { at = at; token = t } ∷ rest.tokens }

-- a number, which no identifier may directly follow
abbrev pub is_number : Token → Bool
is_number (token.Number n) = true
is_number other = false

-- the text from the place `at` on, of which the first `inner` bytes belong to a token that was read already
unfoldable pub lexed_from : ℕ → Bool → ℕ → List ℕ → Lexed
lexed_from inner close at [] = stops at None
lexed_from (suc inner) close at (c ∷ cs) = lexed_from inner close (at + 1) cs
lexed_from zero close at (c ∷ cs) =
    if is_ascii_whitespace c then lexed_from zero false (at + 1) cs
    else elim (first_token close c cs) as (λ _. Lexed) [
      | found t n ↦ then_lexed at t (lexed_from (n - 1) (is_number t) (at + 1) cs)
      | fault kind ↦ stops at (Some kind)
    ]

-- the tokens of a whole text, and what stands at their end
abbrev pub lexed : List ℕ → Lexed
lexed text = lexed_from 0 false 0 text
