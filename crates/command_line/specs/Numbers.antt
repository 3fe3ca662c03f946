-- decimal numbers as words of the command line
use Rattle.std.specs.Prelude.{ℕ, ◌+◌, ◌-◌, ◌*◌, nat_le, ◌==◌, ◌&&◌, Bool, not, List, [], ◌∷◌, length}
use Rattle.std.specs.List.{list_all}
use Rattle.gen_core.specs.declared.phases.TheConstants.{MOST_MESSAGES}
use Rattle.command_line.specs.declared.numbers.TheConstants.{MOST_DIGITS, MOST_DIGITS_OF_COUNT, NINE, ZERO}

-- a decimal digit
abbrev pub is_digit : ℕ → Bool
is_digit byte = nat_le ZERO byte && nat_le byte NINE

-- the number that is written where these digits stand behind those of n
abbrev pub number_behind : ℕ → List ℕ → ℕ
number_behind n [] = n
number_behind n (digit ∷ digits) = number_behind (n * 10 + (digit - ZERO)) digits

-- the number that digits write; zeros in front of it don't matter
abbrev pub number_of : List ℕ → ℕ
number_of digits = number_behind 0 digits

-- one to so many decimal digits, and nothing else
abbrev pub is_numeral : ℕ → List ℕ → Bool
is_numeral most text = not (length text == 0) && (nat_le (length text) most && list_all is_digit text)

-- a text that may stand as the number from which a script is made
abbrev pub is_number : List ℕ → Bool
is_number text = is_numeral MOST_DIGITS text

-- a text that may stand as a count of messages: not 0, and at most 100,000
abbrev pub is_count : List ℕ → Bool
is_count text = is_numeral MOST_DIGITS_OF_COUNT text && (nat_le 1 (number_of text) && nat_le (number_of text) MOST_MESSAGES)
