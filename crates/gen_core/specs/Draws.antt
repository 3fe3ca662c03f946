-- the numbers that are drawn one after the other, and the messages that they make
use Rattle.std.specs.Prelude.{ℕ, zero, suc, ◌+◌, ◌*◌, ◌/◌, ◌%◌, ◌^◌, false, [], replicate}
use Rattle.message_core.specs.Spelling.{Content, parts}
use Rattle.gen_core.specs.declared.definitions.TheConstants.{PRIORITIES}
use Rattle.gen_core.specs.declared.draws.TheConstants.{FACTOR, SUMMAND, LOW_BITS, LENGTHS, LETTER}

-- the number that follows x: of the sum the lowest 64 bits
abbrev pub next_of : ℕ → ℕ
next_of x = (x * FACTOR + SUMMAND) % 2 ^ 64

-- the number after so many steps from the first one
abbrev pub number_after : ℕ → ℕ → ℕ
number_after first zero = first
number_after first (suc i) = next_of (number_after first i)

-- what is used of a number: its 31 high bits
abbrev pub drawn : ℕ → ℕ
drawn x = x / 2 ^ LOW_BITS

-- the priority of the message that the number x makes, and how many letters its body has
abbrev pub priority_of : ℕ → ℕ
priority_of x = drawn x % PRIORITIES

abbrev pub length_of : ℕ → ℕ
length_of x = drawn x / PRIORITIES % LENGTHS

-- the message with this id that the number x makes: not persistent, and without headers
abbrev pub message_of : ℕ → ℕ → Content
message_of id x = parts id false (priority_of x) [] (replicate (length_of x) LETTER)
