-- the statements of the laws, each proved as the contract of a function in src/laws.rt
use Rattle.std.specs.Prelude.{◌≡◌, ℕ, ◌+◌, List, [], ◌++◌, length, Ok}
use Rattle.std.specs.List.{flat_map}
use Rattle.message_core.specs.Spelling.{Content, content, cut, header_bytes, IsMessage}
use Rattle.message_core.specs.Reading.{message_of}

-- two messages whose bytes begin one list are one message, with the same bytes after it
abbrev pub ContentFirst : Type 0
ContentFirst = (m n : Content) (xs ys : List ℕ) → IsMessage m → IsMessage n → content m ++ xs ≡ content n ++ ys → (m ≡ n) × (xs ≡ ys)

-- no content is a proper prefix of another
abbrev pub NoPrefix : Type 0
NoPrefix = (m n : Content) (more : List ℕ) → IsMessage m → IsMessage n → content n ≡ content m ++ more → more ≡ []

-- the bytes of a message are read as that message
abbrev pub RoundTrip : Type 0
RoundTrip = (m : Content) → IsMessage m → message_of (content m) ≡ Ok m

-- how many bytes a message has
abbrev pub SizeOf : Type 0
SizeOf = (m : Content) → length (content m) ≡ 16 + (length (flat_map header_bytes m.headers) + length m.body)

-- how many of them are not the body's
abbrev pub CutSize : Type 0
CutSize = (m : Content) → length (content m) ≡ length (cut m) + length m.body

-- a message stays one when its body is taken off
abbrev pub Cleared : Type 0
Cleared = (m : Content) → IsMessage m → IsMessage (record m { body = [] })
