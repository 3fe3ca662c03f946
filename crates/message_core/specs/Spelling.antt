-- what messages are, and the bytes of each (docs/FORMATS.md)
use Rattle.std.specs.Prelude.{ℕ, ◌<◌, ◌≤◌, ◌^◌, Bool, true, false, List, [], ◌∷◌, ◌++◌, length, map, FitsSigned, if◌then◌else◌, Option, Some, None}
use Rattle.std.specs.List.{flat_map, All, IsDistinct}
use Rattle.std.specs.Int.{w16, w32, w64, to_be_bytes, cast_unsigned}
use Rattle.std.specs.Str.{IsUtf8, bytes_eq}
use Rattle.byte_lists.specs.declared.limits.TheConstants.{MOST_BYTES}
use Rattle.message_core.specs.declared.limits.TheConstants.{LONGEST_NAME, MOST_HEADERS, TOP_PRIORITY}
use Rattle.message_core.specs.declared.headers.Header.{Header}
use Rattle.message_core.specs.declared.headers.HeaderValue.{HeaderValue}
use Rattle.message_core.specs.declared.headers.HeaderValue.TheVariants as value

-- a message as contracts see it
pub record Content : Type 0 where
  pub id : ℕ
  pub persistent : Bool
  pub priority : ℕ
  pub headers : List Header
  pub body : List ℕ

-- the message of these parts
abbrev pub parts : ℕ → Bool → ℕ → List Header → List ℕ → Content
parts id persistent priority headers body =
    record { id = id; persistent = persistent; priority = priority; headers = headers; body = body }

-- ---- the bytes

-- 0 for no, 1 for yes
abbrev pub flag_byte : Bool → ℕ
flag_byte false = 0
flag_byte true = 1

-- four bytes of length, and that many bytes
abbrev pub text_bytes : List ℕ → List ℕ
text_bytes t = to_be_bytes w32 (length t) ++ t

-- the tag, and the value behind it
abbrev pub value_bytes : HeaderValue → List ℕ
value_bytes (value.Bool b) = flag_byte b ∷ []
value_bytes (value.Int n) = 2 ∷ to_be_bytes w64 (cast_unsigned w64 n)
value_bytes (value.Text t) = 3 ∷ text_bytes t

-- one byte of length, the name, and the value
abbrev pub header_bytes : Header → List ℕ
header_bytes h = (length h.name ∷ h.name) ++ value_bytes h.value

-- the number of headers, and each header in order
abbrev pub headers_bytes : List Header → List ℕ
headers_bytes hs = to_be_bytes w16 (length hs) ++ flat_map header_bytes hs

-- the bytes before the length of the body
abbrev pub front : Content → List ℕ
front m = to_be_bytes w64 m.id ++ (flag_byte m.persistent ∷ m.priority ∷ []) ++ headers_bytes m.headers

-- all bytes but those of the body; the length of the body stays
abbrev pub cut : Content → List ℕ
cut m = front m ++ to_be_bytes w32 (length m.body)

-- all bytes of a message: its encoding
abbrev pub content : Content → List ℕ
content m = cut m ++ m.body

-- ---- what has them

-- the names of headers, in order
abbrev pub names : List Header → List (List ℕ)
names hs = map (λ h. h.name) hs

-- a text is UTF-8
abbrev pub IsText : HeaderValue → Type 0
IsText (value.Bool b) = Unit {0}
IsText (value.Int n) = Unit {0}
IsText (value.Text t) = IsUtf8 t

-- the names and the texts are UTF-8
pub record IsReadable (h : Header) : Type 0 where
  pub name : IsUtf8 h.name
  pub text : IsText h.value

-- a whole number is one of 64 bits
abbrev pub IsNumber : HeaderValue → Type 0
IsNumber (value.Bool b) = Unit {0}
IsNumber (value.Int n) = FitsSigned w64 n
IsNumber (value.Text t) = Unit {0}

-- a header that a message may have
pub record IsHeader (h : Header) : Type 0 where
  pub short : length h.name ≤ LONGEST_NAME
  pub readable : IsReadable h
  pub number : IsNumber h.value

-- each limit of a message is kept
pub record IsMessage (m : Content) : Type 0 where
  pub id : m.id < 2 ^ 64
  pub priority : m.priority ≤ TOP_PRIORITY
  pub few : length m.headers ≤ MOST_HEADERS
  pub headers : All IsHeader m.headers
  -- no two headers have one name
  pub distinct : IsDistinct bytes_eq (names m.headers)
  pub short : length (content m) ≤ MOST_BYTES

-- the value of the first header with this name, or none
abbrev pub value_of : List ℕ → List Header → Option HeaderValue
value_of name [] = None
value_of name (h ∷ hs) = if bytes_eq h.name name then Some h.value else value_of name hs
