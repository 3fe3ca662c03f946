-- Reading from left to right, with the first fault that is met (docs/FORMATS.md).
use Rattle.std.specs.Prelude.{◌≡◌, ℕ, zero, suc, ◌-◌, Bool, true, false, List, [], ◌∷◌, ◌++◌, length, take, drop, Result, Ok, Err, nat_lt, nat_le, ◌==◌, ◌&&◌, min, if◌then◌else◌}
use Rattle.std.specs.Int.{Width, w16, w32, w64, byte_len, from_be_bytes, cast_signed}
use Rattle.std.specs.Str.{is_utf8}
use Rattle.byte_lists.specs.declared.limits.TheConstants.{MOST_BYTES}
use Rattle.message_core.specs.declared.limits.TheConstants.{TOP_PRIORITY}
use Rattle.message_core.specs.declared.faults.DecodeFault.{DecodeFault}
use Rattle.message_core.specs.declared.faults.DecodeFault.TheVariants.{NotMessage, NoMemory}
use Rattle.message_core.specs.declared.headers.Header.{Header}
use Rattle.message_core.specs.declared.headers.HeaderValue.{HeaderValue}
use Rattle.message_core.specs.declared.headers.HeaderValue.TheVariants as value
use Rattle.message_core.specs.declared.numbers.ReadFault.{ReadFault}
use Rattle.message_core.specs.declared.numbers.ReadFault.TheVariants as read
use Rattle.message_core.specs.Spelling.{Content, parts}
use Rattle.message_core.specs.Names.{is_among}

-- What a step reads: a value and the bytes after it. Err tells how many bytes are left from the first byte of
-- the field that is at fault.
abbrev pub Read : Type 0 → Type 0
Read A = Result (A × List ℕ) ℕ

infixl 10 ◌>>=◌
-- the next step goes on from what the one before gave; a fault ends the reading
abbrev pub ◌>>=◌ : {A B : Type 0} → Result A ℕ → (A → Result B ℕ) → Result B ℕ
(Ok x) >>= f = f x
(Err left) >>= f = Err left

-- a value that is allowed, or a fault where so many bytes are left
abbrev pub allowed : {A : Type 0} → Bool → ℕ → A → Result A ℕ
allowed good left x = if good then Ok x else Err left

-- a number of so many bits, big-endian
abbrev pub number_at : Width → List ℕ → Read ℕ
number_at w bytes =
    if nat_lt (length bytes) (byte_len w) then Err (length bytes)
    else Ok (from_be_bytes w (take (byte_len w) bytes), drop (byte_len w) bytes)

-- one byte
abbrev pub byte_at : List ℕ → Read ℕ
byte_at [] = Err 0
byte_at (b ∷ rest) = Ok (b, rest)

-- so many bytes
abbrev pub bytes_at : ℕ → List ℕ → Read (List ℕ)
bytes_at n bytes = if nat_lt (length bytes) n then Err (length bytes) else Ok (take n bytes, drop n bytes)

-- 0 or 1
unfoldable pub flag_at : List ℕ → Read Bool
flag_at [] = Err 0
flag_at (zero ∷ rest) = Ok (false, rest)
flag_at (suc zero ∷ rest) = Ok (true, rest)
flag_at (suc (suc b) ∷ rest) = Err (suc (length rest))

-- from 0 up to the greatest priority
unfoldable pub priority_at : List ℕ → Read ℕ
priority_at bytes = do
  b ← byte_at bytes
  allowed (nat_le b.0 TOP_PRIORITY) (length bytes) b

-- so many bytes of UTF-8; a fault is where so many bytes are left
unfoldable pub utf8_at : ℕ → ℕ → List ℕ → Read (List ℕ)
utf8_at left n bytes =
    if nat_lt (length bytes) n then Err left
    else allowed (is_utf8 (take n bytes)) left (take n bytes, drop n bytes)

-- a name that is none of those before it; its fault is at its own first byte, behind its length
unfoldable pub name_at : List (List ℕ) → List ℕ → Read (List ℕ)
name_at taken bytes = do
  len ← byte_at bytes
  name ← utf8_at (length len.1) len.0 len.1
  if is_among name.0 taken then Err (length len.1) else Ok name

-- a text; its fault is at its length
unfoldable pub text_at : List ℕ → Read (List ℕ)
text_at bytes = do
  len ← number_at w32 bytes
  utf8_at (length bytes) len.0 len.1

-- a tag, and the value behind it
unfoldable pub value_at : List ℕ → Read HeaderValue
value_at [] = Err 0
value_at (zero ∷ rest) = Ok (value.Bool false, rest)
value_at (suc zero ∷ rest) = Ok (value.Bool true, rest)
value_at (suc (suc zero) ∷ rest) = do
  n ← number_at w64 rest
  Ok (value.Int (cast_signed w64 n.0), n.1)
value_at (suc (suc (suc zero)) ∷ rest) = do
  t ← text_at rest
  Ok (value.Text t.0, t.1)
value_at (suc (suc (suc (suc tag))) ∷ rest) = Err (suc (length rest))

-- a header whose name is none of those that are taken
unfoldable pub header_at : List (List ℕ) → List ℕ → Read Header
header_at taken bytes = do
  name ← name_at taken bytes
  v ← value_at name.1
  Ok (record { name = name.0; value = v.0 }, v.1)

-- so many headers, none with one of the names that are taken before it
unfoldable pub headers_at : ℕ → List (List ℕ) → List ℕ → Read (List Header)
headers_at zero taken bytes = Ok ([], bytes)
headers_at (suc n) taken bytes = do
  first ← header_at taken bytes
  others ← headers_at n (taken ++ first.0.name ∷ []) first.1
  Ok (first.0 ∷ others.0, others.1)

-- the fields of a message, in their order
unfoldable pub content_at : List ℕ → Read Content
content_at bytes = do
  id ← number_at w64 bytes
  persistent ← flag_at id.1
  priority ← priority_at persistent.1
  count ← number_at w16 priority.1
  headers ← headers_at count.0 [] count.1
  len ← number_at w32 headers.1
  body ← bytes_at len.0 len.1
  Ok (parts id.0 persistent.0 priority.0 headers.0 body.0, body.1)

-- the place of a fault where so many of the bytes are left: bytes above the limit are at fault where too many begin
abbrev pub place_of : ℕ → ℕ → ℕ
place_of size left = min (size - left) MOST_BYTES

-- the message where nothing is left and there are no more bytes than a message may have, or the place of the first fault
abbrev pub ended : ℕ → Read Content → Result Content ℕ
ended size (Ok x) =
    if length x.1 == 0 && nat_le size MOST_BYTES then Ok x.0
    else Err (place_of size (length x.1))
ended size (Err left) = Err (place_of size left)

-- all of the bytes
unfoldable pub message_of : List ℕ → Result Content ℕ
message_of bytes = ended (length bytes) (content_at bytes)

-- ---- What a function returned, seen by view, is what reading gives, unless memory ran out.

-- a function that failed tells the fault of the reading
abbrev pub Leaves : {Y : Type 0} → ReadFault → Result Y ℕ → Type 0
Leaves read.NoMemory r = Unit {0}
Leaves (read.Left left) r = r ≡ Err left

-- a function tells what the reading gives
abbrev pub Gives : {X Y : Type 0} → (X → Y) → Result X ReadFault → Result Y ℕ → Type 0
Gives view (Ok x) r = r ≡ Ok (view x)
Gives view (Err e) r = Leaves e r

-- a function that takes no memory refuses alone: where its field begins, so all of the bytes are left
abbrev pub IsAtFront : ReadFault → List ℕ → Type 0
IsAtFront e bytes = e ≡ read.Left (length bytes)

-- decode tells the place of the first fault
abbrev pub Refuses : DecodeFault → Result Content ℕ → Type 0
Refuses (NotMessage at) r = r ≡ Err at
Refuses NoMemory r = Unit {0}

-- decode tells the message or the place of the first fault
abbrev pub Decodes : Result Content DecodeFault → Result Content ℕ → Type 0
Decodes (Ok m) r = r ≡ Ok m
Decodes (Err e) r = Refuses e r
