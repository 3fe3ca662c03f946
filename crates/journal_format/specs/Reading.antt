-- Reading from left to right, with the first fault that is met (docs/FORMATS.md).
use Rattle.std.specs.Prelude.{◌≡◌, ℕ, zero, suc, ◌+◌, ◌-◌, min, Bool, true, false, List, [], ◌∷◌, ◌++◌, length, get_or, take, drop, Result, Ok, Err, nat_lt, nat_le, ◌==◌, ◌&&◌, if◌then◌else◌}
use Rattle.std.specs.Int.{w32, w64}
use Rattle.message_core.specs.Spelling.{Content}
use Rattle.message_core.specs.Reading.{Read, ◌>>=◌, allowed, number_at, byte_at, bytes_at, message_of}
use Rattle.journal_format.specs.declared.limits.TheConstants.{LONGEST_QUEUE_NAME, MOST_ITEMS}
use Rattle.journal_format.specs.declared.items.Item.{Item}
use Rattle.journal_format.specs.declared.items.Item.TheVariants.{Entered, Gone}
use Rattle.journal_format.specs.Spelling.{Txn}

-- ---- parts

-- what all of the bytes are, or the place of the first fault in them: nothing may be left
abbrev pub all_of : {A : Type 0} → ℕ → Read A → Result A ℕ
all_of size (Ok x) = if length x.1 == 0 then Ok x.0 else Err (size - length x.1)
all_of size (Err left) = Err (size - left)

-- what a part is, and the bytes behind it; a fault is told by its place in the part
abbrev pub placed : {A : Type 0} → ℕ → List ℕ → Result A ℕ → Read A
placed size rest (Ok x) = Ok (x, rest)
placed size rest (Err at) = Err ((size - at) + length rest)

-- so many bytes, which are read as a whole
unfoldable pub part_at : {A : Type 0} → (List ℕ → Result A ℕ) → ℕ → List ℕ → Read A
part_at whole len bytes = do
  part ← bytes_at len bytes
  placed (length part.0) part.1 (whole part.0)

-- so many of them, one after the other
unfoldable pub many_at : {A : Type 0} → (List ℕ → Read A) → ℕ → List ℕ → Read (List A)
many_at one zero bytes = Ok ([], bytes)
many_at one (suc n) bytes = do
  first ← one bytes
  others ← many_at one n first.1
  Ok (first.0 ∷ others.0, others.1)

-- ---- items

-- one byte of length from 1 to 64, and that many bytes; a name that is cut short is at fault at its length
unfoldable pub name_at : List ℕ → Read (List ℕ)
name_at bytes = do
  len ← byte_at bytes
  ok ← allowed (nat_le 1 len.0 && (nat_le len.0 LONGEST_QUEUE_NAME && nat_le len.0 (length len.1))) (length bytes) len
  Ok (take ok.0 ok.1, drop ok.0 ok.1)

-- a message has to be persistent: its flag, the byte at 8, is at fault where it is 0, unless an earlier place is
abbrev pub flagged : List ℕ → Result Content ℕ → Result Content ℕ
flagged bytes (Ok m) = if m.persistent then Ok m else Err 8
flagged bytes (Err at) = if get_or bytes 8 1 == 0 then Err (min at 8) else Err at

-- the persistent message that all of the bytes are, or the place of the first fault
unfoldable pub persistent_of : List ℕ → Result Content ℕ
persistent_of bytes = flagged bytes (message_of bytes)

-- four bytes of length, and that many bytes, which are a persistent message
unfoldable pub message_at : List ℕ → Read Content
message_at bytes = do
  len ← number_at w32 bytes
  part_at persistent_of len.0 len.1

-- the tag, the queue's name, and the message or the id
unfoldable pub item_at : List ℕ → Read Item
item_at [] = Err 0
item_at (zero ∷ rest) = Err (suc (length rest))
item_at (suc zero ∷ rest) = do
  queue ← name_at rest
  message ← message_at queue.1
  Ok (Entered queue.0 message.0, message.1)
item_at (suc (suc zero) ∷ rest) = do
  queue ← name_at rest
  id ← number_at w64 queue.1
  Ok (Gone queue.0 id.0, id.1)
item_at (suc (suc (suc tag)) ∷ rest) = Err (suc (length rest))

-- ---- batches

-- a number of items, from 1 to 65,536, and so many items
unfoldable pub txn_at : List ℕ → Read Txn
txn_at bytes = do
  count ← number_at w32 bytes
  ok ← allowed (nat_le 1 count.0 && nat_le count.0 MOST_ITEMS) (length bytes) count
  many_at item_at ok.0 ok.1

-- a number of transactions, at least 1, and so many transactions
unfoldable pub txns_at : List ℕ → Read (List Txn)
txns_at bytes = do
  count ← number_at w32 bytes
  ok ← allowed (nat_le 1 count.0) (length bytes) count
  many_at txn_at ok.0 ok.1

-- the transactions that all of the bytes are, or the place of the first fault
unfoldable pub txns_of : List ℕ → Result (List Txn) ℕ
txns_of bytes = all_of (length bytes) (txns_at bytes)

-- What stands behind an open gate: a length, and that many bytes, which are transactions. The length has to leave one
-- more byte for the next gate.
unfoldable pub batch_at : List ℕ → Read (List Txn)
batch_at bytes = do
  len ← number_at w64 bytes
  ok ← allowed (nat_lt len.0 (length len.1)) (length bytes) len
  part_at txns_of ok.0 ok.1
