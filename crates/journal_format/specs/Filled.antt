-- transactions that are being filled
use Rattle.std.specs.Prelude.{◌≡◌, ℕ, ◌+◌, ◌<◌, ◌≤◌, List, [], ◌∷◌, ◌++◌, length, Ok, Err}
use Rattle.std.specs.Prelude.{◌⊎◌}
use Rattle.std.specs.List.{flat_map, All}
use Rattle.byte_lists.specs.Room.{Roomy}
use Rattle.message_core.specs.Reading.{Read}
use Rattle.journal_format.specs.declared.items.Item.{Item}
use Rattle.journal_format.specs.declared.limits.TheConstants.{MOST_ITEMS, MOST_TXN_BYTES}
use Rattle.journal_format.specs.Spelling.{Txn, item_bytes, txn_bytes, IsItem}
use Rattle.journal_format.specs.Reading.{many_at, item_at}

-- a transaction as contracts see it: its items, and how many bytes more it can take without memory
pub record Filled : Type 0 where
  pub items : Txn
  pub room : ℕ

-- both limits are kept, and each item is one of a journal
pub record IsLimited (t : Txn) : Type 0 where
  pub few : length t ≤ MOST_ITEMS
  pub short : length (txn_bytes t) ≤ MOST_TXN_BYTES
  pub items : All IsItem t

-- one more item keeps both limits
pub record HasPlace (t : Txn) (item : Item) : Type 0 where
  pub few : length t < MOST_ITEMS
  pub short : length (txn_bytes t) + length (item_bytes item) ≤ MOST_TXN_BYTES

-- one more item would break a limit
abbrev pub IsFull : Txn → Item → Type 0
IsFull t item =
    (MOST_ITEMS ≤ length t) ⊎ (MOST_TXN_BYTES < length (txn_bytes t) + length (item_bytes item))

-- ---- how it is kept: the bytes of its items

-- what was read
abbrev pub read_items : Read Txn → Txn
read_items (Ok x) = x.0
read_items (Err left) = []

-- the items of which these are the bytes
unfoldable pub items_in : ℕ → List ℕ → Txn
items_in count bytes = read_items (many_at item_at count bytes)

-- the bytes are those of so many items, within the limits
pub record IsEncoded (count : ℕ) (bytes : List ℕ) : Type 0 where
  pub is : bytes ≡ flat_map item_bytes (items_in count bytes)
  pub many : length (items_in count bytes) ≡ count
  pub limited : IsLimited (items_in count bytes)

-- and they are within the room
pub record IsKept (count : ℕ) (bytes : Roomy) : Type 0 where
  pub encoded : IsEncoded count bytes.bytes
  pub fits : length bytes.bytes ≤ bytes.room
