-- The bytes of transactions and of batches (docs/FORMATS.md).
use Rattle.std.specs.Prelude.{◌≡◌, ℕ, ◌<◌, ◌≤◌, ◌^◌, true, List, [], ◌∷◌, ◌++◌, length}
use Rattle.std.specs.List.{flat_map, All}
use Rattle.std.specs.Int.{w32, w64, to_be_bytes}
use Rattle.message_core.specs.Spelling.{content, text_bytes, IsMessage}
use Rattle.journal_format.specs.declared.limits.TheConstants.{LONGEST_QUEUE_NAME, MOST_ITEMS}
use Rattle.journal_format.specs.declared.items.Item.{Item}
use Rattle.journal_format.specs.declared.items.Item.TheVariants.{Entered, Gone}

-- a transaction: its items in order
abbrev pub Txn : Type 0
Txn = List Item

-- ---- the bytes

-- one byte of length, and the name
abbrev pub name_bytes : List ℕ → List ℕ
name_bytes q = length q ∷ q

-- the tag, the queue's name, and the message behind its length, or the id
abbrev pub item_bytes : Item → List ℕ
item_bytes (Entered q m) = 1 ∷ (name_bytes q ++ text_bytes (content m))
item_bytes (Gone q id) = 2 ∷ (name_bytes q ++ to_be_bytes w64 id)

-- the number of items, and each item in order
abbrev pub txn_bytes : Txn → List ℕ
txn_bytes t = to_be_bytes w32 (length t) ++ flat_map item_bytes t

-- the number of transactions, and each in order
abbrev pub txns_bytes : List Txn → List ℕ
txns_bytes ts = to_be_bytes w32 (length ts) ++ flat_map txn_bytes ts

-- the length of what follows, and that
abbrev pub batch_bytes : List Txn → List ℕ
batch_bytes ts = to_be_bytes w64 (length (txns_bytes ts)) ++ txns_bytes ts

-- ---- what has them

-- a queue's name in a journal
abbrev pub IsName : List ℕ → Type 0
IsName q = (1 ≤ length q) × (length q ≤ LONGEST_QUEUE_NAME)

-- a persistent message that was put, or an entry that is gone
abbrev pub IsItem : Item → Type 0
IsItem (Entered q m) = IsName q × IsMessage m × (m.persistent ≡ true)
IsItem (Gone q id) = IsName q × (id < 2 ^ 64)

-- a transaction that a journal may have
pub record IsTxn (t : Txn) : Type 0 where
  pub some : 1 ≤ length t
  pub few : length t ≤ MOST_ITEMS
  pub items : All IsItem t

-- what an open gate may have behind it
pub record IsBatch (ts : List Txn) : Type 0 where
  pub some : 1 ≤ length ts
  pub few : length ts < 2 ^ 32
  pub txns : All IsTxn ts
  pub short : length (txns_bytes ts) < 2 ^ 64
