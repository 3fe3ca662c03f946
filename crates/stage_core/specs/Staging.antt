-- what staging a line leaves
use Rattle.std.specs.Prelude.{◌≡◌, ℕ, ◌+◌, ◌≤◌, [], ◌∷◌, ◌++◌, length}
use Rattle.std.specs.List.{flat_map}
use Rattle.journal_format.specs.declared.items.Item.{Item}
use Rattle.journal_format.specs.Filled.{Filled, HasPlace}
use Rattle.journal_format.specs.Spelling.{Txn, item_bytes}
use Rattle.txn_core.specs.declared.staging.Staged.{Staged}
use Rattle.txn_core.specs.Staged.{StagedList}

-- how many bytes these items have
abbrev pub bytes_of : Txn → ℕ
bytes_of items = length (flat_map item_bytes items)

-- where the item keeps the limits, there is room for it
abbrev pub HasRoomFor : Filled → Item → Type 0
HasRoomFor txn item = HasPlace txn.items item → length (item_bytes item) ≤ txn.room

-- These items were added, and took no more room than their bytes.
pub record Adds (items : Txn) (old new : Filled) : Type 0 where
  pub all : new.items ≡ old.items ++ items
  pub room : old.room ≤ new.room + bytes_of items

-- The line stands behind the staged ones, and took one of their room.
pub record Appends (staged : Staged) (old new : StagedList) : Type 0 where
  pub list : new.list ≡ old.list ++ staged ∷ []
  pub room : new.room + 1 ≡ old.room
