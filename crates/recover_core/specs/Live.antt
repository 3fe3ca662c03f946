-- Which entries are live.
use Rattle.std.specs.Prelude.{ℕ, Bool, false, List, [], ◌∷◌, ◌++◌, ◌==◌, ◌&&◌, ◌||◌, if◌then◌else◌}
use Rattle.std.specs.Str.{bytes_eq}
use Rattle.journal_format.specs.declared.items.Item.{Item}
use Rattle.journal_format.specs.declared.items.Item.TheVariants.{Entered, Gone}
use Rattle.journal_format.specs.Spelling.{Txn}

-- a Gone of this queue and id is among them
abbrev pub is_gone : List ℕ → ℕ → List Item → Bool
is_gone queue id [] = false
is_gone queue id (Gone q i ∷ rest) = (i == id && bytes_eq q queue) || is_gone queue id rest
is_gone queue id (Entered q m ∷ rest) = is_gone queue id rest

-- the items that entered a message, in order, without those after which a Gone of the same queue and id stands
abbrev pub live_items : List Item → List Item
live_items [] = []
live_items (Gone q i ∷ rest) = live_items rest
live_items (Entered q m ∷ rest) = if is_gone q m.id rest then live_items rest else Entered q m ∷ live_items rest

-- all items of transactions, in order
abbrev pub items_of : List Txn → List Item
items_of [] = []
items_of (t ∷ ts) = t ++ items_of ts

-- what the transactions leave
abbrev pub live : List Txn → List Item
live ts = live_items (items_of ts)
