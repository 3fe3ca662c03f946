-- Where the items of a journal stand, and which entries are live, with their places.
use Rattle.std.specs.Prelude.{ℕ, ◌+◌, ◌-◌, Bool, false, List, [], ◌∷◌, ◌++◌, length, ◌==◌, ◌&&◌, ◌||◌, if◌then◌else◌}
use Rattle.std.specs.Str.{bytes_eq}
use Rattle.journal_format.specs.declared.items.Item.{Item}
use Rattle.journal_format.specs.declared.items.Item.TheVariants.{Entered, Gone}
use Rattle.journal_format.specs.Spelling.{Txn, item_bytes, txn_bytes}
use Rattle.journal_format.specs.Journal.{open_bytes}
use Rattle.recover_core.specs.declared.kept.Kept.{Kept}

-- what an item says of an entry
pub data Found : Type 0 where
  -- it was put; its places are those of its transaction and of its body
  WasPut : Kept → Found
  -- the entry of this queue and id is gone
  WasTaken : List ℕ → ℕ → Found

-- an item that ends at a place, of the transaction at `at`: the end of a message is its body
abbrev pub found : ℕ → ℕ → Item → Found
found at end (Entered q m) = WasPut (record { queue = q; message = m; at = at; body_at = end - length m.body })
found at end (Gone q i) = WasTaken q i

-- items of the transaction at `at`, one after the other from a place on
abbrev pub founds_in : ℕ → ℕ → List Item → List Found
founds_in at place [] = []
founds_in at place (i ∷ is) = found at (place + length (item_bytes i)) i ∷ founds_in at (place + length (item_bytes i)) is

-- transactions, one after the other from a place on; the first item stands behind the number of items
abbrev pub founds_of : ℕ → List Txn → List Found
founds_of at [] = []
founds_of at (t ∷ ts) = founds_in at (at + 4) t ++ founds_of (at + length (txn_bytes t)) ts

-- batches, the first behind the gate at a place; the first transaction stands 13 bytes after the gate
abbrev pub founds : ℕ → List (List Txn) → List Found
founds gate [] = []
founds gate (b ∷ bs) = founds_of (gate + 13) b ++ founds (gate + length (open_bytes b)) bs

-- ---- with their places

-- the entry of this queue and id is gone by one of them
abbrev pub is_lost : List ℕ → ℕ → List Found → Bool
is_lost queue id [] = false
is_lost queue id (WasTaken q i ∷ rest) = (i == id && bytes_eq q queue) || is_lost queue id rest
is_lost queue id (WasPut k ∷ rest) = is_lost queue id rest

-- the entries that were put and aren't gone after that, in order
abbrev pub kept : List Found → List Kept
kept [] = []
kept (WasTaken q i ∷ rest) = kept rest
kept (WasPut k ∷ rest) = if is_lost k.queue k.message.id rest then kept rest else k ∷ kept rest
