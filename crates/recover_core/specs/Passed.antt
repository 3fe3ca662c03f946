-- What a pass from the last item to the first knows.
use Rattle.std.specs.Prelude.{◌≡◌, ℕ, ◌-◌, ◌≤◌, Bool, List, [], ◌∷◌, ◌++◌, length, ◌==◌, ◌&&◌, reverse}
use Rattle.std.specs.List.{flat_map, list_any}
use Rattle.std.specs.Str.{bytes_eq}
use Rattle.std.specs.BTreeSet.{BTreeSet}
use Rattle.journal_format.specs.declared.batches.Batch.{Batch}
use Rattle.journal_format.specs.Spelling.{txn_bytes}
use Rattle.recover_core.specs.declared.kept.Kept.{Kept}
use Rattle.recover_core.specs.declared.keys.Key.{Key}
use Rattle.recover_core.specs.Places.{Found, founds_of, is_lost, kept}

-- two keys have one id and one queue
abbrev pub is_same : Key → Key → Bool
is_same a b = a.id == b.id && bytes_eq a.queue.items b.queue.items

-- the set has the key
abbrev pub has : BTreeSet Key → Key → Bool
has set key = list_any (is_same key) set.keys

-- the set has the keys that are gone by these, and of these the live entries were found, the last one first
pub record Passed (gone : BTreeSet Key) (found : List Kept) (rest : List Found) : Type 0 where
  pub keys : (key : Key) → has gone key ≡ is_lost key.queue.items key.id rest
  pub entries : reverse found ≡ kept rest

-- the place of the first transaction of a batch that was read, by the gate behind it
abbrev pub first_place : Batch → ℕ
first_place b = b.next - length (flat_map txn_bytes b.txns)

-- a batch that was read stands before the gate behind it
abbrev pub IsBefore : Batch → Type 0
IsBefore b = length (flat_map txn_bytes b.txns) ≤ b.next

-- what batches that were read say of entries
abbrev pub founds_read : List Batch → List Found
founds_read [] = []
founds_read (b ∷ bs) = founds_of (first_place b) b.txns ++ founds_read bs
