-- the first rows, and starts with one entry of each key
use Rattle.std.specs.Prelude.{◌≡◌, ◌≢◌, ℕ, ◌<◌, Option, None, List, map, get_or, length, take}
use Rattle.queue_model.specs.declared.rows.Slip.{Slip}
use Rattle.acts_core.specs.Kept.{Kept}
use Rattle.lastval_core.specs.Lasts.{key_at}

-- what is kept, with the first n rows alone
abbrev pub front : Kept → ℕ → Kept
front k n = record k { rows = take n k.rows }

-- no two rows have one key
abbrev pub OneOfKey : Kept → Type 0
OneOfKey k = (r s : ℕ) → r < s → s < length k.rows → key_at k r ≢ None → key_at k r ≢ key_at k s

-- the keys of entries
abbrev pub keys_of : {C : Type 0} → List (Slip × C) → List (Option (List ℕ))
keys_of es = map (λ e. e.0.key) es

-- no two entries have one key
abbrev pub KeysApart : {C : Type 0} → List (Slip × C) → Type 0
KeysApart es = (i j : ℕ) → i < j → j < length es → get_or (keys_of es) i None ≢ None → get_or (keys_of es) i None ≢ get_or (keys_of es) j None
