-- the last row of each key, and the rows that a later one outdates
use Rattle.std.specs.Prelude.{◌≡◌, ◌≢◌, ℕ, ◌+◌, ◌<◌, ◌≤◌, ◌↔◌, Bool, false, IsTrue, Option, Some, None, List, get_or, length, slice_index}
use Rattle.queue_model.specs.declared.rows.RowState.TheVariants.{Available}
use Rattle.queue_model.specs.Order.{KeyBefore}
use Rattle.acts_core.specs.Kept.{Kept}
use Rattle.kept_rows.specs.Rows.{kept_at}

-- the key of row r
abbrev pub key_at : Kept → ℕ → Option (List ℕ)
key_at k r = (kept_at k r).slip.key

-- a later row of the key of row r has come
pub record HasLater (k : Kept) (r : ℕ) : Type 0 where
  pub later : ℕ
  pub after : r < later
  pub inside : later < length k.rows
  pub same : key_at k later ≡ key_at k r
  pub some : key_at k r ≢ None

-- row r has a key, and is the last row of it
pub record IsLastOf (k : Kept) (r : ℕ) : Type 0 where
  pub inside : r < length k.rows
  pub some : key_at k r ≢ None
  pub last : ¬ (HasLater k r)

-- The last rows of all keys stand by key, and the marks tell of each row whether it has a later one. No available
-- row has one.
pub record KeepsLast (k : Kept) (lasts : List ℕ) (marks : List Bool) : Type 0 where
  pub long : length marks ≡ length k.rows
  pub marked : (r : ℕ) → r < length k.rows → IsTrue (get_or marks r false) ↔ HasLater k r
  pub each : (i : ℕ) → i < length lasts → IsLastOf k (slice_index lasts i)
  pub whole : (r : ℕ) → IsLastOf k r → (i : ℕ) × (i < length lasts) × (slice_index lasts i ≡ r)
  pub sorted : (i j : ℕ) → i < j → j < length lasts → KeyBefore (key_at k (slice_index lasts i)) (key_at k (slice_index lasts j))
  pub one : (r : ℕ) → r < length k.rows → (kept_at k r).state ≡ Available → ¬ (HasLater k r)
  pub few : length lasts ≤ length k.rows

-- vectors of these capacities have room for the spare
pub record HasRoom (k : Kept) (lasts marks : ℕ) : Type 0 where
  pub lasts_fit : k.spare + length k.rows ≤ lasts
  pub marks_fit : k.spare + length k.rows ≤ marks

-- A key stands at this place of the last rows.
pub record StandsAt (k : Kept) (lasts : List ℕ) (key : Option (List ℕ)) (i : ℕ) : Type 0 where
  pub inside : i < length lasts
  pub same : key_at k (slice_index lasts i) ≡ key

-- A key does not stand among the last rows, and its row would belong at this place.
pub record BelongsAt (k : Kept) (lasts : List ℕ) (key : Option (List ℕ)) (i : ℕ) : Type 0 where
  pub inside : i ≤ length lasts
  pub below : (j : ℕ) → j < i → KeyBefore (key_at k (slice_index lasts j)) key
  pub above : (j : ℕ) → i ≤ j → j < length lasts → KeyBefore key (key_at k (slice_index lasts j))
