-- what is left of the rows
use Rattle.std.specs.Prelude.{◌≡◌, ◌≢◌, ℕ, ◌<◌, Bool, Some, List, [], ◌∷◌, length, get_or, slice_index}
use Rattle.queue_model.specs.declared.rows.RowState.TheVariants.{Deleted}
use Rattle.acts_core.specs.Kept.{Kept}
use Rattle.acts_core.specs.Rest.{Left, left_of}
use Rattle.acts_core.specs.Load.{Load}
use Rattle.acts_core.specs.declared.cargoes.RestEntry.{RestEntry}
use Rattle.kept_rows.specs.Rows.{kept_at, CameOut, Comes}

-- the entry is row r, with its cargo and this mark
pub record IsLeftAt (k : Kept) (marks : ℕ → Bool) (e : Left) (r : ℕ) : Type 0 where
  pub slip : e.slip ≡ (kept_at k r).slip
  pub state : e.state ≡ (kept_at k r).state
  pub outdated : e.outdated ≡ marks r
  pub load : CameOut (kept_at k r) (Some e.load)

-- the entries are the first n of these rows, one by one
pub record Gathered {C : Type 0} (load : C → Load) (k : Kept) (marks : ℕ → Bool) (order : List ℕ) (n : ℕ) (es : List (RestEntry C)) : Type 0 where
  pub long : length es ≡ n
  pub each : (i : ℕ) (e : RestEntry C) → i < n → e ≡ get_or es i e → IsLeftAt k marks (left_of load e) (slice_index order i)

-- row r is there, and not deleted
pub record IsLiveAt (k : Kept) (r : ℕ) : Type 0 where
  pub inside : r < length k.rows
  pub live : (kept_at k r).state ≢ Deleted

-- The entries are all rows that are not deleted, in queue order, each with its mark.
pub record RestsOf (by_key : Bool) (k : Kept) (marks : ℕ → Bool) (es : List Left) : Type 0 where
  pub rows : List ℕ
  pub long : length es ≡ length rows
  pub left : (i : ℕ) (e : Left) → i < length rows → e ≡ get_or es i e → IsLeftAt k marks e (slice_index rows i)
  pub each : (i : ℕ) → i < length rows → IsLiveAt k (slice_index rows i)
  pub whole : (r : ℕ) → IsLiveAt k r → (i : ℕ) × (i < length rows) × (slice_index rows i ≡ r)
  pub ordered : (i j : ℕ) → i < j → j < length rows → Comes by_key k (slice_index rows i) (slice_index rows j)
