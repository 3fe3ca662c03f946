-- a consumer's cursor, and when it is true of a pass
use Rattle.std.specs.Prelude.{◌≡◌, ◌⊎◌, ℕ, ◌<◌, ◌≤◌, Some, List, slice_index}
use mathlib.Core.List.{IsPrefix}
use Rattle.queue_model.specs.declared.deeds.Deed.{Deed}
use Rattle.queue_model.specs.declared.queues.Bell.{Bell}
use Rattle.queue_model.specs.declared.queues.Queue.{Queue}
use Rattle.queue_model.specs.declared.rows.Row.{Row}
use Rattle.queue_model.specs.History.{after}
use Rattle.queue_model.specs.State.{row_at, list_at, place_at, bell_at}
use Rattle.acts_core.specs.Owed.{mark, Looked, taken_any}
use Rattle.acts_core.specs.Walks.{reach, IsStop}

-- row e is in list l, at a place before n
pub record IsWithin (q : Queue) (l n e : ℕ) : Type 0 where
  pub row : Row
  pub found : row_at q e ≡ Some row
  pub list : row.slip.list ≡ l
  pub below : place_at q e < n

-- the bell of consumer c at the row's list is of a row at or before row e
abbrev pub Rings : Queue → ℕ → ℕ → Type 0
Rings q c e = (b : Bell) × (bell_at q c (list_at q e) ≡ Some b) × (b.place ≤ place_at q e)

-- Row e was not free to consumer c when looked at, not earlier than it came or was last rung for; or the bell leads back to
-- it.
abbrev pub LookedOr : Queue → ℕ → ℕ → List Deed → Type 0
LookedOr o c e ds = Looked o c e (mark c e ds) ds ⊎ Rings (after o ds) c e

-- Each row of list l up to stop w was looked at, or the bell leads back to it.
pub record Good (o : Queue) (c l w : ℕ) (ds : List Deed) : Type 0 where
  pub stop : IsStop (after o ds) l w
  pub looked : (e : ℕ) → IsWithin (after o ds) l (reach (after o ds) w) e → LookedOr o c e ds

-- Stops of consumer c, one in each list, are true of what was seen: after some beginning of it each was good, and no bell of
-- the consumer was taken since then.
pub record TrueOf (o : Queue) (c : ℕ) (stops : List ℕ) (seen : List Deed) : Type 0 where
  pub from : List Deed
  pub prefix : IsPrefix from seen
  pub untaken : taken_any c seen ≡ taken_any c from
  pub good : (l : ℕ) → l < o.lists → Good o c l (slice_index stops l) from

-- each stop is good now
abbrev pub TrueNow : Queue → ℕ → List ℕ → List Deed → Type 0
TrueNow o c stops seen = (l : ℕ) → l < o.lists → Good o c l (slice_index stops l) seen
