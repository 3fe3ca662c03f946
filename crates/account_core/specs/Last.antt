-- who left a row in its state
use Rattle.std.specs.Prelude.{◌≡◌, ◌≢◌, ℕ, Option, Some, None, List, ◌⊎◌}
use Rattle.queue_model.specs.declared.deeds.Act.{Act}
use Rattle.queue_model.specs.declared.deeds.Act.TheVariants.{Acq, Lock, Unlock, Steal, Rel, Deq, Del}
use Rattle.queue_model.specs.declared.deeds.Deed.{Deed}
use Rattle.queue_model.specs.declared.queues.Queue.{Queue}
use Rattle.queue_model.specs.declared.rows.RowState.{RowState}
use Rattle.queue_model.specs.declared.rows.RowState.TheVariants.{Available, Locked, Unlocked, Dequeued, Deleted}
use Rattle.queue_model.specs.History.{after, Legal, own}
use Rattle.queue_model.specs.State.{IsIn}
use Rattle.acts_core.specs.Asked.{last_on}

-- the state into which an act of h brings its row
abbrev pub leads_to : ℕ → Act → Option RowState
leads_to h (Acq r) = Some (Locked h)
leads_to h (Lock r) = Some (Locked h)
leads_to h (Unlock r n) = Some (Unlocked h)
leads_to h (Steal r) = Some (Locked h)
leads_to h (Rel r n) = Some Available
leads_to h (Deq r) = Some Dequeued
leads_to h (Del r) = Some Deleted
leads_to h a = None

-- A row that is not available is as it was, and nobody touched it; or some caller's last act on it led to its state.
abbrev pub LastTouch : Type 0
LastTouch = (o : Queue) (ds : List Deed) (r : ℕ) (s : RowState) → Legal o ds → IsIn (after o ds) r s → s ≢ Available
    → (IsIn o r s × ((k : ℕ) → last_on r (own k ds) ≡ None))
    ⊎ ((k : ℕ) × (a : Act) × (last_on r (own k ds) ≡ Some a) × (leads_to k a ≡ Some s))
