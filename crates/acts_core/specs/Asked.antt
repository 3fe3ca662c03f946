-- what calls ask of their callers, in what these know of their queue
use Rattle.std.specs.Prelude.{◌≡◌, ℕ, ◌<◌, ◌≤◌, Bool, false, ◌==◌, if◌then◌else◌, Option, Some, None, List, [], ◌∷◌, length}
use Rattle.queue_model.specs.declared.deeds.Act.{Act}
use Rattle.queue_model.specs.declared.deeds.Act.TheVariants.{Acq, Lock, Unlock, Steal, Rel, Deq, Del}
use Rattle.queue_model.specs.declared.deeds.Deed.{Deed}
use Rattle.queue_model.specs.declared.queues.Queue.{Queue}
use Rattle.queue_model.specs.declared.rows.Row.{Row}
use Rattle.queue_model.specs.declared.rows.RowState.TheVariants.{Locked}
use Rattle.queue_model.specs.declared.rows.Slip.{Slip}
use Rattle.queue_model.specs.History.{own}
use Rattle.queue_model.specs.Sound.{IsOpening}
use Rattle.queue_model.specs.State.{row_at, reserved_by}
use Rattle.queue_model.specs.Table.{FitsQueue, CanGive}
use Rattle.acts_core.specs.Load.{Load}
use Rattle.acts_core.specs.Sight.{Kind, Listed, Build, Sight, known}

-- the act changes the state of row r
abbrev pub touches : ℕ → Act → Bool
touches r (Acq s) = s == r
touches r (Lock s) = s == r
touches r (Unlock s n) = s == r
touches r (Steal s) = s == r
touches r (Rel s n) = s == r
touches r (Deq s) = s == r
touches r (Del s) = s == r
touches r a = false

-- the one, or else the other
abbrev pub or_else : Option Act → Option Act → Option Act
or_else (Some a) o = Some a
or_else None o = o

-- the last act of the history that changes the state of row r
abbrev pub last_on : ℕ → List Deed → Option Act
last_on r [] = None
last_on r (d ∷ ds) = or_else (last_on r ds) (if touches r d.act then Some d.act else None)

-- what h did last to row r, as far as was seen, was to leave it
abbrev pub HasLeft : ℕ → ℕ → List Deed → Type 0
HasLeft h r seen = (n : ℕ) × (last_on r (own h seen) ≡ Some (Unlock r n))

-- what h did last to row r, as far as was seen, was to take it out of the queue
abbrev pub HasDequeued : ℕ → ℕ → List Deed → Type 0
HasDequeued h r seen = last_on r (own h seen) ≡ Some (Deq r)

-- h holds row r, and the cargo is what it was handed for it, delivered more often perhaps
pub record Handed (q : Queue) (h r : ℕ) (load : Load) : Type 0 where
  pub row : Row
  pub found : row_at q r ≡ Some row
  pub held : row.state ≡ Locked h
  pub id : load.id ≡ row.slip.id
  pub size : load.size ≡ row.slip.size
  pub content : load.content ≡ row.content
  pub origin : load.origin ≡ row.origin
  pub count : row.count ≤ load.count

-- h has reserved what the slip takes, the slip fits the queue, and slip and cargo agree
pub record Enters (q : Queue) (h : ℕ) (slip : Slip) (load : Load) : Type 0 where
  pub fits : FitsQueue q.lists q.consumers slip
  pub reserved : CanGive (reserved_by q h) slip.size
  pub id : slip.id ≡ load.id
  pub size : slip.size ≡ load.size

-- a listed queue has no keys
abbrev pub KeyFits : Kind → Option (List ℕ) → Type 0
KeyFits Listed key = key ≡ None
KeyFits kind key = Unit {0}

-- h may put this slip and cargo
pub record MayPut (kind : Kind) (q : Queue) (h : ℕ) (slip : Slip) (load : Load) : Type 0 where
  pub enters : Enters q h slip load
  pub key : KeyFits kind slip.key

-- the greatest number of a caller, and one more
abbrev pub most_callers : ℕ
most_callers = 4294967296

-- What holds of each pass of a queue: its queue began with an opening and never has more rows than there is room for.
pub record IsSightOf (build : Build) (s : Sight) : Type 0 where
  pub opening : IsOpening s.opening
  pub rows : length (known s).rows ≤ build.rows
  pub caller : s.caller < most_callers
