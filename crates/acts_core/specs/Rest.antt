-- what is left of a queue at its end
use Rattle.std.specs.Prelude.{◌≡◌, ◌≢◌, ℕ, Bool, false, IsTrue, ◌↔◌, List, [], ◌∷◌}
use Rattle.std.specs.List.{AllByRecursion}
use mathlib.Core.List.{Mem}
use Rattle.queue_model.specs.declared.queues.Queue.{Queue}
use Rattle.queue_model.specs.declared.rows.Row.{Row}
use Rattle.queue_model.specs.declared.rows.RowState.{RowState}
use Rattle.queue_model.specs.declared.rows.RowState.TheVariants.{Available, Locked, Unlocked, Dequeued, Deleted}
use Rattle.queue_model.specs.declared.rows.Slip.{Slip}
use Rattle.queue_model.specs.Order.{Precedes}
use Rattle.acts_core.specs.Load.{Load}
use Rattle.acts_core.specs.declared.cargoes.RestEntry.{RestEntry}
use Rattle.acts_core.specs.Sight.{Kind, LastValue, order_of}
use Rattle.acts_core.specs.Held.{IsOutdatedIn}
use Rattle.acts_core.specs.Moments.{IsRow, IsLoadOf}
use Rattle.acts_core.specs.Kept.{Kept, KeptRow}

-- the row rests: nobody holds it, and it is not between its dequeue and its deletion
abbrev pub Rests : RowState → Type 0
Rests Available = Unit {0}
Rests (Locked h) = ⊥
Rests (Unlocked h) = Unit {0}
Rests Dequeued = ⊥
Rests Deleted = Unit {0}

-- each row rests
abbrev pub AtRest : Kept → Type 0
AtRest k = AllByRecursion (λ (x : KeptRow). Rests x.state) k.rows

-- what contracts see of an entry that is left
pub record Left : Type 0 where
  pub slip : Slip
  pub state : RowState
  pub outdated : Bool
  pub load : Load

-- what contracts see of it, where they see this of its cargo
abbrev pub left_of : {C : Type 0} → (C → Load) → RestEntry C → Left
left_of load e = record { slip = e.slip; state = e.state; outdated = e.outdated; load = load e.cargo }

-- the mark says whether a later row of the same key has come, on a last-value queue alone
abbrev pub Marks : Kind → Queue → ℕ → Bool → Type 0
Marks LastValue q r b = IsTrue b ↔ IsOutdatedIn q r
Marks kind q r b = b ≡ false

-- the entry is this row
pub record IsLeft (kind : Kind) (q : Queue) (e : Left) (x : Row) : Type 0 where
  pub slip : e.slip ≡ x.slip
  pub state : e.state ≡ x.state
  pub same : IsLoadOf x e.load
  pub marks : Marks kind q x.number e.outdated

-- the entries are these rows, one by one
abbrev pub AreLeft : Kind → Queue → List Left → List Row → Type 0
AreLeft kind q [] [] = Unit {0}
AreLeft kind q (e ∷ es) (x ∷ xs) = IsLeft kind q e x × AreLeft kind q es xs
AreLeft kind q es xs = ⊥

-- the row is one of the queue, and not deleted
pub record IsLive (q : Queue) (x : Row) : Type 0 where
  pub there : IsRow q x
  pub live : x.state ≢ Deleted

-- each row comes before all behind it
abbrev pub InOrder : Kind → Queue → List Row → Type 0
InOrder kind q [] = Unit {0}
InOrder kind q (x ∷ xs) = AllByRecursion (λ y. Precedes (order_of kind) q x y) xs × InOrder kind q xs

-- all rows that are not deleted, in queue order
pub record AreRests (kind : Kind) (q : Queue) (es : List Left) : Type 0 where
  pub rows : List Row
  pub left : AreLeft kind q es rows
  pub live : AllByRecursion (IsLive q) rows
  pub whole : (x : Row) → IsLive q x → Mem x rows
  pub ordered : InOrder kind q rows
