-- when a call of a one-thread queue may be made, and what it does in the state in which it is served
use Rattle.std.specs.Prelude.{◌≡◌, ℕ, ◌+◌, ◌<◌, false, List}
use Rattle.queue_model.specs.declared.deeds.Act.{Act}
use Rattle.queue_model.specs.declared.deeds.Act.TheVariants.{Reserve, GiveBack}
use Rattle.queue_model.specs.declared.queues.Queue.{Queue}
use Rattle.queue_model.specs.declared.rows.RowState.TheVariants.{Locked, Dequeued}
use Rattle.queue_model.specs.History.{after, Legal, deeds_of}
use Rattle.queue_model.specs.State.{IsIn, empty}
use Rattle.queue_model.specs.Table.{Can}
use Rattle.acts_core.specs.Asked.{Enters, Handed}
use Rattle.acts_core.specs.Calls.{Call, CallDepth, CallReserve, CallGiveBack, CallPut, CallNext, CallOldest, CallFind, CallLock, CallUnlock, CallRelease, CallSteal, CallDequeue, CallDelete, Answer, acts_of}
use Rattle.acts_core.specs.Held.{Means}
use Rattle.acts_core.specs.Kept.{Kept, Stands}
use Rattle.acts_core.specs.Owed.{Has}
use Rattle.acts_core.specs.Sight.{Kind, Sorted, Plan}

-- a plan with no bells: the acts of a call on a held queue go by nothing else
abbrev pub held_plan : Plan
held_plan = record { opening = empty 1 64; kind = Sorted; bells = false }

-- the acts of a call on a held queue with this answer
abbrev pub held_acts : Call → Answer → List Act
held_acts call answer = acts_of held_plan call answer

-- caller h may make the call in this state
abbrev pub CanCall : Queue → ℕ → Call → Type 0
CanCall q h CallDepth = Unit {0}
CanCall q h (CallReserve size) = Can q h (Reserve size)
CanCall q h (CallGiveBack size) = Can q h (GiveBack size)
CanCall q h (CallPut slip load) = Enters q h slip load
CanCall q h (CallNext c) = c < 64
CanCall q h CallOldest = Unit {0}
CanCall q h (CallFind id) = Unit {0}
CanCall q h (CallLock r) = Has q r
CanCall q h (CallUnlock r load) = Handed q h r load
CanCall q h (CallRelease r load) = Handed q h r load
CanCall q h (CallSteal r) = Has q r
CanCall q h (CallDequeue r) = IsIn q r (Locked h)
CanCall q h (CallDelete r) = IsIn q r Dequeued

-- how many rows a call takes of the spare: a put one, the others none
abbrev pub rows_of_call : Call → ℕ
rows_of_call (CallPut slip load) = 1
rows_of_call call = 0

-- the call may be made in a state for which the queue stands
abbrev pub MayCall : Kept → ℕ → Call → Type 0
MayCall k h call = (q : Queue) × Stands k q × CanCall q h call

-- The call was served: what holds in each state for which the queue stood, and where the call may be made.
pub record Serves (kind : Kind) (old new : Kept) (h : ℕ) (call : Call) (answer : Answer) : Type 0 where
  pub spare : new.spare + rows_of_call call ≡ old.spare
  pub legal : (q : Queue) → Stands old q → CanCall q h call → Legal q (deeds_of h (held_acts call answer))
  pub means : (q : Queue) → Stands old q → CanCall q h call → Means kind q h call answer
  pub stands : (q : Queue) → Stands old q → CanCall q h call → Stands new (after q (deeds_of h (held_acts call answer)))
