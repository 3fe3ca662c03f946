-- calls on a queue, their answers, and the acts of each
use Rattle.std.specs.Prelude.{ℕ, ◌+◌, ◌-◌, ◌==◌, if◌then◌else◌, zero, suc, Option, Some, None, List, [], ◌∷◌, ◌++◌}
use Rattle.std.specs.Int.{bit_at}
use Rattle.queue_model.specs.declared.deeds.Act.{Act}
use Rattle.queue_model.specs.declared.deeds.Act.TheVariants.{Acq, Lock, Unlock, Steal, Rel, Deq, Del, Reserve, GiveBack, Enq, Bell, Take}
use Rattle.queue_model.specs.declared.queues.Depth.{Depth}
use Rattle.queue_model.specs.declared.rows.RowState.{RowState}
use Rattle.queue_model.specs.declared.rows.Slip.{Slip}
use Rattle.acts_core.specs.Load.{Load}
use Rattle.acts_core.specs.Sight.{Plan}

-- A call, as contracts see what it is given: sizes in bytes, slips, cargo, consumers, ids, and rows by their numbers.
pub data Call : Type 0 where
  CallDepth : Call
  CallReserve : ℕ → Call
  CallGiveBack : ℕ → Call
  CallPut : Slip → Load → Call
  CallNext : ℕ → Call
  CallOldest : Call
  CallFind : ℕ → Call
  CallLock : ℕ → Call
  CallUnlock : ℕ → Load → Call
  CallRelease : ℕ → Load → Call
  CallSteal : ℕ → Call
  CallDequeue : ℕ → Call
  CallDelete : ℕ → Call

-- An answer. Beside what the caller is answered it has what the acts of the call depend on.
pub data Answer : Type 0 where
  -- the depth
  IsDepth : Depth → Answer
  -- the row of a put, and the row that it displaced with its cargo, if any
  IsAt : ℕ → Option (ℕ × Load) → Answer
  -- nothing was put; the cargo comes back
  IsSpent : Load → Answer
  -- a row, its list, and its cargo
  IsGot : ℕ → ℕ → Load → Answer
  -- there is no row to get
  IsEmpty : Answer
  -- the row that was found, if any
  IsFound : Option ℕ → Answer
  -- a row was locked again; its cargo
  IsLocked : Load → Answer
  -- a row was not locked again; its state
  IsStolen : RowState → Answer
  -- a row was released; its mask
  IsReleased : ℕ → Answer
  -- a row was not released, since a later one of its key has come; the cargo comes back
  IsOutdated : Load → Answer
  -- a row was stolen; its cargo
  HasStolen : Load → Answer
  -- a row was not stolen, since nobody had left it; its state
  IsNotStealable : RowState → Answer
  -- a row was not stolen, since it had changed when it was to be taken; its state then
  IsMoved : RowState → Answer
  -- a row was dequeued; its size
  IsFreed : ℕ → Answer
  -- it is done
  IsDone : Answer

-- The acts of a call with this answer

-- takes of the bells of consumer c at n lists from l on, the highest first
abbrev pub takes_down : ℕ → ℕ → ℕ → List Act
takes_down c l zero = []
takes_down c l (suc n) = Take c (l + n) ∷ takes_down c l n

-- the bells of row r, of those of the n consumers from c on whose bits are set
abbrev pub rings_up : ℕ → ℕ → ℕ → ℕ → List Act
rings_up r mask c zero = []
rings_up r mask c (suc n) =
    if bit_at mask c == 1 then Bell r c ∷ rings_up r mask (c + 1) n else rings_up r mask (c + 1) n

-- the bells that a walk of consumer c down to list l takes, where bells are used
abbrev pub bells_taken : Plan → ℕ → ℕ → List Act
bells_taken p c l = if p.bells then takes_down c l (p.opening.lists - l) else []

-- the bells that a release rings, where bells are used
abbrev pub bells_rung : Plan → ℕ → ℕ → List Act
bells_rung p r mask = if p.bells then rings_up r mask 0 p.opening.consumers else []

-- the acquisition of a displaced row, if any
abbrev pub displacing : Option (ℕ × Load) → List Act
displacing None = []
displacing (Some d) = Acq d.0 ∷ []

-- What a call with this answer does to the queue, as acts of its caller in order. Other answers do nothing.
abbrev pub acts_of : Plan → Call → Answer → List Act
acts_of p (CallReserve size) a = Reserve size ∷ []
acts_of p (CallGiveBack size) a = GiveBack size ∷ []
acts_of p (CallPut slip load) (IsAt r displaced) =
    Enq r slip load.content load.origin load.count ∷ displacing displaced
acts_of p (CallNext c) (IsGot r l load) = bells_taken p c l ++ Acq r ∷ []
acts_of p (CallNext c) IsEmpty = bells_taken p c 0
acts_of p CallOldest (IsGot r l load) = Acq r ∷ []
acts_of p (CallLock r) (IsLocked load) = Lock r ∷ []
acts_of p (CallUnlock r load) a = Unlock r load.count ∷ []
acts_of p (CallRelease r load) (IsReleased mask) = Rel r load.count ∷ bells_rung p r mask
acts_of p (CallSteal r) (HasStolen load) = Steal r ∷ []
acts_of p (CallDequeue r) (IsFreed size) = Deq r ∷ GiveBack size ∷ []
acts_of p (CallDelete r) a = Del r ∷ []
acts_of p call a = []
