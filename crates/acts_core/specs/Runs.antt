-- the calls that a caller makes by one pass, one after the other
use Rattle.std.specs.Prelude.{◌≡◌, ◌≢◌, ℕ, zero, suc, Option, Some, None, List, [], ◌∷◌, map}
use Rattle.queue_model.specs.declared.queues.Depth.{Depth}
use Rattle.queue_model.specs.declared.rows.Slip.{Slip}
use Rattle.acts_core.specs.Calls.{Call, CallReserve, CallPut, CallNext, CallUnlock, CallDequeue, CallDelete, Answer, IsDepth, IsGot, IsEmpty, IsFreed, IsDone}
use Rattle.acts_core.specs.Chains.{Made, Chain}
use Rattle.acts_core.specs.Hands.{SamePass}
use Rattle.acts_core.specs.Load.{Load}
use Rattle.acts_core.specs.Meaning.{allowance_after, share_after}
use Rattle.acts_core.specs.Sight.{Build, plan_of, Sight}

-- how many entries may still be reserved after these calls
abbrev pub allowance_over : List (Call × Answer) → ℕ → ℕ
allowance_over [] n = n
allowance_over (c ∷ cs) n = allowance_over cs (allowance_after c.0 n)

-- how many rows may still be drawn after these calls
abbrev pub share_over : List (Call × Answer) → ℕ → ℕ
share_over [] n = n
share_over (c ∷ cs) n = share_over cs (share_after c.0 c.1 n)

-- the caller made these calls by its pass, in this order, each with its meaning, and no others
pub record Ran (build : Build) (old new : Sight) (calls : List (Call × Answer)) : Type 0 where
  pub made : List Made
  pub same : map (λ m. (m.call, m.answer)) made ≡ calls
  pub chain : Chain (plan_of build old.opening) old.caller old.seen made new.seen
  pub pass : SamePass old new
  pub allowance : new.allowance ≡ allowance_over calls old.allowance
  pub share : new.share ≡ share_over calls old.share

-- What the clients of src/clients.rt do

-- an entry was put in, or nothing was put and its reservation stays
abbrev pub PutsIn : Build → Sight → Sight → Slip → Load → Answer → Type 0
PutsIn build old new slip load answer =
    (d : Depth) × Ran build old new ((CallReserve slip.size, IsDepth d) ∷ (CallPut slip load, answer) ∷ [])

-- the next entry of a consumer was taken out, and this is its id; None where there was none to take
abbrev pub TakesOut : Build → Sight → Sight → ℕ → Option ℕ → Type 0
TakesOut build old new c None = Ran build old new ((CallNext c, IsEmpty) ∷ [])
TakesOut build old new c (Some id) =
    (r : ℕ) × (l : ℕ) × (load : Load) × (size : ℕ) × (load.id ≡ id)
    × Ran build old new ((CallNext c, IsGot r l load) ∷ (CallDequeue r, IsFreed size) ∷ (CallDelete r, IsDone) ∷ [])

-- two entries of a consumer were acquired and left again, the later one first; or there was one, or none
abbrev pub LeavesTwo : Build → Sight → Sight → ℕ → ℕ → Type 0
LeavesTwo build old new c zero = Ran build old new ((CallNext c, IsEmpty) ∷ [])
LeavesTwo build old new c (suc zero) =
    (r : ℕ) × (l : ℕ) × (load : Load)
    × Ran build old new ((CallNext c, IsGot r l load) ∷ (CallNext c, IsEmpty) ∷ (CallUnlock r load, IsDone) ∷ [])
LeavesTwo build old new c (suc (suc zero)) =
    (r : ℕ) × (l : ℕ) × (load : Load) × (s : ℕ) × (m : ℕ) × (other : Load) × (s ≢ r)
    × Ran build old new
    ((CallNext c, IsGot r l load) ∷ (CallNext c, IsGot s m other) ∷ (CallUnlock s other, IsDone) ∷ (CallUnlock r load, IsDone) ∷ [])
LeavesTwo build old new c (suc (suc (suc n))) = ⊥
