-- which calls a decision is
use Rattle.std.specs.Prelude.{◌≡◌, ℕ, ◌⊎◌, Bool, true, false}
use Rattle.acts_core.specs.Calls.{CallDepth, CallReserve, CallGiveBack, CallOldest, Answer, IsDepth, IsGot, IsEmpty, IsDone}
use Rattle.acts_core.specs.Load.{Load}
use Rattle.acts_core.specs.Meaning.{Called}
use Rattle.acts_core.specs.Sight.{Build, Sight}
use Rattle.queue_model.specs.declared.queues.Depth.{Depth}
use Rattle.queue_model.specs.declared.queues.Limits.{Limits}
use Rattle.overflow_core.specs.declared.verdicts.Trim.{Trim}
use Rattle.overflow_core.specs.declared.verdicts.Trim.TheVariants.{Fits, Over, Nothing}
use Rattle.overflow_core.specs.declared.verdicts.Verdict.{Verdict}
use Rattle.overflow_core.specs.Limits.{judged, is_refusal, is_ring, is_beyond}

-- a reservation was given back where its put is refused; else nothing more was done
abbrev pub GivesBack : Build → Sight → Sight → ℕ → Bool → Type 0
GivesBack build old new size true = Called build old new (CallGiveBack size) IsDone
GivesBack build old new size false = new ≡ old

-- A put of this size was judged by the depth that its own reservation showed, and its reservation was given back where it
-- is refused; was and now tell whether its producer is stopped, before and after.
pub record Admits (build : Build) (old new : Sight) (limits : Limits) (was now persistent : Bool) (size : ℕ) (v : Verdict) : Type 0 where
  pub shown : Depth
  pub verdict : (v, now) ≡ judged limits was persistent size shown
  pub between : Sight
  pub reserved : Called build old between (CallReserve size) (IsDepth shown)
  pub given : GivesBack build between new size (is_refusal v)

-- a ring was found beyond its limits, and its oldest entry was asked for, with this answer
pub record Trims (build : Build) (old new : Sight) (limits : Limits) (answer : Answer) : Type 0 where
  pub ring : is_ring limits ≡ true
  pub shown : Depth
  pub beyond : is_beyond limits shown ≡ true
  pub between : Sight
  pub looked : Called build old between CallDepth (IsDepth shown)
  pub asked : Called build between new CallOldest answer

-- a ring was found within its limits
pub record IsWithin (build : Build) (old new : Sight) (limits : Limits) : Type 0 where
  pub ring : is_ring limits ≡ true
  pub shown : Depth
  pub within : is_beyond limits shown ≡ false
  pub looked : Called build old new CallDepth (IsDepth shown)

-- what was found of a queue, and what was done; nothing is done where it is no ring
abbrev pub Trimmed : {C : Type 0} → (C → Load) → Build → Sight → Sight → Limits → Trim C → Type 0
Trimmed load build old new limits Fits = ((is_ring limits ≡ false) × (new ≡ old)) ⊎ IsWithin build old new limits
Trimmed load build old new limits (Over r c) = (l : ℕ) × Trims build old new limits (IsGot r l (load c))
Trimmed load build old new limits Nothing = Trims build old new limits IsEmpty
