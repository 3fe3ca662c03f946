-- the actors of a phase, as they are made
use Rattle.std.specs.Prelude.{◌≡◌, ℕ, Some, List, length, slice_get}
use Rattle.std.specs.List.{AllByRecursion}
use Rattle.acts_core.specs.Sight.{Sight}
use Rattle.defs_read.specs.Defined.{Defined}
use Rattle.script_read.specs.declared.lines.Op.{Op}
use Rattle.target_core.specs.Seats.{Seats}
use Rattle.workers_core.specs.Made.{IsServed, puts_in}
use Rattle.phase_actors.specs.Passes.{IsFreshPass, places_of}
use Rattle.phase_actors.specs.Targets.{HasTargets}

-- actors do the lines of this one: none is of a transaction
abbrev pub HasServedOps : List ℕ × List Op → Type 0
HasServedOps actor = AllByRecursion (λ op. IsServed op.what) actor.1

-- An actor of this name and these lines, as it is before the first of them: caller h, with a fresh pass of each queue,
-- and with the targets of the consumers that its lines name.
pub record IsCast (defs : List Defined) (bosses : List Sight) (seats : Seats) (h : ℕ) (name : List ℕ)
    (ops : List Op) (sights : List Sight) (own : Seats) : Type 0 where
  pub as_many : length sights ≡ length defs
  pub passes : (q : ℕ) (def : Defined) (s t : Sight)
      → slice_get defs q ≡ Some def → slice_get bosses q ≡ Some s → slice_get sights q ≡ Some t
      → IsFreshPass s.opening h (places_of name def.consumers) (puts_in q ops) t
  pub targets : HasTargets seats ops own
