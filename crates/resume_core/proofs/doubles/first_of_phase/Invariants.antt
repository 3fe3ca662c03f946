use Rattle.std.proofs.Common.{◌≡◌, drop, map}
use Rattle.script_read.specs.Allowed.{ops_in}
use Rattle.resume_core.specs.Lines.{first_line, sooner}
use Rattle.resume_core.specs.Steps.{puts_key}
use Rattle.resume_core.proofs.doubles.first_of_phase.Given as goal

abbrev pub invariant-actors : goal.invariant-actors
invariant-actors l =
    sooner l.found (first_line (λ op. puts_key l.keys op.what) (ops_in (map (λ actor. (actor.0, actor.1.items)) (drop l.actor-index l.actors))))
    ≡ first_line (λ op. puts_key l.keys op.what) (ops_in (map (λ actor. (actor.0, actor.1.items)) l.actors))
