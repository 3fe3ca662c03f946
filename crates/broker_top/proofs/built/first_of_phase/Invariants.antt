use Rattle.std.proofs.Common.{◌≡◌, drop, map, not}
use Rattle.script_read.specs.Allowed.{ops_in}
use Rattle.broker_top.specs.Built.{is_built_line}
use Rattle.broker_top.specs.Sooner.{first_line, sooner}
use Rattle.broker_top.proofs.built.first_of_phase.Given as goal

abbrev pub invariant-actors : goal.invariant-actors
invariant-actors l =
    sooner l.found (first_line (λ op. not (is_built_line op.what)) (ops_in (map (λ actor. (actor.0, actor.1.items)) (drop l.actor-index l.actors))))
    ≡ first_line (λ op. not (is_built_line op.what)) (ops_in (map (λ actor. (actor.0, actor.1.items)) l.actors))
