use Rattle.std.proofs.Common.{◌≡◌, drop, map, not}
use Rattle.script_read.specs.Allowed.{all_ops}
use Rattle.script_read.specs.Phases.{actors_in}
use Rattle.broker_top.specs.Built.{is_built_line}
use Rattle.broker_top.specs.Sooner.{first_line, sooner}
use Rattle.broker_top.proofs.built.first_unbuilt.Given as goal

abbrev pub invariant-phases : goal.invariant-phases
invariant-phases l =
    sooner l.found (first_line (λ op. not (is_built_line op.what)) (all_ops (map actors_in (drop l.phase-index l.phases))))
    ≡ first_line (λ op. not (is_built_line op.what)) (all_ops (map actors_in l.phases))
