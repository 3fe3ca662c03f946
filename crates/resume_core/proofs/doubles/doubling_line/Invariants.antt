use Rattle.std.proofs.Common.{◌≡◌, drop, map}
use Rattle.script_read.specs.Allowed.{all_ops}
use Rattle.script_read.specs.Phases.{actors_in}
use Rattle.resume_core.specs.Lines.{first_line, sooner}
use Rattle.resume_core.specs.Steps.{puts_key}
use Rattle.resume_core.proofs.doubles.doubling_line.Given as goal

abbrev pub invariant-phases : goal.invariant-phases
invariant-phases l =
    sooner l.found (first_line (λ op. puts_key l.keys op.what) (all_ops (map actors_in (drop l.phase-index l.phases))))
    ≡ first_line (λ op. puts_key l.keys op.what) (all_ops (map actors_in l.phases))
