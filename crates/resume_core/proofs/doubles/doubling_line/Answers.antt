use Rattle.std.proofs.Common.{map, refl}
use Rattle.script_read.specs.Allowed.{all_ops, ops_in}
use Rattle.script_read.specs.Phases.{actors_in}
use Rattle.resume_core.specs.Steps.{puts_key}
use Rattle.resume_core.proofs.Firsts.{item_next}
use Rattle.resume_core.proofs.doubles.doubling_line.Goals as goal

pub phases-preserved : goal.phases-preserved
phases-preserved c =
    let next = item_next (λ op. puts_key c.args.keys.now op.what) (λ p. ops_in (actors_in p)) (λ ps. all_ops (map actors_in ps)) c.as_slice-phases.result.now c.phases.phase-index c.phase-item.result c.phases.found _
    (λ p ps. refl) c.phases-test.true c.phases.invariant in
    rw (c.sooner-found.ensures, c.first_of_phase.ensures, c.phase-item.is) next
