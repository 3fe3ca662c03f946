use Rattle.std.proofs.Common.{map, not, refl}
use Rattle.script_read.specs.Allowed.{all_ops, ops_in}
use Rattle.script_read.specs.Phases.{actors_in}
use Rattle.broker_top.specs.Built.{is_built_line}
use Rattle.broker_top.proofs.Firsts.{item_next}
use Rattle.broker_top.proofs.built.first_unbuilt.Goals as goal

pub phases-preserved : goal.phases-preserved
phases-preserved c =
    let next = item_next (λ op. not (is_built_line op.what)) (λ p. ops_in (actors_in p)) (λ ps. all_ops (map actors_in ps)) c.as_slice-phases.result.now c.phases.phase-index c.phase-item.result c.phases.found _
    (λ p ps. refl) c.phases-test.true c.phases.invariant in
    rw (c.sooner-found.ensures, c.first_of_phase.ensures, c.phase-item.is) next
