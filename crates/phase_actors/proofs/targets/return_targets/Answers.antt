use Rattle.phase_actors.proofs.Moving.{returning, returned, none_returned}
use Rattle.phase_actors.proofs.targets.return_targets.Goals as goal

pub consumers-init : goal.consumers-init
consumers-init g c = none_returned _ _

pub consumers-preserved : goal.consumers-preserved
consumers-preserved g c = returning _ _ _ _ _ _ _ c.consumers.invariant c.move_target.ensures

pub returns : goal.returns
returns g c = returned _ _ _ _ _ _ c.args.from.now.places c.args.to.now.places c.consumers-test.false c.consumers.invariant
