use Rattle.acts_core.proofs.Passes.{pass_leaves}
use Rattle.any_queue.specs.Kinds.{build_in, sight_in}
use Rattle.any_queue.proofs.Sharing.{oldest_hand}
use Rattle.any_queue.proofs.shared_tests.hold_and_leave.Goals as goal

pub unlock-requires-clause-handed : goal.unlock-requires-clause-handed
unlock-requires-clause-handed g c =
    let oldest = c.in-Got.ensures.called in
    oldest_hand (build_in c.args.queue.now) (sight_in c.args.pass.now) (sight_in c.oldest.new.pass) c.in-Got.row oldest.0 _ oldest.1

pub returns-in-Got-clause-left : goal.returns-in-Got-clause-left
returns-in-Got-clause-left g c =
    pass_leaves (build_in c.args.queue.now) (sight_in c.oldest.new.pass) (sight_in c.unlock.new.pass) c.in-Got.row _ c.unlock.ensures.called
