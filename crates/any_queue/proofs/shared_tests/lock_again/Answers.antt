use Rattle.any_queue.specs.Kinds.{build_in, sight_in}
use Rattle.any_queue.proofs.Sharing.{locked_hand}
use Rattle.any_queue.proofs.shared_tests.lock_again.Goals as goal

pub release-requires-clause-handed : goal.release-requires-clause-handed
release-requires-clause-handed g c =
    locked_hand (build_in c.args.queue.now) (sight_in c.args.pass.now) (sight_in c.lock.new.pass) c.args.row _ c.in-Locked.ensures.called
