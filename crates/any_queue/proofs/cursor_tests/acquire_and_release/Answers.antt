use Rattle.any_queue.specs.Kinds.{build_in, sight_in}
use Rattle.any_queue.proofs.Sharing.{next_hand}
use Rattle.any_queue.proofs.cursor_tests.acquire_and_release.Goals as goal

pub release-released-requires-clause-handed : goal.release-released-requires-clause-handed
release-released-requires-clause-handed g c =
    let got = c.in-Got.ensures.called in
    next_hand (build_in c.args.queue.now) (sight_in c.args.pass.now) (sight_in c.next.new.pass) 0 c.in-Got.row got.0 _ got.1
