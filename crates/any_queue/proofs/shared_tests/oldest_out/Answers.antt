use Rattle.acts_core.proofs.Passes.{pass_dequeues}
use Rattle.any_queue.specs.Kinds.{build_in, sight_in}
use Rattle.any_queue.proofs.Sharing.{oldest_held}
use Rattle.any_queue.proofs.shared_tests.oldest_out.Goals as goal

pub dequeue-requires-clause-holder : goal.dequeue-requires-clause-holder
dequeue-requires-clause-holder g c =
    let oldest = c.in-Got.ensures.called in
    oldest_held (build_in c.args.queue.now) (sight_in c.args.pass.now) (sight_in c.oldest.new.pass) c.in-Got.row oldest.0 _ oldest.1

pub delete-requires-clause-dequeued : goal.delete-requires-clause-dequeued
delete-requires-clause-dequeued g c =
    let dequeue = c.dequeue.ensures.called in
    pass_dequeues (build_in c.args.queue.now) (sight_in c.oldest.new.pass) (sight_in c.dequeue.new.pass) c.in-Got.row dequeue.0 dequeue.1
