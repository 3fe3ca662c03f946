use Rattle.acts_core.proofs.Passes.{pass_dequeues, pass_finds}
use Rattle.any_queue.specs.Kinds.{build_in, sight_in}
use Rattle.any_queue.proofs.Sharing.{stolen_held}
use Rattle.any_queue.proofs.shared_tests.steal_out.Goals as goal

pub steal-requires-clause-row : goal.steal-requires-clause-row
steal-requires-clause-row g c =
    let f = pass_finds (build_in c.args.queue.now) (sight_in c.args.pass.now) (sight_in c.find.new.pass) c.args.id c.in-Some.row c.in-Some.ensures.called in
    (f.0, f.1)

pub dequeue-requires-clause-holder : goal.dequeue-requires-clause-holder
dequeue-requires-clause-holder g c =
    stolen_held (build_in c.args.queue.now) (sight_in c.find.new.pass) (sight_in c.steal.new.pass) c.in-Some.row _ c.in-Stolen.ensures.called

pub delete-requires-clause-dequeued : goal.delete-requires-clause-dequeued
delete-requires-clause-dequeued g c =
    let dequeue = c.dequeue.ensures.called in
    pass_dequeues (build_in c.args.queue.now) (sight_in c.steal.new.pass) (sight_in c.dequeue.new.pass) c.in-Some.row dequeue.0 dequeue.1
