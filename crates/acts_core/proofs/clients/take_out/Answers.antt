use Rattle.std.proofs.Common.{sym}
use Rattle.acts_core.specs.Calls.{CallNext, IsEmpty}
use Rattle.acts_core.proofs.Passes.{pass_dequeues}
use Rattle.acts_core.proofs.Running.{ran_one, got_held, takes_out}
use Rattle.acts_core.proofs.clients.take_out.Goals as goal

pub dequeue-requires-clause-holder : goal.dequeue-requires-clause-holder
dequeue-requires-clause-holder g c =
    let sight = g.Q.SharedQueue.sight in
    let next = c.in-Got.ensures.called in
    got_held (g.Q.SharedQueue.build c.args.queue.now) (sight c.args.pass.now) (sight c.next.new.pass) c.args.consumer c.in-Got.row next.0 (g.C.Cargo.load c.in-Got.cargo) next.1

pub delete-requires-clause-dequeued : goal.delete-requires-clause-dequeued
delete-requires-clause-dequeued g c =
    let sight = g.Q.SharedQueue.sight in
    let dequeue = c.dequeue.ensures.called in
    pass_dequeues (g.Q.SharedQueue.build c.args.queue.now) (sight c.next.new.pass) (sight c.dequeue.new.pass) c.in-Got.row dequeue.0 dequeue.1

pub returns-in-Got-clause-takes : goal.returns-in-Got-clause-takes
returns-in-Got-clause-takes g c =
    let sight = g.Q.SharedQueue.sight in
    let next = c.in-Got.ensures.called in
    let dequeue = c.dequeue.ensures.called in
    takes_out (g.Q.SharedQueue.build c.args.queue.now) (sight c.args.pass.now) (sight c.next.new.pass) (sight c.dequeue.new.pass) (sight c.delete.new.pass)
    c.args.consumer c.in-Got.row next.0 dequeue.0 _ (g.C.Cargo.load c.in-Got.cargo) (sym c.id.ensures) next.1 dequeue.1 c.delete.ensures.called

pub returns-in-Empty-clause-takes : goal.returns-in-Empty-clause-takes
returns-in-Empty-clause-takes g c =
    let sight = g.Q.SharedQueue.sight in
    ran_one (g.Q.SharedQueue.build c.args.queue.now) (sight c.args.pass.now) (sight c.next.new.pass) (CallNext c.args.consumer) IsEmpty c.in-Empty.ensures.called.1
