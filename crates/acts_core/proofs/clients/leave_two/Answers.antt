use Rattle.acts_core.specs.Calls.{CallNext, IsEmpty}
use Rattle.acts_core.proofs.Running.{ran_one, got_hand, hand_left, one_hand, leaves_one, leaves_two}
use Rattle.acts_core.proofs.clients.leave_two.Goals as goal

pub unlock-requires-clause-handed : goal.unlock-requires-clause-handed
unlock-requires-clause-handed g c =
    let sight = g.Q.SharedQueue.sight in
    let second = c.in-Got-next.ensures.called in
    got_hand (g.Q.SharedQueue.build c.args.queue.now) (sight c.next.new.pass) (sight c.next-in-Got.new.pass) c.args.consumer c.in-Got-next.second second.0 (g.C.Cargo.load c.in-Got-next.cargo) second.1

pub unlock-requires-in-Got-next-clause-handed : goal.unlock-requires-in-Got-next-clause-handed
unlock-requires-in-Got-next-clause-handed g c =
    let sight = g.Q.SharedQueue.sight in
    let load = g.C.Cargo.load in
    let first = c.in-Got.ensures.called in
    let second = c.in-Got-next.ensures.called in
    hand_left (g.Q.SharedQueue.build c.args.queue.now) (sight c.args.pass.now) (sight c.next.new.pass) (sight c.next-in-Got.new.pass) (sight c.unlock.new.pass) c.args.consumer
    c.in-Got.first first.0 c.in-Got-next.second second.0 (load c.in-Got.goods) (load c.in-Got-next.cargo) first.1 second.1 c.unlock.ensures.called

pub unlock-requires-in-Empty-next-clause-handed : goal.unlock-requires-in-Empty-next-clause-handed
unlock-requires-in-Empty-next-clause-handed g c =
    let sight = g.Q.SharedQueue.sight in
    let first = c.in-Got.ensures.called in
    one_hand (g.Q.SharedQueue.build c.args.queue.now) (sight c.args.pass.now) (sight c.next.new.pass) (sight c.next-in-Got.new.pass) c.args.consumer
    c.in-Got.first first.0 (g.C.Cargo.load c.in-Got.goods) first.1 c.in-Empty-next.ensures.called.1

pub returns-in-Got-next-clause-leaves : goal.returns-in-Got-next-clause-leaves
returns-in-Got-next-clause-leaves g c =
    let sight = g.Q.SharedQueue.sight in
    let load = g.C.Cargo.load in
    let first = c.in-Got.ensures.called in
    let second = c.in-Got-next.ensures.called in
    leaves_two (g.Q.SharedQueue.build c.args.queue.now) (sight c.args.pass.now) (sight c.next.new.pass) (sight c.next-in-Got.new.pass) (sight c.unlock.new.pass) (sight c.unlock-in-Got-next.new.pass) c.args.consumer
    c.in-Got.first first.0 c.in-Got-next.second second.0 (load c.in-Got.goods) (load c.in-Got-next.cargo) first.1 second.1 c.unlock.ensures.called c.unlock-in-Got-next.ensures.called

pub returns-in-Empty-next-clause-leaves : goal.returns-in-Empty-next-clause-leaves
returns-in-Empty-next-clause-leaves g c =
    let sight = g.Q.SharedQueue.sight in
    let first = c.in-Got.ensures.called in
    leaves_one (g.Q.SharedQueue.build c.args.queue.now) (sight c.args.pass.now) (sight c.next.new.pass) (sight c.next-in-Got.new.pass) (sight c.unlock-in-Empty-next.new.pass) c.args.consumer
    c.in-Got.first first.0 (g.C.Cargo.load c.in-Got.goods) first.1 c.in-Empty-next.ensures.called.1 c.unlock-in-Empty-next.ensures.called

pub returns-in-Empty-clause-leaves : goal.returns-in-Empty-clause-leaves
returns-in-Empty-clause-leaves g c =
    let sight = g.Q.SharedQueue.sight in
    ran_one (g.Q.SharedQueue.build c.args.queue.now) (sight c.args.pass.now) (sight c.next.new.pass) (CallNext c.args.consumer) IsEmpty c.in-Empty.ensures.called.1
