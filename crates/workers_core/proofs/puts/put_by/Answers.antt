use Rattle.std.proofs.Common.{sym, ◌∙◌}
use Rattle.txn_core.specs.Parcels.{load_of}
use Rattle.workers_core.specs.Held.{hands_of}
use Rattle.workers_core.proofs.PutLines.{admitted_call, admitted_did, admitted_hold, blocked_did, blocked_hold, put_may, rejected_did, rejected_hold}
use Rattle.workers_core.proofs.puts.put_by.Goals as goal

pub enter-requires-clause-hold : goal.enter-requires-clause-hold
enter-requires-clause-hold g c κs within =
    let sight = g.Q.SharedQueue.sight in
    admitted_hold (g.Q.SharedQueue.build c.args.queue.now) (sight c.args.pass.now) (sight c.admit.new.pass) c.args.limits.now c.args.stopped.now c.admit.new.stopped c.persistent-persistent.result c.args.slip.size c.args.number (hands_of c.args.held.now.items) c.in-Admitted.ensures.admits c.requires.hold

pub enter-requires-clause-may : goal.enter-requires-clause-may
enter-requires-clause-may g c κs within =
    let sight = g.Q.SharedQueue.sight in
    let build = g.Q.SharedQueue.build c.args.queue.now in
    let laws = g.met.Q.SharedQueue g.world.𝓛 g.world.𝓜 g.world.𝓡 ((λ s x. x), (λ x. x), (λ x. x), λ x. x) in
    let opens = laws.opens c.args.queue.now c.args.pass.now c.requires.serves in
    let admits = c.in-Admitted.ensures.admits in
    put_may build (sight c.args.pass.now) (sight c.admit.new.pass) c.args.slip (load_of c.args.cargo) admits.shown opens.opening c.requires.fits c.requires.key c.requires.same
    (admitted_call build (sight c.args.pass.now) (sight c.admit.new.pass) c.args.limits.now c.args.stopped.now c.admit.new.stopped c.persistent-persistent.result c.args.slip.size c.args.number (hands_of c.args.held.now.items) admits)

pub returns-in-Admitted-clause-did : goal.returns-in-Admitted-clause-did
returns-in-Admitted-clause-did g c = λ defs s def m defined limits fits flag fresh hands stopped drops.
    let sight = g.Q.SharedQueue.sight in
    admitted_did defs (g.Q.SharedQueue.build c.args.queue.now) c.args.number s def m c.args.slip c.args.stopped.now c.admit.new.stopped c.args.limits.now c.persistent-persistent.result (sight c.args.pass.now) (sight c.admit.new.pass) (hands_of c.args.held.now.items) c.args.drops.now.items
    defined limits fits (flag ∙ sym c.persistent-persistent.ensures) hands stopped drops (sight c.enter.new.pass) (load_of c.args.cargo) (hands_of c.enter.new.held.items) c.enter.new.drops.items c.enter.result fresh c.in-Admitted.ensures.admits c.enter.ensures.did

pub returns-in-Rejected-clause-hold : goal.returns-in-Rejected-clause-hold
returns-in-Rejected-clause-hold g c =
    let sight = g.Q.SharedQueue.sight in
    rejected_hold (g.Q.SharedQueue.build c.args.queue.now) (sight c.args.pass.now) (sight c.admit.new.pass) c.args.limits.now c.args.stopped.now c.admit.new.stopped c.persistent-persistent.result c.args.slip.size c.args.number (hands_of c.args.held.now.items) c.in-Rejected.depth c.in-Rejected.ensures.admits c.requires.hold

pub returns-in-Rejected-clause-did : goal.returns-in-Rejected-clause-did
returns-in-Rejected-clause-did g c = λ defs s def m defined limits fits flag fresh hands stopped drops.
    let sight = g.Q.SharedQueue.sight in
    rejected_did defs (g.Q.SharedQueue.build c.args.queue.now) c.args.number s def m c.args.slip c.args.stopped.now c.admit.new.stopped c.args.limits.now c.persistent-persistent.result (sight c.args.pass.now) (sight c.admit.new.pass) (hands_of c.args.held.now.items) c.args.drops.now.items
    defined limits fits (flag ∙ sym c.persistent-persistent.ensures) hands stopped drops c.in-Rejected.depth c.in-Rejected.ensures.admits

pub returns-in-Blocked-clause-hold : goal.returns-in-Blocked-clause-hold
returns-in-Blocked-clause-hold g c =
    let sight = g.Q.SharedQueue.sight in
    blocked_hold (g.Q.SharedQueue.build c.args.queue.now) (sight c.args.pass.now) (sight c.admit.new.pass) c.args.limits.now c.args.stopped.now c.admit.new.stopped c.persistent-persistent.result c.args.slip.size c.args.number (hands_of c.args.held.now.items) c.in-Blocked.depth c.in-Blocked.ensures.admits c.requires.hold

pub returns-in-Blocked-clause-did : goal.returns-in-Blocked-clause-did
returns-in-Blocked-clause-did g c = λ defs s def m defined limits fits flag fresh hands stopped drops.
    let sight = g.Q.SharedQueue.sight in
    blocked_did defs (g.Q.SharedQueue.build c.args.queue.now) c.args.number s def m c.args.slip c.args.stopped.now c.admit.new.stopped c.args.limits.now c.persistent-persistent.result (sight c.args.pass.now) (sight c.admit.new.pass) (hands_of c.args.held.now.items) c.args.drops.now.items
    defined limits fits (flag ∙ sym c.persistent-persistent.ensures) hands stopped drops c.in-Blocked.depth c.in-Blocked.ensures.admits
