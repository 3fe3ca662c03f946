use Rattle.std.proofs.Common.{◌<◌, ℕ, None, [], ◌∷◌, ◌++◌, ◌∙◌, ap, sym, subst, arith}
use Rattle.acts_core.proofs.Passes.{pass_dequeues}
use Rattle.txn_core.specs.Parcels.{load_of}
use Rattle.line_core.specs.Fits.{dropped}
use Rattle.line_core.specs.Hands.{Hand, hand, without}
use Rattle.workers_core.specs.Drops.{left_to}
use Rattle.workers_core.specs.Held.{hands_of}
use Rattle.workers_core.specs.Hold.{KeepsOthers}
use Rattle.workers_core.proofs.Dropping.{also_locked, drop_did, drop_hold, drop_left}
use Rattle.workers_core.proofs.Holds.{others_lost}
use Rattle.workers_core.proofs.drops.drop_entry.Goals as goal

pub dequeue-requires-clause-holder : goal.dequeue-requires-clause-holder
dequeue-requires-clause-holder g c =
    also_locked (g.Q.SharedQueue.sight c.args.pass.now) c.args.number c.args.row (load_of c.args.cargo) (hands_of c.args.held.now.items) c.requires.hold

pub delete-requires-clause-dequeued : goal.delete-requires-clause-dequeued
delete-requires-clause-dequeued g c =
    pass_dequeues (g.Q.SharedQueue.build c.args.queue.now) (g.Q.SharedQueue.sight c.args.pass.now) (g.Q.SharedQueue.sight c.dequeue.new.pass) c.args.row c.dequeue.ensures.called.0 c.dequeue.ensures.called.1

pub push_reserved-requires : goal.push_reserved-requires
push_reserved-requires g c =
    let sight = g.Q.SharedQueue.sight in
    let build = g.Q.SharedQueue.build c.args.queue.now in
    let laws = g.met.Q.SharedQueue g.world.𝓛 g.world.𝓜 g.world.𝓡 ((λ s x. x), (λ x. x), (λ x. x), λ x. x) in
    let opens = laws.opens c.args.queue.now c.delete.new.pass c.delete.ensures.serves in
    let left = drop_left build (sight c.args.pass.now) (sight c.dequeue.new.pass) (sight c.delete.new.pass) c.args.row c.dequeue.ensures.called.0 c.dequeue.ensures.called.1 c.delete.ensures.called opens in
    let some : 0 < left_to build (sight c.args.pass.now) = omega (arith, left) in
    c.requires.room some

pub returns-clause-hold : goal.returns-clause-hold
returns-clause-hold g c =
    let sight = g.Q.SharedQueue.sight in
    let build = g.Q.SharedQueue.build c.args.queue.now in
    let load = load_of c.args.cargo in
    let gone = c.lose.ensures.lost ∙ ap (λ (n : ℕ). without c.args.number n (hands_of c.args.held.now.items)) c.id-id.ensures in
    drop_hold build (sight c.args.pass.now) (sight c.dequeue.new.pass) (sight c.delete.new.pass) c.args.number c.args.row c.dequeue.ensures.called.0 load (hands_of c.args.held.now.items) (hands_of c.lose.new.held.items) c.requires.hold c.dequeue.ensures.called.1 c.delete.ensures.called gone

pub returns-clause-others : goal.returns-clause-others
returns-clause-others g c =
    let load = load_of c.args.cargo in
    let gone = c.lose.ensures.lost ∙ ap (λ (n : ℕ). without c.args.number n (hands_of c.args.held.now.items)) c.id-id.ensures in
    let k : Hand = hand c.args.number c.args.row load.id None in
    subst (KeepsOthers c.args.number (hands_of c.args.held.now.items)) (sym gone) (others_lost c.args.number k (hands_of c.args.held.now.items))

pub returns-clause-did : goal.returns-clause-did
returns-clause-did g c =
    let sight = g.Q.SharedQueue.sight in
    let build = g.Q.SharedQueue.build c.args.queue.now in
    let load = load_of c.args.cargo in
    let laws = g.met.Q.SharedQueue g.world.𝓛 g.world.𝓜 g.world.𝓡 ((λ s x. x), (λ x. x), (λ x. x), λ x. x) in
    let opens = laws.opens c.args.queue.now c.delete.new.pass c.delete.ensures.serves in
    let gone = c.lose.ensures.lost ∙ ap (λ (n : ℕ). without c.args.number n (hands_of c.args.held.now.items)) c.id-id.ensures in
    let named = c.push_reserved.ensures.items ∙ ap (λ (n : ℕ). c.args.drops.now.items ++ dropped c.args.number n ∷ []) c.id-id.ensures in
    drop_did build (sight c.args.pass.now) (sight c.dequeue.new.pass) (sight c.delete.new.pass) c.args.number c.args.row c.dequeue.ensures.called.0 load (hands_of c.args.held.now.items) (hands_of c.lose.new.held.items) c.args.drops.now.items c.push_reserved.new.self.items
    c.dequeue.ensures.called.1 c.delete.ensures.called opens gone named
