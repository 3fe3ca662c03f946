use Rattle.std.proofs.Common.{refl, sym, subst}
use Rattle.std.specs.Option.{option_map}
use Rattle.txn_core.specs.Parcels.{load_of}
use Rattle.line_core.specs.Hands.{hand}
use Rattle.workers_core.specs.Held.{hands_of}
use Rattle.workers_core.specs.Hold.{Hold, KeepsOthers}
use Rattle.workers_core.specs.Lines.{DidHands}
use Rattle.acts_core.proofs.Passes.{pass_dequeues}
use Rattle.workers_core.proofs.AckLines.{freed, outdated, outdated_all, outdated_locked, release_keeps, taken_release}
use Rattle.workers_core.proofs.Holds.{hold_mine, hold_lost, others_lost}
use Rattle.workers_core.proofs.acks.release_line.Goals as goal

pub release-requires-clause-handed : goal.release-requires-clause-handed
release-requires-clause-handed g c = c.in-Ok.ensures.ok.mine.stands

pub returns-in-Err-clause-hold : goal.returns-in-Err-clause-hold
returns-in-Err-clause-hold g c =
    let sight = g.Q.SharedQueue.sight in
    let took = c.in-Some.ensures.some in
    let mine = hold_mine _ _ _ took.at _ _ _ c.requires.hold took.there in
    subst (Hold (sight c.lock_first.new.pass) c.args.number) (sym took.without_it)
    (hold_lost (sight c.args.pass.now) (sight c.lock_first.new.pass) c.args.number _ _ c.requires.hold refl mine c.in-Err.ensures.err.keeps)

pub returns-in-Err-clause-others : goal.returns-in-Err-clause-others
returns-in-Err-clause-others g c =
    subst (KeepsOthers c.args.number (hands_of c.args.held.now.items)) (sym c.in-Some.ensures.some.without_it) (others_lost c.args.number (hand c.args.number c.in-Some.kept.row c.in-Some.kept.id (option_map load_of c.in-Some.kept.cargo)) (hands_of c.args.held.now.items))

pub returns-in-Err-clause-did : goal.returns-in-Err-clause-did
returns-in-Err-clause-did g c =
    let sight = g.Q.SharedQueue.sight in
    let took = c.in-Some.ensures.some in
    subst (DidHands (g.Q.SharedQueue.build c.args.queue.now) c.args.number (sight c.args.pass.now) (hands_of c.args.held.now.items) _ _ (sight c.lock_first.new.pass)) (sym took.without_it)
    (taken_release _ (sight c.args.pass.now) (sight c.lock_first.new.pass) c.args.number c.args.id _ _ _ _ c.in-Err.state took.is_meant c.in-Err.ensures.err)

pub returns-in-Released-clause-hold : goal.returns-in-Released-clause-hold
returns-in-Released-clause-hold g c =
    let sight = g.Q.SharedQueue.sight in
    let took = c.in-Some.ensures.some in
    let mine = hold_mine _ _ _ took.at _ _ _ c.requires.hold took.there in
    subst (Hold (sight c.release.new.pass) c.args.number) (sym took.without_it)
    (hold_lost (sight c.args.pass.now) (sight c.release.new.pass) c.args.number _ _ c.requires.hold refl mine
    (release_keeps (g.Q.SharedQueue.build c.args.queue.now) (sight c.args.pass.now) (sight c.lock_first.new.pass) (sight c.release.new.pass) _ _ _ c.in-Ok.ensures.ok.keeps c.release.ensures.called.1))

pub returns-in-Released-clause-others : goal.returns-in-Released-clause-others
returns-in-Released-clause-others g c =
    subst (KeepsOthers c.args.number (hands_of c.args.held.now.items)) (sym c.in-Some.ensures.some.without_it) (others_lost c.args.number (hand c.args.number c.in-Some.kept.row c.in-Some.kept.id (option_map load_of c.in-Some.kept.cargo)) (hands_of c.args.held.now.items))

pub returns-in-Released-clause-did : goal.returns-in-Released-clause-did
returns-in-Released-clause-did g c =
    let sight = g.Q.SharedQueue.sight in
    let took = c.in-Some.ensures.some in
    subst (DidHands (g.Q.SharedQueue.build c.args.queue.now) c.args.number (sight c.args.pass.now) (hands_of c.args.held.now.items) _ _ (sight c.release.new.pass)) (sym took.without_it)
    (freed _ (sight c.args.pass.now) (sight c.lock_first.new.pass) (sight c.release.new.pass) c.args.number c.args.id _ _ _ c.in-Released.ensures.called.0 _ (load_of c.in-Ok.cargo) took.is_meant c.in-Ok.ensures.ok c.in-Released.ensures.called.1)

pub dequeue-requires-clause-holder : goal.dequeue-requires-clause-holder
dequeue-requires-clause-holder g c =
    let sight = g.Q.SharedQueue.sight in
    outdated_locked (g.Q.SharedQueue.build c.args.queue.now) (sight c.lock_first.new.pass) (sight c.release.new.pass) c.args.number c.in-Some.kept.row c.in-Some.kept.id (load_of c.in-Ok.cargo) (load_of c.in-Outdated._cargo) c.in-Outdated.ensures.called.1 c.in-Ok.ensures.ok.mine

pub delete-requires-clause-dequeued : goal.delete-requires-clause-dequeued
delete-requires-clause-dequeued g c =
    pass_dequeues (g.Q.SharedQueue.build c.args.queue.now) (g.Q.SharedQueue.sight c.release.new.pass) (g.Q.SharedQueue.sight c.dequeue.new.pass) c.in-Some.kept.row c.dequeue.ensures.called.0 c.dequeue.ensures.called.1

pub returns-in-Outdated-clause-hold : goal.returns-in-Outdated-clause-hold
returns-in-Outdated-clause-hold g c =
    let sight = g.Q.SharedQueue.sight in
    let took = c.in-Some.ensures.some in
    let mine = hold_mine _ _ _ took.at _ _ _ c.requires.hold took.there in
    subst (Hold (sight c.delete.new.pass) c.args.number) (sym took.without_it)
    (hold_lost (sight c.args.pass.now) (sight c.delete.new.pass) c.args.number _ _ c.requires.hold refl mine
    (outdated_all (g.Q.SharedQueue.build c.args.queue.now) (sight c.args.pass.now) (sight c.lock_first.new.pass) (sight c.release.new.pass) (sight c.dequeue.new.pass) (sight c.delete.new.pass) _ c.dequeue.ensures.called.0 (load_of c.in-Ok.cargo) (load_of c.in-Outdated._cargo)
    c.in-Ok.ensures.ok.keeps c.in-Outdated.ensures.called.1 c.dequeue.ensures.called.1 c.delete.ensures.called))

pub returns-in-Outdated-clause-others : goal.returns-in-Outdated-clause-others
returns-in-Outdated-clause-others g c =
    subst (KeepsOthers c.args.number (hands_of c.args.held.now.items)) (sym c.in-Some.ensures.some.without_it) (others_lost c.args.number (hand c.args.number c.in-Some.kept.row c.in-Some.kept.id (option_map load_of c.in-Some.kept.cargo)) (hands_of c.args.held.now.items))

pub returns-in-Outdated-clause-did : goal.returns-in-Outdated-clause-did
returns-in-Outdated-clause-did g c =
    let sight = g.Q.SharedQueue.sight in
    let took = c.in-Some.ensures.some in
    subst (DidHands (g.Q.SharedQueue.build c.args.queue.now) c.args.number (sight c.args.pass.now) (hands_of c.args.held.now.items) _ _ (sight c.delete.new.pass)) (sym took.without_it)
    (outdated _ (sight c.args.pass.now) (sight c.lock_first.new.pass) (sight c.release.new.pass) (sight c.dequeue.new.pass) (sight c.delete.new.pass) c.args.number c.args.id _ _ _ c.dequeue.ensures.called.0 _ (load_of c.in-Ok.cargo) (load_of c.in-Outdated._cargo) took.is_meant c.in-Ok.ensures.ok
    c.in-Outdated.ensures.called.1 c.dequeue.ensures.called.1 c.delete.ensures.called)
