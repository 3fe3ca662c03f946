use Rattle.std.proofs.Common.{None, Some, refl, sym, ◌∙◌, subst}
use Rattle.txn_core.specs.Parcels.{load_of}
use Rattle.line_core.specs.Fits.{NoneUnlocked}
use Rattle.line_core.specs.Hands.{hand}
use Rattle.workers_core.specs.Held.{hands_of}
use Rattle.workers_core.specs.Hold.{Hold, KeepsOthers}
use Rattle.workers_core.specs.Lines.{DidHands}
use Rattle.workers_core.proofs.Holds.{found_here, found_with, hold_mine, lost_at, no_cargo, others_lost, others_replaced, some_cargo}
use Rattle.workers_core.proofs.LockLines.{locked, locked_hold, no_lock, taken, taken_hold}
use Rattle.workers_core.proofs.locks.lock_line.Goals as goal

pub returns-then-is_some-clause-did : goal.returns-then-is_some-clause-did
returns-then-is_some-clause-did g c =
    let items = c.args.held.now.items in
    let f = found_here items c.deref.result.now c.in-Some.at c.index-kept.result.now c.args.number c.args.id c.deref.ensures.value c.in-Some.ensures.within c.index-kept.ensures c.in-Some.ensures.meant in
    no_lock (g.Q.SharedQueue.build c.args.queue.now) (g.Q.SharedQueue.sight c.args.pass.now) c.args.number c.args.id (hands_of items)
    (subst NoneUnlocked (sym f.1) (some_cargo c.index-kept.result.now.cargo (sym c.is_some.ensures ∙ c.if-is_some.true)))

pub lock-requires-clause-left : goal.lock-requires-clause-left
lock-requires-clause-left g c =
    let items = c.args.held.now.items in
    let f = found_with items c.deref.result.now c.in-Some.at c.index-kept.result.now c.args.number c.args.id None c.deref.ensures.value c.in-Some.ensures.within c.index-kept.ensures c.in-Some.ensures.meant (no_cargo c.index-kept.result.now.cargo (sym c.is_some.ensures ∙ c.if-is_some.false)) in
    (hold_mine (g.Q.SharedQueue.sight c.args.pass.now) c.args.number (hands_of items) c.in-Some.at c.index-kept.result.now.row c.index-kept.result.now.id None c.requires.hold f.0).stands

pub returns-in-Locked-clause-hold : goal.returns-in-Locked-clause-hold
returns-in-Locked-clause-hold g c =
    let sight = g.Q.SharedQueue.sight in
    let items = c.args.held.now.items in
    let x = c.index-kept.result.now in
    let f = found_with items c.deref.result.now c.in-Some.at x c.args.number c.args.id None c.deref.ensures.value c.in-Some.ensures.within c.index-kept.ensures c.in-Some.ensures.meant (no_cargo x.cargo (sym c.is_some.ensures ∙ c.if-is_some.false)) in
    subst (Hold (sight c.lock.new.pass) c.args.number) (sym (c.lock_at.ensures.locked (hand c.args.number x.row x.id None) c.requires.hold.apart f.0))
    (locked_hold (g.Q.SharedQueue.build c.args.queue.now) (sight c.args.pass.now) (sight c.lock.new.pass) c.args.number c.args.id (hands_of items) x.row x.id c.in-Some.at (load_of c.in-Locked.cargo) c.in-Locked.ensures.called c.requires.hold f.0)

pub returns-in-Locked-clause-others : goal.returns-in-Locked-clause-others
returns-in-Locked-clause-others g c =
    let items = c.args.held.now.items in
    let x = c.index-kept.result.now in
    let f = found_with items c.deref.result.now c.in-Some.at x c.args.number c.args.id None c.deref.ensures.value c.in-Some.ensures.within c.index-kept.ensures c.in-Some.ensures.meant (no_cargo x.cargo (sym c.is_some.ensures ∙ c.if-is_some.false)) in
    subst (KeepsOthers c.args.number (hands_of items)) (sym (c.lock_at.ensures.locked (hand c.args.number x.row x.id None) c.requires.hold.apart f.0))
    (others_replaced c.args.number (hand c.args.number x.row x.id (Some (load_of c.in-Locked.cargo))) (hands_of items) refl)

pub returns-in-Locked-clause-did : goal.returns-in-Locked-clause-did
returns-in-Locked-clause-did g c =
    let build = g.Q.SharedQueue.build c.args.queue.now in
    let sight = g.Q.SharedQueue.sight in
    let items = c.args.held.now.items in
    let x = c.index-kept.result.now in
    let f = found_with items c.deref.result.now c.in-Some.at x c.args.number c.args.id None c.deref.ensures.value c.in-Some.ensures.within c.index-kept.ensures c.in-Some.ensures.meant (no_cargo x.cargo (sym c.is_some.ensures ∙ c.if-is_some.false)) in
    subst (DidHands build c.args.number (sight c.args.pass.now) (hands_of items) _ _ (sight c.lock.new.pass)) (sym (c.lock_at.ensures.locked (hand c.args.number x.row x.id None) c.requires.hold.apart f.0))
    (locked build (sight c.args.pass.now) (sight c.lock.new.pass) c.args.number c.args.id (hands_of items) x.row x.id (load_of c.in-Locked.cargo) f.1 c.in-Locked.ensures.called)

pub returns-in-Stolen-clause-hold : goal.returns-in-Stolen-clause-hold
returns-in-Stolen-clause-hold g c =
    let sight = g.Q.SharedQueue.sight in
    let items = c.args.held.now.items in
    let x = c.index-kept.result.now in
    let f = found_with items c.deref.result.now c.in-Some.at x c.args.number c.args.id None c.deref.ensures.value c.in-Some.ensures.within c.index-kept.ensures c.in-Some.ensures.meant (no_cargo x.cargo (sym c.is_some.ensures ∙ c.if-is_some.false)) in
    subst (Hold (sight c.lock.new.pass) c.args.number) (sym (lost_at items c.remove.new.self.items c.in-Some.at (hand c.args.number x.row x.id None) c.remove.ensures.items c.requires.hold.apart f.0))
    (taken_hold (g.Q.SharedQueue.build c.args.queue.now) (sight c.args.pass.now) (sight c.lock.new.pass) c.args.number c.args.id (hands_of items) x.row x.id c.in-Some.at c.in-Stolen.state c.in-Stolen.ensures.called c.requires.hold f.0)

pub returns-in-Stolen-clause-others : goal.returns-in-Stolen-clause-others
returns-in-Stolen-clause-others g c =
    let items = c.args.held.now.items in
    let x = c.index-kept.result.now in
    let f = found_with items c.deref.result.now c.in-Some.at x c.args.number c.args.id None c.deref.ensures.value c.in-Some.ensures.within c.index-kept.ensures c.in-Some.ensures.meant (no_cargo x.cargo (sym c.is_some.ensures ∙ c.if-is_some.false)) in
    subst (KeepsOthers c.args.number (hands_of items)) (sym (lost_at items c.remove.new.self.items c.in-Some.at (hand c.args.number x.row x.id None) c.remove.ensures.items c.requires.hold.apart f.0))
    (others_lost c.args.number (hand c.args.number x.row x.id None) (hands_of items))

pub returns-in-Stolen-clause-did : goal.returns-in-Stolen-clause-did
returns-in-Stolen-clause-did g c =
    let build = g.Q.SharedQueue.build c.args.queue.now in
    let sight = g.Q.SharedQueue.sight in
    let items = c.args.held.now.items in
    let x = c.index-kept.result.now in
    let f = found_with items c.deref.result.now c.in-Some.at x c.args.number c.args.id None c.deref.ensures.value c.in-Some.ensures.within c.index-kept.ensures c.in-Some.ensures.meant (no_cargo x.cargo (sym c.is_some.ensures ∙ c.if-is_some.false)) in
    subst (DidHands build c.args.number (sight c.args.pass.now) (hands_of items) _ _ (sight c.lock.new.pass)) (sym (lost_at items c.remove.new.self.items c.in-Some.at (hand c.args.number x.row x.id None) c.remove.ensures.items c.requires.hold.apart f.0))
    (taken build (sight c.args.pass.now) (sight c.lock.new.pass) c.args.number c.args.id (hands_of items) x.row x.id c.in-Stolen.state f.1 c.in-Stolen.ensures.called)
