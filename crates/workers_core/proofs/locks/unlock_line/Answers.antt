use Rattle.std.proofs.Common.{None, Some, refl, sym, ◌∙◌, subst}
use Rattle.std.specs.Option.{option_map}
use Rattle.txn_core.specs.Parcels.{load_of}
use Rattle.line_core.specs.Fits.{NoneLocked}
use Rattle.line_core.specs.Hands.{hand}
use Rattle.workers_core.specs.Held.{hands_of}
use Rattle.workers_core.specs.Hold.{Hold, KeepsOthers}
use Rattle.workers_core.specs.Lines.{DidHands}
use Rattle.workers_core.proofs.Holds.{found_here, found_with, others_replaced}
use Rattle.workers_core.proofs.LockLines.{no_unlock, replaced_self, unlocked, unlocked_hold}
use Rattle.workers_core.proofs.locks.unlock_line.Goals as goal

pub returns-in-Some-leave_at-clause-hold : goal.returns-in-Some-leave_at-clause-hold
returns-in-Some-leave_at-clause-hold g c =
    let sight = g.Q.SharedQueue.sight in
    let items = c.args.held.now.items in
    let x = c.index-kept.result.now in
    let load = load_of c.in-Some-leave_at.cargo in
    let here = found_here items c.deref.result.now c.in-Some.at x c.args.number c.args.id c.deref.ensures.value c.in-Some.ensures.within c.index-kept.ensures c.in-Some.ensures.meant in
    let f = found_with items c.deref.result.now c.in-Some.at x c.args.number c.args.id (Some load) c.deref.ensures.value c.in-Some.ensures.within c.index-kept.ensures c.in-Some.ensures.meant (sym (c.in-Some-leave_at.ensures.cargo _ here.0)) in
    subst (Hold (sight c.unlock.new.pass) c.args.number) (sym (c.leave_at.ensures.left (hand c.args.number x.row x.id (Some load)) c.requires.hold.apart f.0))
    (unlocked_hold (g.Q.SharedQueue.build c.args.queue.now) (sight c.args.pass.now) (sight c.unlock.new.pass) c.args.number c.args.id (hands_of items) x.row x.id c.in-Some.at load c.unlock.ensures.called c.requires.hold f.0)

pub returns-in-Some-leave_at-clause-others : goal.returns-in-Some-leave_at-clause-others
returns-in-Some-leave_at-clause-others g c =
    let items = c.args.held.now.items in
    let x = c.index-kept.result.now in
    let here = found_here items c.deref.result.now c.in-Some.at x c.args.number c.args.id c.deref.ensures.value c.in-Some.ensures.within c.index-kept.ensures c.in-Some.ensures.meant in
    subst (KeepsOthers c.args.number (hands_of items)) (sym (c.leave_at.ensures.left (hand c.args.number x.row x.id (option_map load_of x.cargo)) c.requires.hold.apart here.0))
    (others_replaced c.args.number (hand c.args.number x.row x.id None) (hands_of items) refl)

pub returns-in-Some-leave_at-clause-did : goal.returns-in-Some-leave_at-clause-did
returns-in-Some-leave_at-clause-did g c =
    let build = g.Q.SharedQueue.build c.args.queue.now in
    let sight = g.Q.SharedQueue.sight in
    let items = c.args.held.now.items in
    let x = c.index-kept.result.now in
    let load = load_of c.in-Some-leave_at.cargo in
    let here = found_here items c.deref.result.now c.in-Some.at x c.args.number c.args.id c.deref.ensures.value c.in-Some.ensures.within c.index-kept.ensures c.in-Some.ensures.meant in
    let f = found_with items c.deref.result.now c.in-Some.at x c.args.number c.args.id (Some load) c.deref.ensures.value c.in-Some.ensures.within c.index-kept.ensures c.in-Some.ensures.meant (sym (c.in-Some-leave_at.ensures.cargo _ here.0)) in
    subst (DidHands build c.args.number (sight c.args.pass.now) (hands_of items) _ _ (sight c.unlock.new.pass)) (sym (c.leave_at.ensures.left (hand c.args.number x.row x.id (Some load)) c.requires.hold.apart f.0))
    (unlocked build (sight c.args.pass.now) (sight c.unlock.new.pass) c.args.number c.args.id (hands_of items) x.row x.id load f.1 c.unlock.ensures.called)

pub returns-in-None-clause-hold : goal.returns-in-None-clause-hold
returns-in-None-clause-hold g c =
    let items = c.args.held.now.items in
    let x = c.index-kept.result.now in
    let here = found_here items c.deref.result.now c.in-Some.at x c.args.number c.args.id c.deref.ensures.value c.in-Some.ensures.within c.index-kept.ensures c.in-Some.ensures.meant in
    let f = found_with items c.deref.result.now c.in-Some.at x c.args.number c.args.id None c.deref.ensures.value c.in-Some.ensures.within c.index-kept.ensures c.in-Some.ensures.meant (sym (c.in-None.ensures.cargo _ here.0)) in
    let k = hand c.args.number x.row x.id None in
    subst (Hold (g.Q.SharedQueue.sight c.args.pass.now) c.args.number) (sym (c.leave_at.ensures.left k c.requires.hold.apart f.0 ∙ replaced_self (hands_of items) c.in-Some.at k c.requires.hold.apart f.0)) c.requires.hold

pub returns-in-None-clause-others : goal.returns-in-None-clause-others
returns-in-None-clause-others g c =
    let items = c.args.held.now.items in
    let x = c.index-kept.result.now in
    let here = found_here items c.deref.result.now c.in-Some.at x c.args.number c.args.id c.deref.ensures.value c.in-Some.ensures.within c.index-kept.ensures c.in-Some.ensures.meant in
    subst (KeepsOthers c.args.number (hands_of items)) (sym (c.leave_at.ensures.left (hand c.args.number x.row x.id (option_map load_of x.cargo)) c.requires.hold.apart here.0))
    (others_replaced c.args.number (hand c.args.number x.row x.id None) (hands_of items) refl)

pub returns-in-None-clause-did : goal.returns-in-None-clause-did
returns-in-None-clause-did g c =
    let build = g.Q.SharedQueue.build c.args.queue.now in
    let sight = g.Q.SharedQueue.sight in
    let items = c.args.held.now.items in
    let x = c.index-kept.result.now in
    let here = found_here items c.deref.result.now c.in-Some.at x c.args.number c.args.id c.deref.ensures.value c.in-Some.ensures.within c.index-kept.ensures c.in-Some.ensures.meant in
    let f = found_with items c.deref.result.now c.in-Some.at x c.args.number c.args.id None c.deref.ensures.value c.in-Some.ensures.within c.index-kept.ensures c.in-Some.ensures.meant (sym (c.in-None.ensures.cargo _ here.0)) in
    let k = hand c.args.number x.row x.id None in
    subst (DidHands build c.args.number (sight c.args.pass.now) (hands_of items) _ _ (sight c.args.pass.now)) (sym (c.leave_at.ensures.left k c.requires.hold.apart f.0 ∙ replaced_self (hands_of items) c.in-Some.at k c.requires.hold.apart f.0))
    (no_unlock build (sight c.args.pass.now) c.args.number c.args.id (hands_of items) (subst NoneLocked (sym f.1) refl))
