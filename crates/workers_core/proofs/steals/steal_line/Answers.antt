use Rattle.std.proofs.Common.{ℕ, Some, refl, sym, ap, ◌∙◌, subst}
use Rattle.txn_core.specs.Parcels.{load_of}
use Rattle.line_core.specs.Hands.{gained, hand}
use Rattle.workers_core.specs.Held.{hands_of}
use Rattle.workers_core.specs.Hold.{KeepsOthers}
use Rattle.workers_core.proofs.Holds.{others_gained}
use Rattle.workers_core.proofs.TakeLines.{found_hold, stole_hold, stole, not_stolen_hold, not_stealable, moved, absent, came}
use Rattle.workers_core.proofs.steals.steal_line.Goals as goal

pub steal-requires-clause-row : goal.steal-requires-clause-row
steal-requires-clause-row g c =
    came (g.Q.SharedQueue.build c.args.queue.now) (g.Q.SharedQueue.sight c.args.pass.now) (g.Q.SharedQueue.sight c.find.new.pass) c.args.id c.in-Some.row c.in-Some.ensures.called

pub returns-in-None-clause-hold : goal.returns-in-None-clause-hold
returns-in-None-clause-hold g c =
    found_hold (g.Q.SharedQueue.build c.args.queue.now) (g.Q.SharedQueue.sight c.args.pass.now) (g.Q.SharedQueue.sight c.find.new.pass) c.args.number _ _ _ c.in-None.ensures.called c.requires.hold

pub returns-in-None-clause-did : goal.returns-in-None-clause-did
returns-in-None-clause-did g c =
    absent (g.Q.SharedQueue.build c.args.queue.now) (g.Q.SharedQueue.sight c.args.pass.now) (g.Q.SharedQueue.sight c.find.new.pass) c.args.number _ _ c.in-None.ensures.called

pub returns-in-Stolen-clause-hold : goal.returns-in-Stolen-clause-hold
returns-in-Stolen-clause-hold g c =
    let build = g.Q.SharedQueue.build c.args.queue.now in
    let sight = g.Q.SharedQueue.sight in
    let after = c.gain.ensures.gained ∙ ap (λ (i : ℕ). gained (hand c.args.number c.in-Some.row i (Some (load_of c.in-Stolen.cargo))) (hands_of c.args.held.now.items)) c.id-got.ensures in
    stole_hold build (sight c.find.new.pass) (sight c.steal.new.pass) c.args.number c.in-Some.row (load_of c.in-Stolen.cargo) _ _ c.in-Stolen.ensures.called after
    (found_hold build (sight c.args.pass.now) (sight c.find.new.pass) c.args.number _ _ _ c.in-Some.ensures.called c.requires.hold)

pub returns-in-Stolen-clause-others : goal.returns-in-Stolen-clause-others
returns-in-Stolen-clause-others g c =
    subst (KeepsOthers c.args.number (hands_of c.args.held.now.items)) (sym c.gain.ensures.gained) (others_gained c.args.number (hand c.args.number c.in-Some.row c.id-got.result (Some (load_of c.in-Stolen.cargo))) (hands_of c.args.held.now.items) refl)

pub returns-in-Stolen-clause-did : goal.returns-in-Stolen-clause-did
returns-in-Stolen-clause-did g c =
    let build = g.Q.SharedQueue.build c.args.queue.now in
    let sight = g.Q.SharedQueue.sight in
    let after = c.gain.ensures.gained ∙ ap (λ (i : ℕ). gained (hand c.args.number c.in-Some.row i (Some (load_of c.in-Stolen.cargo))) (hands_of c.args.held.now.items)) c.id-got.ensures in
    stole build (sight c.args.pass.now) (sight c.find.new.pass) (sight c.steal.new.pass) c.args.number c.args.id c.in-Some.row (load_of c.in-Stolen.cargo) _ _ c.in-Some.ensures.called c.in-Stolen.ensures.called after

pub returns-in-NotStealable-clause-hold : goal.returns-in-NotStealable-clause-hold
returns-in-NotStealable-clause-hold g c =
    let build = g.Q.SharedQueue.build c.args.queue.now in
    let sight = g.Q.SharedQueue.sight in
    not_stolen_hold build (sight c.find.new.pass) (sight c.steal.new.pass) c.args.number _ _ _ c.in-NotStealable.ensures.called refl (found_hold build (sight c.args.pass.now) (sight c.find.new.pass) c.args.number _ _ _ c.in-Some.ensures.called c.requires.hold)

pub returns-in-NotStealable-clause-did : goal.returns-in-NotStealable-clause-did
returns-in-NotStealable-clause-did g c =
    let sight = g.Q.SharedQueue.sight in
    not_stealable (g.Q.SharedQueue.build c.args.queue.now) (sight c.args.pass.now) (sight c.find.new.pass) (sight c.steal.new.pass) c.args.number _ c.in-Some.row _ _ c.in-Some.ensures.called c.in-NotStealable.ensures.called

pub returns-in-Moved-clause-hold : goal.returns-in-Moved-clause-hold
returns-in-Moved-clause-hold g c =
    let build = g.Q.SharedQueue.build c.args.queue.now in
    let sight = g.Q.SharedQueue.sight in
    not_stolen_hold build (sight c.find.new.pass) (sight c.steal.new.pass) c.args.number _ _ _ c.in-Moved.ensures.called refl (found_hold build (sight c.args.pass.now) (sight c.find.new.pass) c.args.number _ _ _ c.in-Some.ensures.called c.requires.hold)

pub returns-in-Moved-clause-did : goal.returns-in-Moved-clause-did
returns-in-Moved-clause-did g c =
    let sight = g.Q.SharedQueue.sight in
    moved (g.Q.SharedQueue.build c.args.queue.now) (sight c.args.pass.now) (sight c.find.new.pass) (sight c.steal.new.pass) c.args.number _ c.in-Some.row _ _ c.in-Some.ensures.called c.in-Moved.ensures.called
