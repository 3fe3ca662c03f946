use Rattle.std.proofs.Common.{arith, ap, ◌-◌, ◌≤◌, ℕ, List, Option}
use Rattle.journal_format.specs.declared.events.Event.{Event}
use Rattle.history_lock.specs.declared.view.View.{View}
use Rattle.commit_table.specs.declared.begun.Begun.{Begun}
use Rattle.commit_table.specs.declared.desk.Desk.{Desk}
use Rattle.commit_table.specs.Turns.{is_stored}
use Rattle.commit_table.specs.Passes.{begun_in}
use Rattle.commit_table.proofs.Locking.{owed_by, owes_commit, wrote_of, goes_as}
use Rattle.commit_table.proofs.table.CommitTable.write.Goals as goal

pub put_back-requires-clause-owes : goal.put_back-requires-clause-owes
put_back-requires-clause-owes g c κs within =
    let D = g.D.Disk in
    let v = c.args.seat.now.me.0 in
    let old = c.args.desk in
    let new = c.commit-settled.new.self in
    let t = c.requires.took in
    owed_by D.seen D.images D.moment D.since D.trail D.faults D.syncs v c.args.caller new _ _ _ c.requires.live
    (owes_commit D.seen D.images D.moment D.since D.trail D.faults D.syncs (begun_in v) t.0 v old new c.args.caller c.args.txn.now.items (is_stored c.commit-settled.result) _ _ _ t.1 c.requires.share
    (goes_as D.seen D.images D.moment D.since D.trail D.faults D.syncs old new c.args.caller c.args.txn.now.items (is_stored c.commit-settled.result) (D.moment new.journal.disk) (D.syncs new.journal.disk) (D.faults new.journal.disk) g.B.Before.syncs g.B.Before.faults (D.syncs old.journal.disk) (D.faults old.journal.disk) c.requires.before.0 c.requires.before.1 (c.commit-settled.ensures.goes c.args.caller)))

pub returns-clause-wrote : goal.returns-clause-wrote
returns-clause-wrote g c =
    let D = g.D.Disk in
    let v = c.args.seat.now.me.0 in
    let old = c.args.desk in
    let new = c.commit-settled.new.self in
    let t = c.requires.took in
    let few : D.syncs new.journal.disk - g.B.Before.syncs ≤ 3 = (let s = c.commit-settled.ensures.syncs in let b = c.requires.before.0 in omega (arith, s, b)) in
    wrote_of D.seen D.images D.moment D.since D.trail D.faults D.syncs t.0 v c.put_back.new.seat.me.0 old new c.args.caller c.args.txn.now.items c.commit-settled.result _ _ _ t.1 few (λ clean. let s = c.commit-settled.ensures.quick clean in let b = c.requires.before.0 in omega (arith, s, b))
    (goes_as D.seen D.images D.moment D.since D.trail D.faults D.syncs old new c.args.caller c.args.txn.now.items (is_stored c.commit-settled.result) (D.moment new.journal.disk) (D.syncs new.journal.disk) (D.faults new.journal.disk) g.B.Before.syncs g.B.Before.faults (D.syncs old.journal.disk) (D.faults old.journal.disk) c.requires.before.0 c.requires.before.1 (c.commit-settled.ensures.goes c.args.caller))
    c.commit-settled.ensures.receipt
    (ap (λ (m : View Begun Event × List (ℕ × Option (Desk g.row.D.Denot))). m.0) c.put_back.ensures.gave)
