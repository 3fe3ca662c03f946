use Rattle.std.proofs.Common.{ap}
use Rattle.journal_format.specs.declared.events.Event.{Event}
use Rattle.history_lock.specs.declared.view.View.{View}
use Rattle.commit_table.specs.declared.begun.Begun.{Begun}
use Rattle.commit_table.specs.Passes.{begun_in}
use Rattle.commit_table.proofs.Locking.{did_look, live_took, took_in, owed_by, owes_nothing, looked_outcome}
use Rattle.commit_table.proofs.table.CommitTable.look.Goals as goal

pub unlock-requires-clause-owes : goal.unlock-requires-clause-owes
unlock-requires-clause-owes g c =
    let D = g.D.Disk in
    let v = c.args.seat.now.me.0 in
    let w = c.lock-desk.new.seat.me.0 in
    let t = c.lock-desk.ensures.took (begun_in v) c.requires.live.0 in
    owed_by D.seen D.images D.moment D.since D.trail D.faults D.syncs w c.args.caller c.lock-desk.result _ _ _ (live_took D.seen D.images D.moment D.since D.trail D.faults D.syncs v w c.lock-desk.result c.args.caller c.requires.live t)
    (owes_nothing D.seen D.images D.moment D.since D.trail D.faults D.syncs (begun_in w) v w c.lock-desk.result c.args.caller (took_in D.seen D.images D.moment D.since D.trail D.faults D.syncs v w c.lock-desk.result t))

pub unlock-requires-clause-out : goal.unlock-requires-clause-out
unlock-requires-clause-out g c =
    let t = c.lock-desk.ensures.took (begun_in c.args.seat.now.me.0) c.requires.live.0 in
    (c.lock-desk.ensures.out, ap (λ (x : View Begun Event). x.holding) t.view)

pub returns-clause-looked : goal.returns-clause-looked
returns-clause-looked g c =
    let D = g.D.Disk in
    let v = c.args.seat.now.me.0 in
    did_look D.seen D.images D.moment D.since D.trail D.faults D.syncs v c.lock-desk.new.seat.me.0 c.unlock.new.seat.me.0 c.lock-desk.result c.requires.idle.1 (c.lock-desk.ensures.took (begun_in v) c.requires.live.0) (ap (λ m. m.0) c.unlock.ensures.gave)

pub returns-clause-outcomes : goal.returns-clause-outcomes
returns-clause-outcomes g c ticket less =
    let D = g.D.Disk in
    let v = c.args.seat.now.me.0 in
    looked_outcome D.seen D.images D.moment D.since D.trail D.faults D.syncs v c.lock-desk.new.seat.me.0 c.unlock.new.seat.me.0 c.lock-desk.result ticket (c.lock-desk.ensures.took (begun_in v) c.requires.live.0) (ap (λ m. m.0) c.unlock.ensures.gave) less
