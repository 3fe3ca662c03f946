use Rattle.std.proofs.Common.{◌∙◌, refl}
use Rattle.commit_table.proofs.Locking.{follows_self, follows_look, looked_then}
use Rattle.commit_table.proofs.table.CommitTable.look_until.Goals as goal

pub waiting-init : goal.waiting-init
waiting-init g c =
    let D = g.D.Disk in
    (refl, refl, c.requires.idle.0, follows_self D.seen D.images D.moment D.since D.trail D.faults D.syncs c.args.seat.now.me.0)

pub waiting-preserved : goal.waiting-preserved
waiting-preserved g c =
    let D = g.D.Disk in
    let i = c.waiting.invariant in
    let v = c.args.seat.now.me.0 in
    let w = c.look.new.seat.me.0 in (
      c.look.ensures.table.0 ∙ i.0,
      c.look.ensures.table.1 ∙ i.1,
      c.look.ensures.out,
      follows_look D.seen D.images D.moment D.since D.trail D.faults D.syncs v w (looked_then D.seen D.images D.moment D.since D.trail D.faults D.syncs v c.waiting.seat.me.0 w i.3 c.look.ensures.looked),
    )

pub returns-then-look-ticket-clause-looked : goal.returns-then-look-ticket-clause-looked
returns-then-look-ticket-clause-looked g c =
    let D = g.D.Disk in
    looked_then D.seen D.images D.moment D.since D.trail D.faults D.syncs c.args.seat.now.me.0 c.waiting.seat.me.0 c.look.new.seat.me.0 c.waiting.invariant.3 c.look.ensures.looked
