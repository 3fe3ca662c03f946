use Rattle.std.proofs.Common.{ap, arith}
use Rattle.journal_format.specs.declared.events.Event.{Event}
use Rattle.history_lock.specs.declared.view.View.{View}
use Rattle.commit_table.specs.declared.begun.Begun.{Begun}
use Rattle.commit_table.specs.Passes.{begun_in}
use Rattle.commit_table.proofs.Locking.{did_commit, live_took, took_in}
use Rattle.commit_table.proofs.table.CommitTable.commit_at.Goals as goal

pub write-requires-clause-live : goal.write-requires-clause-live
write-requires-clause-live g c κs within =
    live_took g.D.Disk.seen g.D.Disk.images g.D.Disk.moment g.D.Disk.since g.D.Disk.trail g.D.Disk.faults g.D.Disk.syncs _ _ c.lock-desk.result c.args.caller c.requires.live (c.lock-desk.ensures.took _ c.requires.live.0)

pub write-requires-clause-took : goal.write-requires-clause-took
write-requires-clause-took g c κs within =
    (c.args.seat.now.me.0, took_in g.D.Disk.seen g.D.Disk.images g.D.Disk.moment g.D.Disk.since g.D.Disk.trail g.D.Disk.faults g.D.Disk.syncs _ _ c.lock-desk.result (c.lock-desk.ensures.took _ c.requires.live.0))

pub write-requires-clause-bytes : goal.write-requires-clause-bytes
write-requires-clause-bytes g c κs within =
    let t = c.lock-desk.ensures.took _ c.requires.live.0 in
    let same = ap (λ (x : View Begun Event). (begun_in x).bytes_each) t.view in
    let r = c.requires.bytes in
    omega (arith, same, r)

pub write-requires-clause-share : goal.write-requires-clause-share
write-requires-clause-share g c κs within =
    let t = c.lock-desk.ensures.took _ c.requires.live.0 in
    let same = ap (λ (x : View Begun Event). x.share) t.view in
    let r = c.requires.share in
    omega (arith, same, r)

pub returns-clause-did : goal.returns-clause-did
returns-clause-did g c =
    let t = c.lock-desk.ensures.took _ c.requires.live.0 in
    did_commit g.D.Disk.seen g.D.Disk.images g.D.Disk.moment g.D.Disk.since g.D.Disk.trail g.D.Disk.faults g.D.Disk.syncs _ _ _ c.lock-desk.result c.args.caller c.args.txn.now.items c.write.result c.requires.idle.1 c.requires.share t c.write.ensures.wrote
