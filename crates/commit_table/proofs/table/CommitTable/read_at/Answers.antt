use Rattle.commit_table.proofs.Locking.{did_read, live_took, took_in}
use Rattle.commit_table.proofs.table.CommitTable.read_at.Goals as goal

pub read_on-requires-clause-live : goal.read_on-requires-clause-live
read_on-requires-clause-live g c κs within =
    live_took g.D.Disk.seen g.D.Disk.images g.D.Disk.moment g.D.Disk.since g.D.Disk.trail g.D.Disk.faults g.D.Disk.syncs _ _ c.lock-desk.result c.args.caller c.requires.live (c.lock-desk.ensures.took _ c.requires.live.0)

pub read_on-requires-clause-took : goal.read_on-requires-clause-took
read_on-requires-clause-took g c κs within =
    (c.args.seat.now.me.0, took_in g.D.Disk.seen g.D.Disk.images g.D.Disk.moment g.D.Disk.since g.D.Disk.trail g.D.Disk.faults g.D.Disk.syncs _ _ c.lock-desk.result (c.lock-desk.ensures.took _ c.requires.live.0))

pub returns-clause-read : goal.returns-clause-read
returns-clause-read g c =
    let t = c.lock-desk.ensures.took _ c.requires.live.0 in
    did_read g.D.Disk.seen g.D.Disk.images g.D.Disk.moment g.D.Disk.since g.D.Disk.trail g.D.Disk.faults g.D.Disk.syncs _ _ _ c.lock-desk.result c.args.caller c.args.at c.args.len c.read_on.result _ c.requires.idle.1 t c.read_on.ensures.told c.read_on.ensures.read
