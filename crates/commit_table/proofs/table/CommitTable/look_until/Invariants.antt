use Rattle.std.proofs.Common.{◌≡◌, []}
use Rattle.commit_table.proofs.Locking.{Followed}
use Rattle.commit_table.proofs.table.CommitTable.look_until.Given as goal

abbrev pub invariant-waiting : goal.invariant-waiting
invariant-waiting g l =
    (l.seat.table_id ≡ l.fn.seat.table_id) × (l.seat.id ≡ l.fn.seat.id) × (l.seat.me.1 ≡ [])
    × Followed g.D.Disk.seen g.D.Disk.images g.D.Disk.moment g.D.Disk.since g.D.Disk.trail g.D.Disk.faults g.D.Disk.syncs l.fn.seat.me.0 l.seat.me.0
