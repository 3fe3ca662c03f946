use Rattle.std.proofs.Common.{◌≡◌, ◌+◌, ◌≤◌, min, length, drop}
use Rattle.std.specs.Prelude.{IfSome}
use Rattle.outside_io.specs.Counts.{last_count}
use Rattle.journal_core.specs.Reading.{padded, OnlyReads}
use Rattle.journal_core.proofs.reading.fill.Given as goal

abbrev pub invariant-chunks : goal.invariant-chunks
invariant-chunks g l =
    (length l.into.bytes + l.left ≡ l.initial.left) × (l.initial.into.room ≤ l.into.room)
    × OnlyReads g.D.Disk.seen g.D.Disk.images g.D.Disk.moment g.D.Disk.since g.D.Disk.trail g.D.Disk.syncs l.initial.disk l.disk
    × (g.D.Disk.faults l.disk ≡ g.D.Disk.faults l.initial.disk) × (l.place ≡ min (l.initial.place + length l.into.bytes) last_count)
    × IfSome (g.D.Disk.seen l.disk) (λ b. l.into.bytes ≡ padded (length l.into.bytes) (drop l.initial.place b))

abbrev pub decreases-chunks : goal.decreases-chunks
decreases-chunks g l = l.left
