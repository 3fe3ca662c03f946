use Rattle.journal_core.proofs.ReadOnly.{reads_then, reads_call}
use Rattle.journal_core.proofs.reading.read_whole.Goals as goal

pub returns-in-Ok-clause-reads : goal.returns-in-Ok-clause-reads
returns-in-Ok-clause-reads g c =
    reads_then g.D.Disk.seen g.D.Disk.images g.D.Disk.moment g.D.Disk.since g.D.Disk.trail g.D.Disk.syncs c.args.disk.now c.len.new.self c.read_first.new.disk
    (reads_call g.D.Disk.seen g.D.Disk.images g.D.Disk.moment g.D.Disk.since g.D.Disk.trail g.D.Disk.syncs _ c.args.disk.now c.len.new.self c.len.ensures.still c.len.ensures.images c.len.ensures.trail c.len.ensures.time c.len.ensures.syncs)
    c.read_first.ensures.reads
