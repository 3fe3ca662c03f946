use Rattle.journal_core.proofs.Moments.{extends_then}
use Rattle.journal_core.proofs.Gates.{read_each}
use Rattle.journal_core.proofs.opening.read_synced.Goals as goal

pub returns-in-Ok-clause-each : goal.returns-in-Ok-clause-each
returns-in-Ok-clause-each g c =
    let disk = g.met.D.Disk g.world.𝓛 g.world.𝓜 g.world.𝓡 ((λ s x. x), (λ x. x), (λ x. x), λ x. x) in
    read_each (λ v. v.items) c.read_whole.result (g.D.Disk.seen c.only_sync.new.disk) (g.D.Disk.seen c.read_whole.new.disk) (g.D.Disk.images c.only_sync.new.disk) (g.D.Disk.images c.read_whole.new.disk)
    c.read_whole.ensures.reads.none c.in-Ok.ensures.durable c.read_whole.ensures.reads.still (disk.tells c.read_whole.new.disk) c.read_whole.ensures.bytes

pub returns-in-Ok-clause-trail : goal.returns-in-Ok-clause-trail
returns-in-Ok-clause-trail g c = extends_then _ _ _ c.only_sync.ensures.trail c.read_whole.ensures.reads.goes_on
