use Rattle.journal_core.proofs.Gates.{opened_ok, told_ok}
use Rattle.journal_core.proofs.opening.find_gate.Goals as goal

pub returns-in-Ok-clause-opened : goal.returns-in-Ok-clause-opened
returns-in-Ok-clause-opened g c =
    let disk = g.met.D.Disk g.world.𝓛 g.world.𝓜 g.world.𝓡 ((λ s x. x), (λ x. x), (λ x. x), λ x. x) in
    opened_ok (g.D.Disk.seen c.read_synced.new.disk) (g.D.Disk.images c.read_synced.new.disk) c.in-Ok.bytes.items c.in-Ok.ensures.each (disk.tells c.read_synced.new.disk) (disk.within c.read_synced.new.disk)
    c.in-Ok.ensures.told c.gated.result c.gated.ensures.found c.gated.ensures.bytes

pub returns-in-Ok-clause-told : goal.returns-in-Ok-clause-told
returns-in-Ok-clause-told g c = told_ok (g.D.Disk.seen c.read_synced.new.disk) c.in-Ok.bytes.items c.in-Ok.ensures.told c.gated.result c.gated.ensures.bytes
