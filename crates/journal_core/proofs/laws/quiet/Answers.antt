use Rattle.journal_core.proofs.Committing.{quiet}
use Rattle.journal_core.proofs.laws.quiet.Goals as goal

pub returns : goal.returns
returns g c t0 d d2 gate trust C J new agrees began kept over none q =
    let disk = g.met.D.Disk g.world.𝓛 g.world.𝓜 g.world.𝓡 ((λ s x. x), (λ x. x), (λ x. x), λ x. x) in
    quiet g.D.Disk.moment g.D.Disk.since g.D.Disk.images disk.only_now disk.from_later t0 d d2 gate trust C J new agrees began kept over none q
