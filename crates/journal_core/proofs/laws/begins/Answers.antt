use Rattle.journal_core.proofs.Committing.{begins}
use Rattle.journal_core.proofs.laws.begins.Goals as goal

pub returns : goal.returns
returns g c d gate trust C agrees =
    let disk = g.met.D.Disk g.world.𝓛 g.world.𝓜 g.world.𝓡 ((λ s x. x), (λ x. x), (λ x. x), λ x. x) in
    begins g.D.Disk.moment g.D.Disk.since g.D.Disk.images disk.only_now disk.from_later d gate trust C agrees
