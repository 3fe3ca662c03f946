use Rattle.std.proofs.Common.{subst}
use Rattle.disk_core.specs.Images.{Over}
use Rattle.journal_core.specs.Stands.{Stands, IsEither}
use Rattle.journal_core.proofs.journal.Journal.repair.Goals as goal

pub returns-in-Ok-clause-moments : goal.returns-in-Ok-clause-moments
returns-in-Ok-clause-moments g c C B s =
    subst (λ v. Stands (g.D.Disk.images v.disk) v.gate v.trust C B → Over g.D.Disk.moment g.D.Disk.since v.disk c.mend.new.disk (IsEither C B)) c.self.view_is
    (c.mend.ensures.moments C B) s

pub returns-in-Err-clause-moments : goal.returns-in-Err-clause-moments
returns-in-Err-clause-moments g c C B s =
    subst (λ v. Stands (g.D.Disk.images v.disk) v.gate v.trust C B → Over g.D.Disk.moment g.D.Disk.since v.disk c.mend.new.disk (IsEither C B)) c.self.view_is
    (c.mend.ensures.moments C B) s
