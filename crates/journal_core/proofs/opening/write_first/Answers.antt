use Rattle.std.proofs.Common.{◌++◌, ◌∷◌, [], refl}
use Rattle.journal_format.specs.Journal.{header}
use Rattle.journal_core.proofs.Gates.{created}
use Rattle.journal_core.proofs.opening.write_first.Goals as goal

pub returns-in-Ok-clause-made : goal.returns-in-Ok-clause-made
returns-in-Ok-clause-made g c =
    created (g.D.Disk.seen c.args.disk.now) (g.D.Disk.seen c.put.new.disk) (g.D.Disk.images c.put.new.disk) (header ++ (0 ∷ [])) refl c.requires c.in-Ok.ensures.written c.in-Ok.ensures.durable
