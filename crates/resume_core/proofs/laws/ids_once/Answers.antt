use Rattle.resume_core.proofs.Lawful.{ids_law}
use Rattle.resume_core.proofs.laws.ids_once.Goals as goal

pub returns : goal.returns
returns c = ids_law
