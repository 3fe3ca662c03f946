use Rattle.resume_core.proofs.Lawful.{keys_law}
use Rattle.resume_core.proofs.laws.keys_once.Goals as goal

pub returns : goal.returns
returns c = keys_law
