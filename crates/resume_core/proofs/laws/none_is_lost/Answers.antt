use Rattle.resume_core.proofs.Lawful.{lost_law}
use Rattle.resume_core.proofs.laws.none_is_lost.Goals as goal

pub returns : goal.returns
returns c = lost_law
