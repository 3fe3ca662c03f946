use Rattle.resume_core.proofs.Lawful.{stand_law}
use Rattle.resume_core.proofs.laws.entries_stand.Goals as goal

pub returns : goal.returns
returns c = stand_law
