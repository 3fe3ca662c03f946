use Rattle.resume_core.proofs.Lawful.{few_law}
use Rattle.resume_core.proofs.laws.few_entries.Goals as goal

pub returns : goal.returns
returns c = few_law
