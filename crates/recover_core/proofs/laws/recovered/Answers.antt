use Rattle.recover_core.proofs.LiveOnes.{entries_live}
use Rattle.recover_core.proofs.laws.recovered.Goals as goal

pub returns : goal.returns
returns c = entries_live
