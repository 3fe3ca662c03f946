use Rattle.account_core.proofs.Settled.{settles}
use Rattle.account_core.proofs.laws.rests.Goals as goal

pub returns : goal.returns
returns c = settles
