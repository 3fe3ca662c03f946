use Rattle.account_core.proofs.Closing.{closed_played}
use Rattle.account_core.proofs.laws.queues.Goals as goal

pub returns : goal.returns
returns c = closed_played
