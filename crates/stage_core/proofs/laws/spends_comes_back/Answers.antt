use Rattle.stage_core.proofs.Rooms.{spends_comes_back}
use Rattle.stage_core.proofs.laws.spends_comes_back.Goals as goal

pub returns : goal.returns
returns c = spends_comes_back
