use Rattle.stage_core.proofs.Rooms.{spends_begins}
use Rattle.stage_core.proofs.laws.spends_begins.Goals as goal

pub returns : goal.returns
returns c = spends_begins
