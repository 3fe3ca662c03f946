use Rattle.stage_core.proofs.Rooms.{spends_goes_on}
use Rattle.stage_core.proofs.laws.spends_goes_on.Goals as goal

pub returns : goal.returns
returns c = spends_goes_on
