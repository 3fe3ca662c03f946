use Rattle.stage_core.proofs.Rooms.{goes_on}
use Rattle.stage_core.proofs.laws.room_goes_on.Goals as goal

pub returns : goal.returns
returns c = goes_on
