use Rattle.stage_core.proofs.Rooms.{begins}
use Rattle.stage_core.proofs.laws.room_begins.Goals as goal

pub returns : goal.returns
returns c = begins
