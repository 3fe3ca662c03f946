use Rattle.stage_core.proofs.Rooms.{comes_back}
use Rattle.stage_core.proofs.laws.room_comes_back.Goals as goal

pub returns : goal.returns
returns c = comes_back
