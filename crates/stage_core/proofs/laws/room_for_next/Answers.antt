use Rattle.stage_core.proofs.Rooms.{for_next}
use Rattle.stage_core.proofs.laws.room_for_next.Goals as goal

pub returns : goal.returns
returns c = for_next
