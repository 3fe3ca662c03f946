use Rattle.stage_core.proofs.Rooms.{acks_counted}
use Rattle.stage_core.proofs.laws.acks_counted.Goals as goal

pub returns : goal.returns
returns c = acks_counted
