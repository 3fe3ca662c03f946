use Rattle.stage_core.proofs.Rooms.{puts_counted}
use Rattle.stage_core.proofs.laws.puts_counted.Goals as goal

pub returns : goal.returns
returns c = puts_counted
