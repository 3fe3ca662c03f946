use Rattle.stage_core.proofs.Bodies.{bodies_given}
use Rattle.stage_core.proofs.laws.bodies_given.Goals as goal

pub returns : goal.returns
returns c = bodies_given
