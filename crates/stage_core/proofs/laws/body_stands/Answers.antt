use Rattle.stage_core.proofs.Bodies.{body_stands}
use Rattle.stage_core.proofs.laws.body_stands.Goals as goal

pub returns : goal.returns
returns c = body_stands
