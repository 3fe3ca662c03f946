use Rattle.stage_core.proofs.Bodies.{staged_bodies}
use Rattle.stage_core.proofs.laws.staged_bodies.Goals as goal

pub returns : goal.returns
returns c = staged_bodies
