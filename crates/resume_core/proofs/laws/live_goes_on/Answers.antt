use Rattle.resume_core.proofs.Lives.{live_law}
use Rattle.resume_core.proofs.laws.live_goes_on.Goals as goal

pub returns : goal.returns
returns c = live_law
