use Rattle.account_core.proofs.Serving.{story_serves}
use Rattle.account_core.proofs.laws.targets.Goals as goal

pub returns : goal.returns
returns c = story_serves
