use Rattle.selector_read.proofs.Outcomes.{selector_of_means, one_outcome}
use Rattle.selector_read.proofs.laws.one_outcome.Goals as goal

pub returns : goal.returns
returns c = λ text o. (one_outcome text o, selector_of_means text o)
