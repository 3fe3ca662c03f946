use Rattle.link_core.proofs.Lawful.{one_step}
use Rattle.link_core.proofs.laws.each_step_is_its_deed.Goals as goal

pub returns : goal.returns
returns c = one_step
