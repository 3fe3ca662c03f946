use Rattle.link_core.proofs.Lawful.{law}
use Rattle.link_core.proofs.laws.stands_for_a_history.Goals as goal

pub returns : goal.returns
returns c = law
