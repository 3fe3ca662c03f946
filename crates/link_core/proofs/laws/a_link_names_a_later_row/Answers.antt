use Rattle.link_core.proofs.Chaining.{link_names}
use Rattle.link_core.proofs.laws.a_link_names_a_later_row.Goals as goal

pub returns : goal.returns
returns c = link_names
