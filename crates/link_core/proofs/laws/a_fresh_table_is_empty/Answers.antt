use Rattle.link_core.proofs.Making.{fresh_stands}
use Rattle.link_core.proofs.laws.a_fresh_table_is_empty.Goals as goal

pub returns : goal.returns
returns c = fresh_stands
