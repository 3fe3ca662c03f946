use Rattle.link_core.proofs.Leading.{links_point}
use Rattle.link_core.proofs.laws.each_link_leads_into_its_list.Goals as goal

pub returns : goal.returns
returns c = links_point
