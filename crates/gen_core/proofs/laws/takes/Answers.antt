use Rattle.gen_core.proofs.Adding.{takes_all, takes_shares}
use Rattle.gen_core.proofs.laws.takes.Goals as goal

pub returns : goal.returns
returns c = record { shares = takes_shares; all = takes_all }
