use Rattle.account_core.proofs.Printing.{states_named}
use Rattle.account_core.proofs.laws.names.Goals as goal

pub returns : goal.returns
returns c = states_named
