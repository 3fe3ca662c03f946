use Rattle.account_core.proofs.Telling.{log_told, account_told}
use Rattle.account_core.proofs.laws.texts.Goals as goal

pub returns : goal.returns
returns c = record { log = log_told; account = account_told }
