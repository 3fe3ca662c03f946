use Rattle.account_core.proofs.EntryCounts.{hands_on_count, opens_count}
use Rattle.account_core.proofs.Putting.{few_entered, rows_count}
use Rattle.account_core.proofs.laws.counts.Goals as goal

pub returns : goal.returns
returns c = record { opens = opens_count; rows = rows_count; entered = few_entered; hands_on = hands_on_count }
