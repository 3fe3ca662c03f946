use Rattle.account_core.proofs.Counting.{got_counts}
use Rattle.account_core.proofs.Telling.{carry_keeps, carry_frees}
use Rattle.account_core.proofs.laws.deliveries.Goals as goal

pub returns : goal.returns
returns c = record { got_counts = got_counts; carry_keeps = carry_keeps; carry_frees = carry_frees }
