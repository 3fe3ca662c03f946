use Rattle.account_core.proofs.Once.{one_state, dequeued_once}
use Rattle.account_core.proofs.Last.{last_touch}
use Rattle.account_core.proofs.laws.histories.Goals as goal

pub returns : goal.returns
returns c = record { one_state = one_state; dequeued_once = dequeued_once; last_touch = last_touch }
