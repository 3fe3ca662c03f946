use Rattle.account_core.proofs.TwoPhases.{row25_text, row25_runs}
use Rattle.account_core.proofs.laws.put_take_rest_take.Goals as goal

pub returns : goal.returns
returns c = record { text = row25_text; runs = row25_runs }
