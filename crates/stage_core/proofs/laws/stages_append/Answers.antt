use Rattle.stage_core.proofs.Staged.{txn_append}
use Rattle.stage_core.proofs.laws.stages_append.Goals as goal

pub returns : goal.returns
returns c = txn_append
