use Rattle.line_core.proofs.Running.{ran_none, ran_call, ran_append}
use Rattle.line_core.proofs.laws.passes.Goals as goal

pub returns : goal.returns
returns c = record { none = ran_none; call = ran_call; append = ran_append }
