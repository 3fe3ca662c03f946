use Rattle.script_read.proofs.FirstRefused.{only_there, there}
use Rattle.script_read.proofs.laws.refusals.Goals as goal

pub returns : goal.returns
returns c = record { only_there = only_there; there = there }
