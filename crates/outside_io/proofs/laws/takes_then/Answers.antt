use Rattle.outside_io.proofs.Says.{takes_then}
use Rattle.outside_io.proofs.laws.takes_then.Goals as goal

pub returns : goal.returns
returns c = takes_then
