use Rattle.outside_io.proofs.Says.{says_then}
use Rattle.outside_io.proofs.laws.says_then.Goals as goal

pub returns : goal.returns
returns c = says_then
