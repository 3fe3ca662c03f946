use Rattle.outside_io.proofs.Says.{adds_then}
use Rattle.outside_io.proofs.laws.adds_then.Goals as goal

pub returns : goal.returns
returns c = adds_then
