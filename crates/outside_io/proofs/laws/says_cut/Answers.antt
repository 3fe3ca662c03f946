use Rattle.outside_io.proofs.Says.{says_cut}
use Rattle.outside_io.proofs.laws.says_cut.Goals as goal

pub returns : goal.returns
returns c = says_cut
