use Rattle.gen_core.proofs.Adding.{puts_all, puts_bytes}
use Rattle.gen_core.proofs.laws.puts.Goals as goal

pub returns : goal.returns
returns c = record { all = puts_all; bytes = puts_bytes }
