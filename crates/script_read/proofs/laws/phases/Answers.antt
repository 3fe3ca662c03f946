use Rattle.script_read.proofs.FirstAppearance.{by_first_appearance, without_rest, split_at_rest}
use Rattle.script_read.proofs.laws.phases.Goals as goal

pub returns : goal.returns
returns c = record { by_first_appearance = by_first_appearance; without_rest = without_rest; split_at_rest = split_at_rest }
