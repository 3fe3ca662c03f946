use Rattle.account_core.proofs.Gone.{drops_gone, drops_told}
use Rattle.account_core.proofs.laws.drops.Goals as goal

pub returns : goal.returns
returns c = record { told = drops_told; gone = drops_gone }
