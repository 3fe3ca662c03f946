use Rattle.target_core.proofs.Places.{none_at}
use Rattle.std.proofs.Common.{None}
use Rattle.target_core.proofs.rosters.no_targets.Goals as goal

pub returns-clause-bare : goal.returns-clause-bare
returns-clause-bare g c =
    none_at _ _ 64 c.from_fn.ensures.items.long (λ k within. (c.from_fn.ensures.items.at k None within).2.met)
