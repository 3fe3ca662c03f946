use Rattle.std.proofs.Common.{ap, ◌∙◌, List}
use Rattle.workers_core.specs.Held.{hands_of}
use Rattle.workers_core.specs.declared.held.Kept.{Kept}
use Rattle.workers_core.proofs.Holds.{gained_after, gained_none}
use Rattle.workers_core.proofs.held.lose.Goals as goal

pub returns-in-Some-clause-lost : goal.returns-in-Some-clause-lost
returns-in-Some-clause-lost c = gained_after c.args.queue c.args.id _ _ _ c.in-Some.ensures.some

pub returns-in-None-clause-lost : goal.returns-in-None-clause-lost
returns-in-None-clause-lost c =
    ap (λ (xs : List Kept). hands_of xs) c.in-None.ensures.none.1 ∙ gained_none c.args.queue c.args.id _ c.in-None.ensures.none.0
