use Rattle.std.proofs.Common.{List, [], ◌∷◌, false, sym, subst}
use Rattle.defs_read.specs.Allowed.{AreAllowed}
use Rattle.defs_read.specs.Defined.{Defined}
use Rattle.script_read.specs.Allowed.{AreAllowedPhases}
use Rattle.script_read.specs.Phases.{Actors, phases_in}
use Rattle.gen_core.specs.Generated.{queue}
use Rattle.gen_core.proofs.Allowed.{allowed, runs}
use Rattle.gen_core.proofs.phases.generate.Goals as goal

pub returns-clause-allowed : goal.returns-clause-allowed
returns-clause-allowed c = subst AreAllowed (sym c.in_ok-definitions.ensures) allowed

pub returns-clause-runs : goal.returns-clause-runs
returns-clause-runs c =
    let on_one_queue = subst (λ (made : List Actors). AreAllowedPhases (queue ∷ []) false made) (sym c.in_ok-script.ensures) (runs c.args.number c.args.count) in
    subst (λ (queues : List Defined). AreAllowedPhases queues false (phases_in c.in_ok-script.script)) (sym c.in_ok-definitions.ensures) on_one_queue
