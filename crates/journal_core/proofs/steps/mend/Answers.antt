use Rattle.std.proofs.Common.{subst}
use Rattle.journal_core.specs.Stands.{Stands}
use Rattle.journal_core.proofs.steps.mend.Goals as goal

pub returns-in-Gate-clause-moments : goal.returns-in-Gate-clause-moments
returns-in-Gate-clause-moments g c C B s = c.close_gate.ensures.moments C B (subst (λ t. Stands (g.D.Disk.images c.args.disk.now) c.args.gate t C B) c.in-Gate.is s)
