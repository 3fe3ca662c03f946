use Rattle.std.proofs.Common.{arith, None}
use Rattle.workers_core.proofs.Holds.{set_cargo}
use Rattle.workers_core.proofs.locks.leave_at.Goals as goal

pub returns-clause-left : goal.returns-clause-left
returns-clause-left c = λ k apart at. rw c.take.ensures.after (set_cargo c.args.held.now.items c.args.at c.index_mut.result.now None k (omega (arith, c.requires.there, c.args.held.now.ok.0)) c.index_mut.ensures.value apart at)
