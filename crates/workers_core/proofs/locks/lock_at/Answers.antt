use Rattle.std.proofs.Common.{arith, Some}
use Rattle.workers_core.proofs.Holds.{set_cargo}
use Rattle.workers_core.proofs.locks.lock_at.Goals as goal

pub returns-clause-locked : goal.returns-clause-locked
returns-clause-locked c = λ k apart at. set_cargo c.args.held.now.items c.args.at c.index_mut.result.now (Some c.args.cargo) k (omega (arith, c.requires.there, c.args.held.now.ok.0)) c.index_mut.ensures.value apart at
