use Rattle.std.proofs.Common.{length}
use Rattle.recover_core.specs.Passed.{first_place}
use Rattle.recover_core.proofs.Passes.{TxnsPassed}
use Rattle.recover_core.proofs.passing.pass_batch.Given as goal

abbrev pub invariant-txns : goal.invariant-txns
invariant-txns l = TxnsPassed (first_place l.fn.batch) l.end l.fn.batch.txns l.left l.fn.gone l.fn.entries.items l.gone l.entries.items

abbrev pub decreases-txns : goal.decreases-txns
decreases-txns l = length l.left
