use Rattle.std.proofs.Common.{length}
use Rattle.recover_core.proofs.Passes.{ItemsPassed}
use Rattle.recover_core.proofs.passing.pass_txn.Given as goal

abbrev pub invariant-items : goal.invariant-items
invariant-items l = ItemsPassed l.at l.end l.fn.txn l.left l.fn.gone l.fn.entries.items l.gone l.entries.items

abbrev pub decreases-items : goal.decreases-items
decreases-items l = length l.left
