use Rattle.std.proofs.Common.{length}
use Rattle.recover_core.proofs.Passes.{BatchesPassed}
use Rattle.recover_core.proofs.passing.last_first.Given as goal

abbrev pub invariant-batches : goal.invariant-batches
invariant-batches l = BatchesPassed l.fn.batches.items l.left.items l.gone l.entries.items

abbrev pub decreases-batches : goal.decreases-batches
decreases-batches l = length l.left.items
