use Rattle.std.proofs.Common.{◌-◌, length}
use Rattle.journal_core.proofs.ReadTo.{ReadTo}
use Rattle.journal_core.proofs.walk.batches_of.Given as goal

abbrev pub invariant-gates : goal.invariant-gates
invariant-gates l = ReadTo l.bytes l.gate l.commits l.read.items

abbrev pub decreases-gates : goal.decreases-gates
decreases-gates l = length l.bytes - l.gate
