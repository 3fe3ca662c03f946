use Rattle.std.proofs.Common.{length, reverse}
use Rattle.defs_read.specs.Defined.{defined}
use Rattle.resume_core.proofs.Filing.{Filing}
use Rattle.resume_core.proofs.opening.resume_queue.Given as goal

abbrev pub invariant-entries : goal.invariant-entries
invariant-entries l = Filing (defined l.def) (reverse l.fn.entries.items) l.rest.items l.left.items l.outdated.items l.texts

abbrev pub decreases-entries : goal.decreases-entries
decreases-entries l = length l.rest.items
