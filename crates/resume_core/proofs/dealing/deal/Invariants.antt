use Rattle.std.proofs.Common.{length}
use Rattle.defs_read.specs.Defined.{queues_in}
use Rattle.resume_core.proofs.Deals.{Deals}
use Rattle.resume_core.proofs.dealing.deal.Given as goal

abbrev pub invariant-entries : goal.invariant-entries
invariant-entries l = Deals (queues_in l.defs) l.fn.live l.rest l.lists.items

abbrev pub decreases-entries : goal.decreases-entries
decreases-entries l = length l.rest
