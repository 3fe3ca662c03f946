use Rattle.std.proofs.Common.{◌≡◌, drop, map}
use Rattle.defs_read.specs.Defined.{defined}
use Rattle.resume_core.specs.Live.{number_from}
use Rattle.resume_core.proofs.numbers.number_of.Given as goal

abbrev pub invariant-queues : goal.invariant-queues
invariant-queues l = number_from l.at l.name (map defined (drop l.at l.queues)) ≡ number_from 0 l.name (map defined l.queues)
