use Rattle.std.proofs.Common.{sym, subst}
use Rattle.defs_read.specs.Allowed.{AreAllowed}
use Rattle.defs_read.specs.Defined.{queues_in}
use Rattle.phase_queues.proofs.Tried.{allowed, new_last}
use Rattle.phase_queues.proofs.tests.there_and_back.Goals as goal

pub open_queues-requires-clause-allowed : goal.open_queues-requires-clause-allowed
open_queues-requires-clause-allowed g c = subst AreAllowed (sym c.in_ok-defs.ensures) allowed

pub close_queues-requires-clause-last : goal.close_queues-requires-clause-last
close_queues-requires-clause-last g c =
    new_last (queues_in c.in_ok-defs.defs) c.in_ok-before.before.items _ c.in_ok-opened.opened.queues.items c.in_ok-opened.opened.bosses.items c.in_ok-opened.ensures.opened
