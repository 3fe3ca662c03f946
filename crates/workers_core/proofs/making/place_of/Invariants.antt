use Rattle.std.proofs.Common.{◌≡◌, ◌≤◌, drop}
use Rattle.defs_read.specs.Defined.{queues_in}
use Rattle.line_core.specs.Places.{place_from, place_of}
use Rattle.workers_core.proofs.making.place_of.Given as goal

-- the place is still to be found from this queue on
abbrev pub invariant-queues : goal.invariant-queues
invariant-queues l = record {
  rest : place_from l.number (drop l.number (queues_in l.defs)) l.left ≡ place_of (queues_in l.defs) l.fn.consumer;
  less : l.left ≤ l.fn.consumer;
}
