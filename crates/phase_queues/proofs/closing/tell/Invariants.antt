use Rattle.std.proofs.Common.{◌≡◌, ◌++◌, map, take, vec_capacity}
use Rattle.phase_queues.specs.Left.{resting_left}
use Rattle.phase_queues.proofs.closing.tell.Given as goal

abbrev pub invariant-loop-entry : goal.invariant-loop-entry
invariant-loop-entry l =
    (l.rest.name ≡ l.fn.rest.name)
    × (l.rest.entries.items ≡ l.fn.rest.entries.items ++ map resting_left (take l.entry-index l.entries))
    × (vec_capacity l.rest.entries ≡ vec_capacity l.fn.rest.entries)
