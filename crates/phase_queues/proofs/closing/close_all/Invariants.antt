use Rattle.std.proofs.Common.{◌≤◌, ◌+◌, vec_capacity, vec_len}
use Rattle.phase_queues.proofs.Leaves.{Leaving}
use Rattle.phase_queues.proofs.closing.close_all.Given as goal

abbrev pub invariant-queues : goal.invariant-queues
invariant-queues g l = record {
  leaving : Leaving l.fn.queues.items l.fn.bosses.items l.queues.items l.bosses.items l.left.items;
  room : vec_len l.left + vec_len l.queues ≤ vec_capacity l.left;
}

abbrev pub decreases-queues : goal.decreases-queues
decreases-queues g l = vec_len l.queues
