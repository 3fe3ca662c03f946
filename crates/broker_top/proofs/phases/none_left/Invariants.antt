use Rattle.std.proofs.Common.{◌≡◌, ◌≤◌, length, vec_len, vec_capacity}
use Rattle.broker_top.proofs.Names.{AreEmpty}
use Rattle.broker_top.proofs.phases.none_left.Given as goal

abbrev pub invariant-queues : goal.invariant-queues
invariant-queues l = record {
  empty : AreEmpty l.left.items;
  many : length l.left.items ≡ l._queue-index;
  room : length l.queues ≤ vec_capacity l.left;
}
