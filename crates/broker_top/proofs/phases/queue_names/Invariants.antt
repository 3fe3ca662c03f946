use Rattle.std.proofs.Common.{◌≡◌, ◌++◌, ◌-◌, ◌≤◌, drop, length, map, vec_len, vec_capacity}
use Rattle.broker_top.proofs.phases.queue_names.Given as goal

abbrev pub invariant-queues : goal.invariant-queues
invariant-queues l = record {
  names : l.names.items ++ map (λ q. q.name) (drop l.queue-index l.queues) ≡ map (λ q. q.name) l.queues;
  room : length l.queues ≤ vec_capacity l.names;
}
