use Rattle.std.proofs.Common.{◌≡◌, ◌++◌, ◌≤◌, drop, length, map, vec_capacity}
use Rattle.broker_top.proofs.phases.actor_names.Given as goal

abbrev pub invariant-actors : goal.invariant-actors
invariant-actors l = record {
  names : l.names.items ++ map (λ a. a.0) (drop l.actor-index l.actors) ≡ map (λ a. a.0) l.actors;
  room : length l.actors ≤ vec_capacity l.names;
}
