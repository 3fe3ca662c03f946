use Rattle.std.proofs.Common.{◌≡◌, ◌+◌, ◌≤◌, ℕ, drop, length, map, reverse, take, vec_capacity, vec_len}
use Rattle.std.specs.Option.{option_map}
use Rattle.any_queue.specs.Kinds.{ServesAny, sight_in}
use Rattle.workers_core.specs.Ready.{AllServe}
use Rattle.phase_core.specs.Joining.{HaveJoined, HaveReturned}
use Rattle.phase_core.proofs.joining.join_actors.Given as goal

-- what the first actors had was given back, and the others stand in the list with the next one last
abbrev pub invariant-actors : goal.invariant-actors
invariant-actors g l = record {
  done : ℕ;
  left : reverse l.actors.items ≡ drop done l.fn.actors.items;
  as_many : length l.queues ≡ vec_len l.bosses;
  serve : AllServe ServesAny l.queues l.bosses.items;
  joined : HaveJoined (map (λ a. map sight_in a.passes.items) (take done l.fn.actors.items)) (map sight_in l.fn.bosses.items) (map sight_in l.bosses.items);
  targets : HaveReturned (map (option_map (λ b. (goal.Target-dyn g (b.vtable, b.value)).seat b.value)) l.fn.roster.slots)
      (map (λ a. map (option_map (λ b. (goal.Target-dyn g (b.vtable, b.value)).seat b.value)) a.roster.slots) (take done l.fn.actors.items))
      (map (option_map (λ b. (goal.Target-dyn g (b.vtable, b.value)).seat b.value)) l.roster.slots);
  names : map (λ x. x.name) l.logs.items ≡ map (λ a. a.name) (take done l.fn.actors.items);
  logs : map (λ x. x.lines.items) l.logs.items ≡ map (λ a. a.log.items) (take done l.fn.actors.items);
  drops : map (λ x. x.drops.items) l.logs.items ≡ map (λ a. a.drops.items) (take done l.fn.actors.items);
  room : vec_len l.logs + vec_len l.actors ≤ vec_capacity l.logs;
}

abbrev pub decreases-actors : goal.decreases-actors
decreases-actors g l = vec_len l.actors
