use Rattle.std.proofs.Common.{◌≡◌, ◌≤◌, ◌+◌, All, [], false, length, map, replicate, vec_len, vec_capacity}
use Rattle.std.specs.Option.{option_map}
use Rattle.std.specs.Vec.Iter.{into_iter_items, into_iter_len}
use Rattle.any_queue.specs.Kinds.{ServesAny, build_in, sight_in}
use Rattle.defs_read.specs.Defined.{queues_in}
use Rattle.script_read.specs.Phases.{actors_in}
use Rattle.workers_core.specs.Drops.{all_rows}
use Rattle.workers_core.specs.Phases.{MayDrop, MayRun, lines_of}
use Rattle.workers_core.specs.Ready.{AllServe}
use Rattle.phase_actors.proofs.Actors.{left_of}
use Rattle.phase_actors.proofs.Castings.{Casting}
use Rattle.phase_actors.proofs.casting.make_actors.Given as goal

-- some actors were made, and may run
abbrev pub invariant-actors : goal.invariant-actors
invariant-actors g l = record {
  cast : Casting l.actors.items (λ a. a.name) (λ a. lines_of a.jobs.items) (λ a. a.number) (λ a. map sight_in a.passes.items)
      (λ a. map (option_map (λ b. (goal.Target-dyn g (b.vtable, b.value)).seat b.value)) a.roster.slots)
      (queues_in l.defs) (map sight_in l.fn.bosses.items)
      (map (option_map (λ b. (goal.Target-dyn g (b.vtable, b.value)).seat b.value)) l.fn.roster.slots)
      (actors_in l.fn.phase) (left_of (into_iter_items l.name-iterator)) l.number (map sight_in l.bosses.items)
      (map (option_map (λ b. (goal.Target-dyn g (b.vtable, b.value)).seat b.value)) l.roster.slots);
  run : All (λ a.
      (length l.queues ≡ vec_len a.passes) × AllServe ServesAny l.queues a.passes.items
      × MayRun (queues_in l.defs) (map sight_in a.passes.items)
      (map (option_map (λ b. (goal.Target-dyn g (b.vtable, b.value)).seat b.value)) a.roster.slots)
      a.jobs.items (vec_capacity a.held) (vec_capacity a.log)
      × MayDrop (queues_in l.defs) (all_rows (map build_in l.queues)) (lines_of a.jobs.items) (vec_capacity a.drops)
      × (a.held.items ≡ []) × (a.log.items ≡ []) × (a.drops.items ≡ [])
      × (a.stopped.items ≡ replicate (length (queues_in l.defs)) false)) l.actors.items;
  serve : AllServe ServesAny l.queues l.bosses.items;
  bosses : vec_len l.bosses ≡ length (queues_in l.defs);
  left : into_iter_len l.name-iterator ≡ length (into_iter_items l.name-iterator);
  room : vec_len l.actors + length (into_iter_items l.name-iterator) ≤ vec_capacity l.actors;
}
