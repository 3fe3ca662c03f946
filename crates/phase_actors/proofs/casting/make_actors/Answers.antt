use Rattle.std.proofs.Common.{◌≡◌, [], false, length, map, replicate, ap, arith, vec_len, vec_capacity}
use Rattle.std.specs.Option.{option_map}
use Rattle.std.specs.Vec.Iter.{into_iter_items}
use Rattle.any_queue.specs.Kinds.{ServesAny, build_in, sight_in}
use Rattle.defs_read.specs.Defined.{queues_in}
use Rattle.script_read.specs.Allowed.{HasOwnOps}
use Rattle.workers_core.specs.Drops.{all_rows}
use Rattle.workers_core.specs.Phases.{MayDrop, MayRun, lines_of}
use Rattle.workers_core.specs.Ready.{AllServe}
use Rattle.workers_core.proofs.OneJob.{map_length}
use Rattle.phase_actors.specs.Cast.{HasServedOps}
use Rattle.phase_actors.proofs.Actors.{kept_back, left_of}
use Rattle.phase_actors.proofs.Castings.{all_cast, next_holds, next_low, next_may, none_cast, none_left, one_cast}
use Rattle.phase_actors.proofs.Lists.{all_more}
use Rattle.phase_actors.proofs.casting.make_actors.Goals as goal

pub actors-init : goal.actors-init
actors-init g c =
    let gives = c.into_iter-name-iterator.ensures.into_iter_gives in
    let bosses = c.args.bosses.now.items in
    let long : length (map sight_in bosses) ≡ length (queues_in c.args.defs.now) = omega (arith, map_length sight_in bosses, c.requires.bosses, c.args.bosses.now.ok) in
    record {
      cast = none_cast _ _ _ _ _ _ _ _ _ long c.in-Ok.actors.items (left_of (into_iter_items c.into_iter-name-iterator.result)) c.in-Ok.ensures.items (ap left_of gives.0) c.requires.may;
      run = λ i d less. absurd (omega (arith, less, ap length c.in-Ok.ensures.items));
      serve = c.requires.serve;
      bosses = c.requires.bosses;
      left = omega (arith, gives.1, ap length gives.0, c.args.phase.actors.ok);
      room = omega (arith, c.in-Ok.ensures.capacity, c.in-Ok.ensures.len, c.len.ensures, ap length gives.0, c.args.phase.actors.ok);
    }

pub make_actor-requires-clause-own : goal.make_actor-requires-clause-own
make_actor-requires-clause-own g c κs within =
    let bosses = c.args.bosses.now.items in
    let long : length (map sight_in bosses) ≡ length (queues_in c.args.defs.now) = omega (arith, map_length sight_in bosses, c.requires.bosses, c.args.bosses.now.ok) in
    let rest = left_of (into_iter_items c.next.new.self) in
    (next_holds _ _ _ _ _ _ _ _ _ long (HasOwnOps (queues_in c.args.defs.now) _) c.actors.actors.items c.in-Some.ops.items c.in-Some.name _ rest c.actors.number _ _
    (ap left_of c.in-Some.ensures.steps.0) c.requires.phase.own c.actors.invariant.cast).own

pub make_actor-requires-clause-served : goal.make_actor-requires-clause-served
make_actor-requires-clause-served g c κs within =
    let bosses = c.args.bosses.now.items in
    let long : length (map sight_in bosses) ≡ length (queues_in c.args.defs.now) = omega (arith, map_length sight_in bosses, c.requires.bosses, c.args.bosses.now.ok) in
    let rest = left_of (into_iter_items c.next.new.self) in
    next_holds _ _ _ _ _ _ _ _ _ long HasServedOps c.actors.actors.items c.in-Some.ops.items c.in-Some.name _ rest c.actors.number _ _
    (ap left_of c.in-Some.ensures.steps.0) c.requires.served c.actors.invariant.cast

pub make_actor-requires-clause-number : goal.make_actor-requires-clause-number
make_actor-requires-clause-number g c κs within =
    let bosses = c.args.bosses.now.items in
    let long : length (map sight_in bosses) ≡ length (queues_in c.args.defs.now) = omega (arith, map_length sight_in bosses, c.requires.bosses, c.args.bosses.now.ok) in
    let rest = left_of (into_iter_items c.next.new.self) in
    next_low _ _ _ _ _ _ _ _ _ long c.actors.actors.items c.in-Some.ops.items c.in-Some.name _ rest c.actors.number _ _
    (ap left_of c.in-Some.ensures.steps.0) c.requires.phase.few c.actors.invariant.cast

pub make_actor-requires-clause-may : goal.make_actor-requires-clause-may
make_actor-requires-clause-may g c κs within =
    let bosses = c.args.bosses.now.items in
    let long : length (map sight_in bosses) ≡ length (queues_in c.args.defs.now) = omega (arith, map_length sight_in bosses, c.requires.bosses, c.args.bosses.now.ok) in
    let rest = left_of (into_iter_items c.next.new.self) in
    next_may _ _ _ _ _ _ _ _ _ long c.actors.actors.items c.in-Some.ops.items c.in-Some.name _ rest c.actors.number _ _
    (ap left_of c.in-Some.ensures.steps.0) c.actors.invariant.cast

pub returns-in-Err-clause-kept : goal.returns-in-Err-clause-kept
returns-in-Err-clause-kept g c =
    kept_back
    (map (option_map (λ b. (goal.Target-dyn g (b.vtable, b.value)).seat b.value)) c.args.roster.now.slots)
    (map (option_map (λ b. (goal.Target-dyn g (b.vtable, b.value)).seat b.value)) c.actors.roster.slots)
    (map (option_map (λ b. (goal.Target-dyn g (b.vtable, b.value)).seat b.value)) c.make_actor.new.roster.slots)
    (map (option_map (λ b. (goal.Target-dyn g (b.vtable, b.value)).seat b.value)) c.give_back.new.roster.slots)
    (map (λ a. map (option_map (λ b. (goal.Target-dyn g (b.vtable, b.value)).seat b.value)) a.roster.slots) c.actors.actors.items)
    c.actors.invariant.cast.kept c.in-Err.ensures.kept c.give_back.ensures

pub actors-preserved : goal.actors-preserved
actors-preserved g c =
    let v = c.actors.invariant in
    let steps = c.in-Some.ensures.steps in
    let rest = left_of (into_iter_items c.next.new.self) in
    let first = c.args.bosses.now.items in
    let olds = c.actors.bosses.items in
    let news = c.make_actor.new.bosses.items in
    let made = c.in-Ok-make_actor.ensures in
    let pushed = c.push_reserved.ensures.items in
    let long : length (map sight_in first) ≡ length (queues_in c.args.defs.now) = omega (arith, map_length sight_in first, c.requires.bosses, c.args.bosses.now.ok) in
    record {
      cast = one_cast _ _ _ _ _ _ _ _ _ long _ c.actors.actors.items c.push_reserved.new.self.items c.in-Ok-make_actor.actor c.in-Some.ops.items c.in-Some.name _ rest c.actors.number _ _ _ _
          (ap left_of steps.0) (record { distinct = c.requires.phase.distinct; own = c.requires.phase.own }) pushed made.named.0 made.lines made.named.1 made.split made.targets made.roster v.cast;
      run = rw pushed (all_more c.actors.actors.items c.in-Ok-make_actor.actor
          (λ a. (length c.args.queues.now ≡ vec_len a.passes) × AllServe ServesAny c.args.queues.now a.passes.items
          × MayRun (queues_in c.args.defs.now) (map sight_in a.passes.items)
          (map (option_map (λ b. (goal.Target-dyn g (b.vtable, b.value)).seat b.value)) a.roster.slots)
          a.jobs.items (vec_capacity a.held) (vec_capacity a.log)
          × MayDrop (queues_in c.args.defs.now) (all_rows (map build_in c.args.queues.now)) (lines_of a.jobs.items) (vec_capacity a.drops)
          × (a.held.items ≡ []) × (a.log.items ≡ []) × (a.drops.items ≡ [])
          × (a.stopped.items ≡ replicate (length (queues_in c.args.defs.now)) false))
          v.run made.may);
      serve = made.serve;
      bosses = omega (arith, made.split.bosses, map_length sight_in olds, map_length sight_in news, v.bosses, c.actors.bosses.ok, c.make_actor.new.bosses.ok);
      left = omega (arith, v.left, steps.1, ap length steps.0);
      room = omega (arith, v.room, c.push_reserved.ensures.len, c.push_reserved.ensures.capacity, ap length steps.0);
    }

pub returns-clause-lines : goal.returns-clause-lines
returns-clause-lines g c =
    let bosses = c.args.bosses.now.items in
    let long : length (map sight_in bosses) ≡ length (queues_in c.args.defs.now) = omega (arith, map_length sight_in bosses, c.requires.bosses, c.args.bosses.now.ok) in
    let none : length (into_iter_items c.actors.name-iterator) ≡ 0 = omega (arith, c.in-None.ensures.steps.0, c.actors.invariant.left) in
    (all_cast _ _ _ _ _ _ _ _ _ long c.actors.actors.items c.actors.number _ _ _ (none_left (into_iter_items c.actors.name-iterator) none) c.actors.invariant.cast).0

pub returns-clause-bosses : goal.returns-clause-bosses
returns-clause-bosses g c =
    let bosses = c.args.bosses.now.items in
    let long : length (map sight_in bosses) ≡ length (queues_in c.args.defs.now) = omega (arith, map_length sight_in bosses, c.requires.bosses, c.args.bosses.now.ok) in
    let none : length (into_iter_items c.actors.name-iterator) ≡ 0 = omega (arith, c.in-None.ensures.steps.0, c.actors.invariant.left) in
    let many : vec_len c.actors.actors ≡ length c.actors.actors.items = omega (arith, c.actors.actors.ok) in
    rw many (all_cast _ _ _ _ _ _ _ _ _ long c.actors.actors.items c.actors.number _ _ _ (none_left (into_iter_items c.actors.name-iterator) none) c.actors.invariant.cast).1

pub returns-clause-roster : goal.returns-clause-roster
returns-clause-roster g c =
    let bosses = c.args.bosses.now.items in
    let long : length (map sight_in bosses) ≡ length (queues_in c.args.defs.now) = omega (arith, map_length sight_in bosses, c.requires.bosses, c.args.bosses.now.ok) in
    let none : length (into_iter_items c.actors.name-iterator) ≡ 0 = omega (arith, c.in-None.ensures.steps.0, c.actors.invariant.left) in
    (all_cast _ _ _ _ _ _ _ _ _ long c.actors.actors.items c.actors.number _ _ _ (none_left (into_iter_items c.actors.name-iterator) none) c.actors.invariant.cast).2
