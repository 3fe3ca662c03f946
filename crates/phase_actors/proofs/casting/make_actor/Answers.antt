use Rattle.std.proofs.Common.{◌≡◌, [], length, map, refl, subst, arith}
use Rattle.std.specs.Option.{option_map}
use Rattle.any_queue.specs.Kinds.{sight_in}
use Rattle.defs_read.specs.Defined.{queues_in}
use Rattle.workers_core.proofs.OneJob.{map_length}
use Rattle.phase_actors.specs.Passes.{AreSplit}
use Rattle.phase_actors.specs.Targets.{HasTargets}
use Rattle.phase_actors.proofs.Actors.{all_within}
use Rattle.phase_actors.proofs.Moving.{has_targets, unmade_back}
use Rattle.phase_actors.proofs.Parting.{all_may_part, may_put, passes_for}
use Rattle.phase_actors.proofs.casting.make_actor.Goals as goal

pub split_all-requires-clause-may : goal.split_all-requires-clause-may
split_all-requires-clause-may g c κs within =
    rw c.deref-2.ensures.value (all_may_part (queues_in c.args.defs.now) c.args.name c.args.ops.items [] c.args.number (map sight_in c.args.bosses.now.items) c.requires.number c.requires.may)

pub move_targets-requires-clause-numbers : goal.move_targets-requires-clause-numbers
move_targets-requires-clause-numbers g c =
    rw c.deref-3.ensures.value (all_within (queues_in c.args.defs.now) _ c.args.name c.args.ops.items c.requires.allowed c.requires.own)

pub make-requires-clause-passes : goal.make-requires-clause-passes
make-requires-clause-passes g c κs within =
    let defs = queues_in c.args.defs.now in
    let olds = map sight_in c.args.bosses.now.items in
    let news = map sight_in c.split_all.new.bosses.items in
    let passes = map sight_in c.in_ok-passes.passes.items in
    let as_many : length olds ≡ length defs = omega (arith, map_length sight_in c.args.bosses.now.items, c.requires.bosses, c.args.bosses.now.ok) in
    let split = subst (λ l. AreSplit defs c.args.name l olds news passes) c.deref-2.ensures.value c.in_ok-passes.ensures.split in
    passes_for defs c.args.name c.args.ops.items [] c.args.number olds news passes as_many split c.requires.may

pub make-requires-clause-rights : goal.make-requires-clause-rights
make-requires-clause-rights g c κs within =
    let defs = queues_in c.args.defs.now in
    let olds = map sight_in c.args.bosses.now.items in
    let news = map sight_in c.split_all.new.bosses.items in
    let passes = map sight_in c.in_ok-passes.passes.items in
    let as_many : length olds ≡ length defs = omega (arith, map_length sight_in c.args.bosses.now.items, c.requires.bosses, c.args.bosses.now.ok) in
    let split = subst (λ l. AreSplit defs c.args.name l olds news passes) c.deref-2.ensures.value c.in_ok-passes.ensures.split in
    may_put defs c.args.name c.args.ops.items [] c.args.number olds news passes as_many split c.requires.may

pub returns-in-Ok-clause-targets : goal.returns-in-Ok-clause-targets
returns-in-Ok-clause-targets g c =
    let given = map (option_map (λ b. (goal.Target-dyn g (b.vtable, b.value)).seat b.value)) c.args.roster.now.slots in
    let own = map (option_map (λ b. (goal.Target-dyn g (b.vtable, b.value)).seat b.value)) c.in-Ok.actor.roster.slots in
    subst (λ ops. HasTargets given ops own) c.deref-3.ensures.value (has_targets c.deref-3.result.now _ _ _ _ c.move_targets.ensures c.in-Ok.ensures.targets)

pub returns-in-Err-clause-kept : goal.returns-in-Err-clause-kept
returns-in-Err-clause-kept g c =
    unmade_back c.deref-3.result.now _ _ _ _ _ _ c.move_targets.ensures c.in-Err.ensures.unmade.1 refl c.return_targets.ensures
