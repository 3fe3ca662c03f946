use Rattle.std.proofs.Common.{◌≡◌, ◌+◌, ◌<◌, ℕ, Some, drop, get_or, length, map, slice_get, vec_len, sym, ap, ◌∙◌, subst, arith}
use Rattle.std.specs.Option.{option_map}
use Rattle.std.proofs.lemmas.List.{length-map, take_at}
use Rattle.std.proofs.lemmas.Option.{get_or_from_slice_get, slice_get-get_or, slice_get_within}
use Rattle.defs_read.specs.Defined.{queues_in}
use Rattle.any_queue.specs.Kinds.{ServesAny, build_in, sight_in}
use Rattle.workers_core.specs.Phases.{lines_of}
use Rattle.workers_core.specs.Ready.{AllServe}
use Rattle.account_core.proofs.Telling.{log_told}
use Rattle.phase_core.specs.Joining.{AreOfCaller}
use Rattle.phase_core.proofs.Tales.{after_run, played_of}
use Rattle.phase_core.proofs.phases.play_actors.Goals as goal

pub join_actors-requires-clause-serves : goal.join_actors-requires-clause-serves
join_actors-requires-clause-serves g c κs within = λ i a at.
    let ran = c.run_phase.new.actors in
    let all = c.args.actors.items in
    let many : length ran ≡ c.args.actors.len = omega (arith, c.run_phase.auto.actors, c.deref_mut.ensures.len, c.args.actors.ok.0) in
    let at_ran : slice_get ran i ≡ Some a = ap (λ zs. slice_get zs i) (sym (take_at ran (drop (length ran) all) c.args.actors.len many)) ∙ at in
    let runs = rw c.deref_mut.ensures.value at c.run_phase.ensures.ran in
    let within = slice_get_within ran i a at_ran in
    let less : i < length all = omega (arith, within, many, c.args.actors.ok.0) in
    subst (λ z. AllServe ServesAny c.args.queues.now z.passes.items) (get_or_from_slice_get ran i a a at_ran) (runs i a less).0

pub join_actors-requires-clause-passes : goal.join_actors-requires-clause-passes
join_actors-requires-clause-passes g c κs within = λ i a at.
    let ran = c.run_phase.new.actors in
    let all = c.args.actors.items in
    let bosses = map sight_in c.args.bosses.now.items in
    let many : length ran ≡ c.args.actors.len = omega (arith, c.run_phase.auto.actors, c.deref_mut.ensures.len, c.args.actors.ok.0) in
    let at_ran : slice_get ran i ≡ Some a = ap (λ zs. slice_get zs i) (sym (take_at ran (drop (length ran) all) c.args.actors.len many)) ∙ at in
    let runs = rw c.deref_mut.ensures.value at c.run_phase.ensures.ran in
    let within = slice_get_within ran i a at_ran in
    let less : i < length all = omega (arith, within, many, c.args.actors.ok.0) in
    let long : length (map build_in c.args.queues.now) ≡ length bosses = length-map c.args.queues.now build_in ∙ (omega (arith, c.requires.as_many, c.args.bosses.now.ok.0)) ∙ sym (length-map c.args.bosses.now.items sight_in) in
    let of = after_run (queues_in c.args.defs.now) (map build_in c.args.queues.now) bosses _ _ (i + 1) _ _ _ _ _ long
    (c.requires.unused i (get_or all i a) (slice_get-get_or all i a less)) (runs i a less).1 in
    subst (λ z. AreOfCaller bosses (i + 1) (map sight_in z.passes.items)) (get_or_from_slice_get ran i a a at_ran) of

pub returns-clause-played : goal.returns-clause-played
returns-clause-played g c =
    let ran = c.run_phase.new.actors in
    let all = c.args.actors.items in
    let bosses = map sight_in c.args.bosses.now.items in
    let many : length ran ≡ c.args.actors.len = omega (arith, c.run_phase.auto.actors, c.deref_mut.ensures.len, c.args.actors.ok.0) in
    let whole = take_at ran (drop (length ran) all) c.args.actors.len many in
    let named = rw c.deref_mut.ensures.value at c.run_phase.ensures.named in
    let runs = rw c.deref_mut.ensures.value at c.run_phase.ensures.ran in
    let long : length ran ≡ length all = omega (arith, many, c.args.actors.ok.0) in
    let count : vec_len c.args.actors ≡ length ran = omega (arith, many) in
    let joined = rw whole at c.join_actors.ensures.joined in
    let targets = rw whole at c.join_actors.ensures.targets in
    let names = rw whole at c.join_actors.ensures.names in
    let lines = rw whole at c.join_actors.ensures.logs in
    let dropped = rw whole at c.join_actors.ensures.drops in
    played_of all ran (λ a. a.name) (λ a. lines_of a.jobs.items) (λ a. a.log.items) (λ a. a.drops.items) (λ a. map sight_in a.passes.items)
    (λ a. map (option_map (λ b. (goal.Target-dyn g (b.vtable, b.value)).seat b.value)) a.roster.slots)
    (queues_in c.args.defs.now) (map build_in c.args.queues.now) bosses (map sight_in c.join_actors.new.bosses.items) _ _ c.join_actors.new.logs.items
    log_told long
    (λ i d less. (named i d less, (runs i d less).1))
    c.requires.unused
    (λ q s at. (c.requires.bosses q s at).made ∙ ap (λ (n : ℕ). n + 1) count)
    joined targets names lines dropped
