use Rattle.std.proofs.Common.{◌<◌, length, slice_set, sym, ap, ◌∙◌, subst, arith}
use Rattle.std.specs.Option.{option_map}
use Rattle.std.proofs.lemmas.Option.{same_Some, slice_get-map}
use Rattle.acts_core.specs.Sight.{Sight}
use Rattle.any_queue.specs.Kinds.{ServesAny, sight_in}
use Rattle.any_queue.specs.Parting.{IsJoined}
use Rattle.workers_core.proofs.OneJob.{map_at, read_at}
use Rattle.workers_core.proofs.Ones.{serve_after, set_here, set_other}
use Rattle.phase_core.proofs.joining.join_pass.Goals as goal

pub join-requires-clause-history : goal.join-requires-clause-history
join-requires-clause-history g c κs within =
    let bosses = c.args.bosses.now.items in
    let within : c.args.number < length bosses = omega (arith, c.requires.within, c.requires.as_many, c.args.bosses.now.ok.0) in
    let boss_at = read_at bosses c.args.number c.index_mut-boss.result.now within c.index_mut-boss.ensures.value in
    c.requires.opening (sight_in c.index_mut-boss.result.now) (map_at sight_in bosses c.args.number c.index_mut-boss.result.now boss_at)

pub returns-clause-serve : goal.returns-clause-serve
returns-clause-serve g c =
    let bosses = c.args.bosses.now.items in
    let within : c.args.number < length bosses = omega (arith, c.requires.within, c.requires.as_many, c.args.bosses.now.ok.0) in
    let boss_at = read_at bosses c.args.number c.index_mut-boss.result.now within c.index_mut-boss.ensures.value in
    let queue_at = read_at c.args.queues.now c.args.number c.index-queues-number.result c.requires.within c.index-queues-number.is in
    serve_after ServesAny c.args.queues.now bosses c.args.number c.index-queues-number.result c.index_mut-boss.result.now c.join.new.into c.requires.serve queue_at boss_at c.join.ensures.serves

pub returns-clause-joined : goal.returns-clause-joined
returns-clause-joined g c = λ s t at_s at_t.
    let bosses = c.args.bosses.now.items in
    let within : c.args.number < length bosses = omega (arith, c.requires.within, c.requires.as_many, c.args.bosses.now.ok.0) in
    let boss_at = read_at bosses c.args.number c.index_mut-boss.result.now within c.index_mut-boss.ensures.value in
    let was = same_Some (sight_in c.index_mut-boss.result.now) s (sym (map_at sight_in bosses c.args.number c.index_mut-boss.result.now boss_at) ∙ at_s) in
    let now = same_Some (sight_in c.join.new.into) t (sym (map_at sight_in (slice_set bosses c.args.number c.join.new.into) c.args.number c.join.new.into (set_here bosses c.args.number c.join.new.into c.index_mut-boss.result.now boss_at)) ∙ at_t) in
    subst (λ (z : Sight). IsJoined z (sight_in c.args.pass) t) was (subst (IsJoined (sight_in c.index_mut-boss.result.now) (sight_in c.args.pass)) now c.join.ensures.joined)

pub returns-clause-others : goal.returns-clause-others
returns-clause-others g c = λ q apart.
    let bosses = c.args.bosses.now.items in
    slice_get-map sight_in (slice_set bosses c.args.number c.join.new.into) q
    ∙ ap (option_map sight_in) (set_other bosses c.args.number q c.join.new.into apart)
    ∙ sym (slice_get-map sight_in bosses q)
