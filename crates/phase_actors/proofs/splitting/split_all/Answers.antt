use Rattle.std.proofs.Common.{◌≡◌, ◌<◌, ◌∷◌, [], ◌++◌, length, map, slice_get, slice_set, sym, ap, ◌∙◌, subst, arith}
use Rattle.any_queue.specs.Kinds.{ServesAny, sight_in}
use Rattle.defs_read.specs.Defined.{defined, queues_in}
use Rattle.workers_core.specs.Ready.{AllServe}
use Rattle.workers_core.proofs.OneJob.{map_at, map_length, map_set, read_at}
use Rattle.workers_core.proofs.Ones.{serve_after}
use Rattle.phase_actors.proofs.Lists.{map_push}
use Rattle.phase_actors.proofs.Splits.{Splitting, def_at, few_consumers, one_split, serve_more}
use Rattle.phase_actors.proofs.splitting.split_all.Goals as goal

pub split_one-requires-clause-few : goal.split_one-requires-clause-few
split_one-requires-clause-few g c κs within =
    let i = c.queues.number in
    let defs = c.args.defs.now.queues.items in
    let def = c.index-def.result.now in
    let low : i < length defs = omega (arith, c.queues-test.true, c.requires.queues, map_length defined defs) in
    omega (arith, few_consumers defs i def c.requires.allowed (read_at defs i def low c.index-def.ensures), def.consumers.ok)

pub split_one-requires-clause-serves : goal.split_one-requires-clause-serves
split_one-requires-clause-serves g c κs within =
    let i = c.queues.number in
    let bosses = c.queues.bosses.items in
    let queue_at = read_at c.args.queues.now i c.index-queues-number.result c.queues-test.true c.index-queues-number.is in
    let low : i < length bosses = omega (arith, c.queues-test.true, c.queues.invariant.bosses, c.queues.bosses.ok) in
    let boss_at = read_at bosses i c.index_mut-boss.result.now low c.index_mut-boss.ensures.value in
    c.queues.invariant.serve i c.index-queues-number.result c.index_mut-boss.result.now queue_at boss_at

pub split_one-requires-clause-may : goal.split_one-requires-clause-may
split_one-requires-clause-may g c κs within =
    let i = c.queues.number in
    let bosses = c.queues.bosses.items in
    let defs = c.args.defs.now.queues.items in
    let def = c.index-def.result.now in
    let low : i < length bosses = omega (arith, c.queues-test.true, c.queues.invariant.bosses, c.queues.bosses.ok) in
    let boss_at = read_at bosses i c.index_mut-boss.result.now low c.index_mut-boss.ensures.value in
    let within : i < length defs = omega (arith, c.queues-test.true, c.requires.queues, map_length defined defs) in
    let def_there = def_at defs i def (read_at defs i def within c.index-def.ensures) in
    let many : length (map sight_in c.queues.passes.items) ≡ i = omega (arith, map_length sight_in c.queues.passes.items, c.queues.invariant.many, c.queues.passes.ok) in
    let old = c.queues.invariant.split.still i (omega (arith, many)) in
    c.requires.may i _ (sight_in c.index_mut-boss.result.now) def_there (sym old ∙ map_at sight_in bosses i c.index_mut-boss.result.now boss_at)

pub queues-preserved : goal.queues-preserved
queues-preserved g c =
    let i = c.queues.number in
    let v = c.queues.invariant in
    let bosses = c.queues.bosses.items in
    let passes = c.queues.passes.items in
    let queue = c.index-queues-number.result in
    let boss = c.index_mut-boss.result.now in
    let defs = c.args.defs.now.queues.items in
    let def = c.index-def.result.now in
    let queue_at = read_at c.args.queues.now i queue c.queues-test.true c.index-queues-number.is in
    let low : i < length bosses = omega (arith, c.queues-test.true, v.bosses, c.queues.bosses.ok) in
    let boss_at = read_at bosses i boss low c.index_mut-boss.ensures.value in
    let within : i < length defs = omega (arith, c.queues-test.true, c.requires.queues, map_length defined defs) in
    let def_there = def_at defs i def (read_at defs i def within c.index-def.ensures) in
    let long : length passes ≡ i = omega (arith, v.many, c.queues.passes.ok) in
    let many : length (map sight_in passes) ≡ i = map_length sight_in passes ∙ long in
    let pass = c.in_ok-pass.pass in
    let pushed : c.push_reserved.new.self.items ≡ passes ++ pass ∷ [] = c.push_reserved.ensures.items in
    record {
      many = omega (arith, c.push_reserved.ensures.len, v.many);
      bosses = v.bosses;
      room = omega (arith, c.push_reserved.ensures.capacity, v.room);
      serve = serve_after ServesAny c.args.queues.now bosses i queue boss c.split_one.new.boss v.serve queue_at boss_at c.in_ok-pass.ensures.serves.0;
      serves = subst (AllServe ServesAny c.args.queues.now) (sym pushed) (serve_more ServesAny c.args.queues.now passes queue pass v.serves (ap (slice_get c.args.queues.now) long ∙ queue_at) c.in_ok-pass.ensures.serves.1);
      split = rw (map_push sight_in passes c.push_reserved.new.self.items pass pushed, map_set sight_in bosses i c.split_one.new.boss)
          (subst (λ k. Splitting (queues_in c.args.defs.now) c.args.name.now c.args.ops.now (map sight_in c.args.bosses.now.items) (slice_set (map sight_in bosses) k (sight_in c.split_one.new.boss)) (map sight_in passes ++ sight_in pass ∷ [])) many
          (one_split (queues_in c.args.defs.now) c.args.name.now c.args.ops.now (map sight_in c.args.bosses.now.items) (map sight_in bosses) (map sight_in passes) (defined def) (sight_in boss) (sight_in c.split_one.new.boss) (sight_in pass)
          (ap (slice_get (queues_in c.args.defs.now)) many ∙ def_there)
          (ap (slice_get (map sight_in bosses)) many ∙ map_at sight_in bosses i boss boss_at)
          (rw many c.in_ok-pass.ensures.split)
          v.split));
    }
