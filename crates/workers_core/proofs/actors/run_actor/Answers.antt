use Rattle.std.proofs.Common.{◌≡◌, List, map, length, ap, sym, subst, arith, vec_len, vec_capacity}
use Rattle.defs_read.specs.Defined.{queues_in}
use Rattle.script_read.specs.declared.lines.Op.{Op}
use Rattle.workers_core.specs.Drops.{HasRoom, all_drops, all_left}
use Rattle.workers_core.specs.Held.{hands_of}
use Rattle.workers_core.specs.Phases.{lines_of}
use Rattle.workers_core.proofs.Onward.{has_run}
use Rattle.workers_core.proofs.Roomy.{room_left}
use Rattle.workers_core.proofs.actors.run_actor.Goals as goal

pub returns-clause-ran : goal.returns-clause-ran
returns-clause-ran g c =
    let sight = g.Q.SharedQueue.sight in
    has_run (queues_in c.args.defs.now) (map g.Q.SharedQueue.build c.args.queues.now) (map sight c.args.actor.now.passes.items) (map sight c.run_jobs.new.passes.items) (map sight c.leave_all.new.passes.items) c.args.actor.now.jobs.items c.replace-jobs.result.items c.args.actor.now.held.items _ _ c.args.actor.now.stopped.items c.run_jobs.new.stopped.items c.args.actor.now.drops.items c.run_jobs.new.drops.items (hands_of c.run_jobs.new.held.items) c.run_jobs.new.log.items
    (ap (λ v. v.items) c.replace-jobs.ensures.value) c.requires.fresh.0 c.requires.fresh.3 c.requires.fresh.2 c.run_jobs.ensures.numbers c.run_jobs.ensures.did c.leave_all.ensures.ran

pub run_jobs-requires-clause-drops : goal.run_jobs-requires-clause-drops
run_jobs-requires-clause-drops g c κs within =
    let defs = queues_in c.args.defs.now in
    let builds = map g.Q.SharedQueue.build c.args.queues.now in
    let sights = map g.Q.SharedQueue.sight c.args.actor.now.passes.items in
    let same : lines_of c.args.actor.now.jobs.items ≡ lines_of c.replace-jobs.result.items = sym (ap (λ v. lines_of v.items) c.replace-jobs.ensures.value) in
    let none : vec_len c.args.actor.now.drops ≡ 0 = omega (arith, ap length c.requires.fresh.2, c.args.actor.now.drops.ok.0) in
    subst (λ (ops : List Op). HasRoom (all_drops defs (all_left builds sights) ops) (vec_len c.args.actor.now.drops) (vec_capacity c.args.actor.now.drops)) same
    (room_left defs builds sights (vec_len c.args.actor.now.drops) (vec_capacity c.args.actor.now.drops) (lines_of c.args.actor.now.jobs.items) none c.requires.drops)
