use Rattle.std.proofs.Common.{◌≡◌, ◌+◌, [], ◌∷◌, ◌++◌, map, length, reverse, refl, ap, ◌∙◌, subst, arith}
use Rattle.std.specs.List.{AllByRecursion}
use Rattle.std.proofs.lemmas.List.{length_push}
use Rattle.defs_read.specs.Defined.{queues_in}
use Rattle.workers_core.specs.Drops.{all_left}
use Rattle.workers_core.specs.Jobs.{JobFits, gains}
use Rattle.workers_core.specs.Ready.{MayPutAll, ServesJob, all_gains}
use Rattle.workers_core.specs.declared.jobs.Job.{Job}
use Rattle.workers_core.proofs.OneJob.{map_length}
use Rattle.workers_core.proofs.Onward.{all_front, all_last, did_more, did_none, gains_last, numbers_more, ready_job, rights_job, rights_on, served_job, served_on, split_on, takes_job}
use Rattle.workers_core.proofs.Roomy.{room_job, room_rest}
use Rattle.workers_core.proofs.lines.run_jobs.Goals as goal

pub do_job-answer-requires-clause-rights : goal.do_job-answer-requires-clause-rights
do_job-answer-requires-clause-rights g c κs within = rights_job (map g.Q.SharedQueue.sight c.lines.passes.items) c.lines.jobs.items c.pop.new.self.items c.in-Some.job c.in-Some.ensures.items c.lines.invariant.rights

pub do_job-answer-requires-clause-ready : goal.do_job-answer-requires-clause-ready
do_job-answer-requires-clause-ready g c κs within = ready_job _ c.lines.jobs.items c.pop.new.self.items c.in-Some.job c.in-Some.ensures.items c.lines.invariant.ready

pub do_job-answer-requires-clause-served : goal.do_job-answer-requires-clause-served
do_job-answer-requires-clause-served g c κs within = served_job (map g.Q.SharedQueue.sight c.lines.passes.items) c.lines.jobs.items c.pop.new.self.items c.in-Some.job c.in-Some.ensures.items c.lines.invariant.served

pub do_job-answer-requires-clause-fits : goal.do_job-answer-requires-clause-fits
do_job-answer-requires-clause-fits g c κs within =
    let Fit : Job → Type 0 = λ (j : Job). JobFits (queues_in c.args.defs.now) j.op.what j.aid in
    all_last Fit c.pop.new.self.items c.in-Some.job (subst (AllByRecursion Fit) c.in-Some.ensures.items c.lines.invariant.fits)

pub do_job-answer-requires-clause-drops : goal.do_job-answer-requires-clause-drops
do_job-answer-requires-clause-drops g c κs within =
    room_job (queues_in c.args.defs.now) _ _ _ c.lines.jobs.items c.pop.new.self.items c.in-Some.job c.in-Some.ensures.items c.lines.invariant.drops

pub lines-init : goal.lines-init
lines-init g c = record {
  as_many = c.requires.as_many;
  serve = c.requires.serve;
  holds = c.requires.holds;
  done = [];
  split = refl;
  served = c.requires.served;
  fits = c.requires.fits;
  rights = c.requires.rights;
  ready = c.requires.ready;
  room = c.requires.room;
  stopped = c.requires.stopped;
  drops = c.requires.drops;
  log = omega (arith, c.requires.log.1, c.args.log.now.ok.0, ap length c.requires.log.0);
  numbers = ap (λ es. map (λ e. e.0) es) c.requires.log.0;
  did = did_none (queues_in c.args.defs.now) (map g.Q.SharedQueue.build c.args.queues.now) (map g.Q.SharedQueue.sight c.args.passes.now.items) _ c.args.log.now.items c.requires.log.0;
}

pub lines-preserved : goal.lines-preserved
lines-preserved g c =
    let i = c.lines.invariant in
    let sight = g.Q.SharedQueue.sight in
    let defs = queues_in c.args.defs.now in
    let builds = map g.Q.SharedQueue.build c.args.queues.now in
    let left = c.pop.new.self.items in
    let job : Job = c.in-Some.job in
    let items = c.in-Some.ensures.items in
    let sights = map sight c.lines.passes.items in
    let news = map sight c.do_job-answer.new.passes.items in
    let fits : AllByRecursion (λ (j : Job). JobFits defs j.op.what j.aid) (left ++ job ∷ []) = subst (AllByRecursion (λ (j : Job). JobFits defs j.op.what j.aid)) items i.fits in
    let spends = c.do_job-answer.ensures.spends in
    let did = c.do_job-answer.ensures.did in
    let gain : all_gains c.lines.jobs.items ≡ all_gains left + gains job.op.what = ap all_gains items ∙ gains_last left job in
    let fewer : length c.lines.jobs.items ≡ length left + 1 = ap length items ∙ length_push left job in
    record {
      as_many = omega (arith, i.as_many, spends.as_many, map_length sight c.do_job-answer.new.passes.items, map_length sight c.lines.passes.items, c.do_job-answer.new.passes.ok.0, c.lines.passes.ok.0);
      serve = c.do_job-answer.ensures.serve;
      holds = c.do_job-answer.ensures.holds;
      done = i.done ++ job ∷ [];
      split = split_on (reverse c.args.jobs.items) left i.done c.lines.jobs.items job i.split items;
      served = served_on sights news left job spends (subst (AllByRecursion (ServesJob sights)) items i.served);
      fits = all_front (λ (j : Job). JobFits defs j.op.what j.aid) left job fits;
      rights = rights_on sights news left job spends (subst (MayPutAll sights) items i.rights);
      ready = takes_job defs builds sights news _ _ c.lines.jobs.items left job c.do_job-answer.result items did i.ready;
      room = omega (arith, i.room, c.do_job-answer.ensures.room.0, c.do_job-answer.ensures.room.1, gain);
      stopped = c.do_job-answer.ensures.stopped ∙ i.stopped;
      drops = room_rest defs (all_left builds sights) (all_left builds news) _ _ _ _ c.lines.jobs.items left job items c.do_job-answer.ensures.drops c.do_job-answer.ensures.left c.do_job-answer.ensures.few i.drops;
      log = omega (arith, i.log, c.push_reserved.ensures.len, c.push_reserved.ensures.capacity, fewer, c.pop.new.self.ok.0, c.lines.jobs.ok.0);
      numbers = numbers_more i.done job c.lines.log.items c.push_reserved.new.self.items c.do_job-answer.result c.push_reserved.ensures.items i.numbers;
      did = did_more defs builds (map sight c.args.passes.now.items) sights news _ _ _ i.done job c.lines.log.items c.push_reserved.new.self.items c.do_job-answer.result c.push_reserved.ensures.items i.did did;
    }
