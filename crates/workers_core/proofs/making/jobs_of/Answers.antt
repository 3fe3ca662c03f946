use Rattle.std.proofs.Common.{◌≡◌, List, [], ◌∷◌, ◌++◌, sym, ap, ◌∙◌, subst, append_assoc, length, arith}
use Rattle.std.specs.List.{AllByRecursion}
use Rattle.std.proofs.lemmas.List.{length_push}
use Rattle.defs_read.specs.Defined.{queues_in}
use Rattle.script_read.specs.declared.lines.Op.{Op}
use Rattle.workers_core.specs.Jobs.{JobFits}
use Rattle.workers_core.specs.Made.{ArePassesFor, IsOwnLine}
use Rattle.workers_core.specs.Phases.{lines_of}
use Rattle.workers_core.specs.Ready.{ServesJob}
use Rattle.workers_core.specs.declared.jobs.Job.{Job}
use Rattle.workers_core.proofs.Served.{all_join, all_left, lines_more}
use Rattle.workers_core.proofs.Onward.{all_last}
use Rattle.workers_core.proofs.making.jobs_of.Goals as goal

-- what holds of each line holds of the next one
next : (P : Op → Type 0) (all ops left : List Op) (jobs : List Job) (op : Op) → all ≡ ops ++ lines_of jobs → ops ≡ left ++ op ∷ [] → AllByRecursion P all → P op
next P all ops left jobs op split last each = all_last P left op (subst (AllByRecursion P) last (all_left P ops (lines_of jobs) (subst (AllByRecursion P) split each)))

pub aid_of-requires-clause-own : goal.aid_of-requires-clause-own
aid_of-requires-clause-own c = next (IsOwnLine (queues_in c.args.defs.now)) c.args.ops.items c.lines.ops.items c.pop.new.self.items c.lines.jobs.items c.in-Some.op c.lines.invariant.split c.in-Some.ensures.items c.requires.own

pub lines-preserved : goal.lines-preserved
lines-preserved c =
    let i = c.lines.invariant in
    let defs = queues_in c.args.defs.now in
    let left = c.pop.new.self.items in
    let op : Op = c.in-Some.op in
    let jobs = c.lines.jobs.items in
    let job : Job = record { op = op; aid = c.in_ok-aid.aid } in
    let more = c.push_reserved.ensures.items in
    let Fit : Job → Type 0 = λ j. JobFits defs j.op.what j.aid in
    record {
      split = i.split ∙ ap (λ ops. ops ++ lines_of jobs) c.in-Some.ensures.items ∙ append_assoc left (op ∷ []) (lines_of jobs) ∙ ap (λ ops. left ++ ops) (sym (ap lines_of more ∙ lines_more jobs job));
      fits = subst (AllByRecursion Fit) (sym more) (all_join Fit jobs (job ∷ []) i.fits (c.in_ok-aid.ensures.fits, tt));
      serves = λ sights each.
          let own = next (λ (o : Op). ArePassesFor o.actor defs sights) c.args.ops.items c.lines.ops.items left jobs op i.split c.in-Some.ensures.items each in
          subst (AllByRecursion (ServesJob sights)) (sym more) (all_join (ServesJob sights) jobs (job ∷ []) (i.serves sights each) (c.in_ok-aid.ensures.serves sights own, tt));
      room = omega (arith, i.room, c.push_reserved.ensures.len, c.push_reserved.ensures.capacity, length_push left op, ap length c.in-Some.ensures.items, c.pop.new.self.ok.0, c.lines.ops.ok.0, c.lines.jobs.ok.0);
    }
