use Rattle.std.proofs.Common.{◌≡◌, ◌≤◌, ◌+◌, List, ◌++◌, map, length, reverse, vec_len, vec_capacity}
use Rattle.std.specs.List.{AllByRecursion}
use Rattle.std.specs.Option.{option_map}
use Rattle.defs_read.specs.Defined.{queues_in}
use Rattle.workers_core.specs.Drops.{HasRoom, all_drops, all_left}
use Rattle.workers_core.specs.Held.{hands_of}
use Rattle.workers_core.specs.Jobs.{JobFits}
use Rattle.workers_core.specs.Phases.{lines_of}
use Rattle.workers_core.specs.Ready.{AllServe, Holds, MayPutAll, MayTakeAll, ServesJob, all_gains}
use Rattle.line_core.specs.Runs.{DidLines}
use Rattle.workers_core.specs.declared.jobs.Job.{Job}
use Rattle.workers_core.proofs.lines.run_jobs.Given as goal

-- some lines were done, and the others stand in the list with the next one last
abbrev pub invariant-lines : goal.invariant-lines
invariant-lines g l = record {
  as_many : length l.queues ≡ vec_len l.passes;
  serve : AllServe g.Q.SharedQueue.serves l.queues l.passes.items;
  holds : Holds (map g.Q.SharedQueue.sight l.passes.items) (hands_of l.held.items);
  done : List Job;
  split : reverse l.fn.jobs.items ≡ done ++ reverse l.jobs.items;
  served : AllByRecursion (ServesJob (map g.Q.SharedQueue.sight l.passes.items)) l.jobs.items;
  fits : AllByRecursion (λ j. JobFits (queues_in l.defs) j.op.what j.aid) l.jobs.items;
  rights : MayPutAll (map g.Q.SharedQueue.sight l.passes.items) l.jobs.items;
  ready : MayTakeAll (map (option_map (λ b. (goal.Target-dyn g (b.vtable, b.value)).seat b.value)) l.roster.slots) l.jobs.items;
  room : vec_len l.held + all_gains l.jobs.items ≤ vec_capacity l.held;
  stopped : vec_len l.stopped ≡ length (queues_in l.defs);
  drops : HasRoom (all_drops (queues_in l.defs) (all_left (map g.Q.SharedQueue.build l.queues) (map g.Q.SharedQueue.sight l.passes.items)) (lines_of l.jobs.items)) (vec_len l.drops) (vec_capacity l.drops);
  log : vec_len l.log + vec_len l.jobs ≤ vec_capacity l.log;
  numbers : map (λ e. e.0) l.log.items ≡ map (λ j. j.op.line) done;
  did : DidLines (queues_in l.defs) (map g.Q.SharedQueue.build l.queues) (map g.Q.SharedQueue.sight l.fn.passes.items)
      (record { hands = hands_of l.fn.held.items; seats = map (option_map (λ b. (goal.Target-dyn g (b.vtable, b.value)).seat b.value)) l.fn.roster.slots; stopped = l.fn.stopped.items; drops = l.fn.drops.items })
      (map (λ j. j.op) done) (map (λ e. e.1) l.log.items) (map g.Q.SharedQueue.sight l.passes.items)
      (record { hands = hands_of l.held.items; seats = map (option_map (λ b. (goal.Target-dyn g (b.vtable, b.value)).seat b.value)) l.roster.slots; stopped = l.stopped.items; drops = l.drops.items });
}

abbrev pub decreases-lines : goal.decreases-lines
decreases-lines g l = vec_len l.jobs
