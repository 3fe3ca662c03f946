use Rattle.std.proofs.Common.{◌≡◌, ◌≤◌, ◌+◌, List, ◌++◌, vec_len, vec_capacity}
use Rattle.std.specs.List.{AllByRecursion}
use Rattle.acts_core.specs.Sight.{Sight}
use Rattle.defs_read.specs.Defined.{queues_in}
use Rattle.workers_core.specs.Jobs.{JobFits}
use Rattle.workers_core.specs.Made.{ArePassesFor}
use Rattle.workers_core.specs.Phases.{lines_of}
use Rattle.workers_core.specs.Ready.{ServesJob}
use Rattle.workers_core.proofs.making.jobs_of.Given as goal

-- the last lines stand in the list
abbrev pub invariant-lines : goal.invariant-lines
invariant-lines l = record {
  split : l.fn.ops.items ≡ l.ops.items ++ lines_of l.jobs.items;
  fits : AllByRecursion (λ j. JobFits (queues_in l.defs) j.op.what j.aid) l.jobs.items;
  serves : (sights : List Sight) → AllByRecursion (λ op. ArePassesFor op.actor (queues_in l.defs) sights) l.fn.ops.items → AllByRecursion (ServesJob sights) l.jobs.items;
  room : vec_len l.ops + vec_len l.jobs ≤ vec_capacity l.jobs;
}

abbrev pub decreases-lines : goal.decreases-lines
decreases-lines l = vec_len l.ops
