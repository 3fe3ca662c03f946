use Rattle.std.proofs.Common.{◌<◌, ◌≤◌, ◌+◌, ℕ, List, take, sym, subst, arith}
use Rattle.std.specs.Prelude.{get_or}
use Rattle.workers_core.proofs.Counting.{Counts, counts_none, counts_other, counts_take, count_within, no_take, take_within}
use Rattle.workers_core.proofs.making.all_takes.Goals as goal
use Rattle.workers_core.proofs.making.all_takes.Goals.{in-Take, in_default}

pub lines-init : goal.lines-init
lines-init c = counts_none

pub overflow_add-takes : goal.overflow_add-takes
overflow_add-takes c =
    let below : c.in-Take.consumer < 64 = take_within c.args.jobs.now c.lines.job-index c.job-item.result c.in-Take.consumer c.job-item.is c.lines-test.true c.requires c.in-Take.is in
    let few : get_or c.lines.takes c.in-Take.consumer 0 ≤ c.lines.job-index = count_within c.lines.takes c.args.jobs.now c.lines.job-index c.in-Take.consumer c.lines-test.true c.lines.invariant below in
    omega (arith, few)

pub lines-preserved : goal.lines-preserved
lines-preserved c = elim c.match-job.branch [
  | in-Take w ↦
      let below : w.in-Take.consumer < 64 = take_within c.args.jobs.now c.lines.job-index c.job-item.result w.in-Take.consumer c.job-item.is c.lines-test.true c.requires w.in-Take.is in
      counts_take c.lines.takes c.args.jobs.now c.lines.job-index c.job-item.result c.job-item.is c.lines-test.true c.lines.invariant w.in-Take.consumer c.match-job.takes below w.in-Take.is w.takes-is
  | in_default w ↦ subst (λ (ts : List ℕ). Counts ts (take (c.lines.job-index + 1) c.args.jobs.now)) (sym w.takes-is) (counts_other c.lines.takes c.args.jobs.now c.lines.job-index c.job-item.result c.job-item.is c.lines-test.true c.lines.invariant (no_take c.job-item.result.op.what w.in_default.not-Take))
]
