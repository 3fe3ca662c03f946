use Rattle.std.proofs.Common.{arith}
use Rattle.workers_core.proofs.Served.{gain_within, gains_more}
use Rattle.workers_core.proofs.making.all_gains.Goals as goal

pub overflow_add-all : goal.overflow_add-all
overflow_add-all c = let one = gain_within c.gains-all.result c.job-item.result.op.what c.gains-all.ensures in omega (arith, one)

pub lines-preserved : goal.lines-preserved
lines-preserved c =
    let one = gain_within c.gains-all.result c.job-item.result.op.what c.gains-all.ensures in
    record {
      sum = gains_more c.args.jobs.now c.lines.job-index c.job-item.result c.lines.all c.gains-all.result c.job-item.is c.lines-test.true c.lines.invariant.sum c.gains-all.ensures;
      few = omega (arith, one, c.lines.invariant.few);
    }
