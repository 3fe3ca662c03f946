use Rattle.std.proofs.Common.{◌∙◌}
use Rattle.broker_top.proofs.Tallying.{entries_low, entries_on}
use Rattle.broker_top.proofs.tally.entries_in.Goals as goal

pub queues-preserved : goal.queues-preserved
queues-preserved c =
    let many = c.len.ensures ∙ c.queue-item.result.ok.0 in
    record {
      sum = entries_on _ _ _ _ c.queue-item.result c.queues-test.true c.queue-item.is many c.queues.invariant.sum;
      low = entries_low _ _ _ _ c.queue-item.result c.queues-test.true c.queue-item.is many c.requires.few c.queues.invariant.low;
    }
