use Rattle.broker_top.proofs.Tallying.{logs_count_on, logs_room_on}
use Rattle.broker_top.proofs.tally.add_logs.Goals as goal

pub logs-preserved : goal.logs-preserved
logs-preserved c =
    let is = rw c.deref.ensures.value at c.add_lines.ensures in
    record {
      counts = logs_count_on _ _ _ _ _ c.log-item.result c.logs-test.true c.log-item.is is c.logs.invariant.counts;
      room = logs_room_on c.args.tally.now _ _ _ _ c.log-item.result c.logs-test.true c.log-item.is is c.logs.invariant.room;
    }
