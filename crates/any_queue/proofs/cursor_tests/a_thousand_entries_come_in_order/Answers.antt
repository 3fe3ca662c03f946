use Rattle.any_queue.proofs.Sharing.{has_zero}
use Rattle.any_queue.proofs.cursor_tests.a_thousand_entries_come_in_order.Goals as goal

pub put_entries-requires-clause-consumer : goal.put_entries-requires-clause-consumer
put_entries-requires-clause-consumer g c κs = has_zero _ _ _ _ _ _ _ _ c.in_ok-queue.ensures.fresh c.in_ok-def.ensures.1
