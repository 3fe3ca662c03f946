use Rattle.any_queue.proofs.Parting.{has_only}
use Rattle.any_queue.proofs.tests.entries_of_three_lists_come_by_list.Goals as goal

pub taken-requires-clause-consumer : goal.taken-requires-clause-consumer
taken-requires-clause-consumer g c κs = has_only _ _ _ _ _ _ _ _ c.in_ok-queue.ensures.fresh c.in_ok-def.ensures.1
