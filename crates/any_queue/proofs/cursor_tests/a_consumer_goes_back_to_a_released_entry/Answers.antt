use Rattle.any_queue.proofs.Sharing.{has_zero}
use Rattle.any_queue.proofs.cursor_tests.a_consumer_goes_back_to_a_released_entry.Goals as goal

pub acquire_and_release-requires-clause-consumer : goal.acquire_and_release-requires-clause-consumer
acquire_and_release-requires-clause-consumer g c κs = has_zero _ _ _ _ _ _ _ _ c.in_ok-queue.ensures.fresh c.in_ok-def.ensures.1
