use Rattle.any_queue.proofs.Sharing.{fresh_last}
use Rattle.any_queue.proofs.kinds_tests.a_sorted_queue_leaves_by_key.Goals as goal

pub close-requires-clause-last : goal.close-requires-clause-last
close-requires-clause-last g c κs = fresh_last _ _ _ _ _ _ _ _ c.in_ok-queue.ensures.fresh
