use Rattle.any_queue.specs.Kinds.{ServesAny}
use Rattle.any_queue.proofs.shared_tests.left.Given as goal

abbrev pub invariant-loop : goal.invariant-loop
invariant-loop g l = record { serves : ServesAny l.queue l.pass }
