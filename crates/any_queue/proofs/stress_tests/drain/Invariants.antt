use Rattle.any_queue.specs.Kinds.{ServesAny}
use Rattle.any_queue.proofs.stress_tests.drain.Given as goal

abbrev pub invariant-loop-id : goal.invariant-loop-id
invariant-loop-id g l = record { serves : ServesAny l.queue l.pass }
