use Rattle.std.proofs.Common.{◌≡◌}
use Rattle.any_queue.specs.Kinds.{sight_in, ServesAny}
use Rattle.any_queue.proofs.stress_tests.work.Given as goal

abbrev pub invariant-loop-k : goal.invariant-loop-k
invariant-loop-k g l = record {
  serves : ServesAny l.queue l.pass;
  opening : (sight_in l.pass).opening ≡ (sight_in l.fn.pass).opening;
}
