use Rattle.std.proofs.Common.{◌≡◌, ◌≤◌, ◌+◌}
use Rattle.any_queue.specs.Kinds.{sight_in, ServesAny}
use Rattle.any_queue.proofs.shared_tests.put_all.Given as goal

abbrev pub invariant-loop-k : goal.invariant-loop-k
invariant-loop-k g l = record {
  serves : ServesAny l.queue l.pass;
  allowed : 16 ≤ (sight_in l.pass).allowance + l.k;
  opening : (sight_in l.pass).opening ≡ (sight_in l.fn.pass).opening;
}
