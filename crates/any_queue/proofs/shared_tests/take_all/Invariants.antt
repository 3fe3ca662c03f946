use Rattle.std.proofs.Common.{◌≡◌}
use Rattle.any_queue.specs.Kinds.{sight_in, ServesAny}
use Rattle.any_queue.proofs.shared_tests.take_all.Given as goal

abbrev pub invariant-loop : goal.invariant-loop
invariant-loop g l = record {
  serves : ServesAny l.queue l.pass;
  consumers : (sight_in l.pass).consumers ≡ (sight_in l.fn.pass).consumers;
  opening : (sight_in l.pass).opening ≡ (sight_in l.fn.pass).opening;
}
