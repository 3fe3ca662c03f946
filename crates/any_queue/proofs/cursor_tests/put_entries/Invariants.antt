use Rattle.std.proofs.Common.{◌≡◌, ◌≤◌, ◌+◌}
use mathlib.Core.List.{Mem}
use Rattle.any_queue.specs.Kinds.{sight_in, ServesAny}
use Rattle.any_queue.proofs.cursor_tests.put_entries.Given as goal

abbrev pub invariant-loop-id : goal.invariant-loop-id
invariant-loop-id g l = record {
  serves : ServesAny l.queue l.pass;
  allowed : 1000 ≤ (sight_in l.pass).allowance + l.id;
  opening : (sight_in l.pass).opening ≡ (sight_in l.fn.pass).opening;
  consumers : (sight_in l.pass).consumers ≡ (sight_in l.fn.pass).consumers;
}
