use Rattle.std.proofs.Common.{◌+◌, ◌≤◌}
use Rattle.acts_core.specs.Hands.{SamePass}
use Rattle.entry_table.specs.Passes.{allowance}
use Rattle.entry_table.specs.Sights.{Serves, sight}
use Rattle.entry_calls.proofs.shared_tests.put_all.Given as goal

abbrev pub invariant-loop-k : goal.invariant-loop-k
invariant-loop-k l = record {
  serves : Serves l.entries l.pass;
  same : SamePass (sight l.fn.pass) (sight l.pass);
  allowed : 16 ≤ allowance l.pass + l.k;
}
