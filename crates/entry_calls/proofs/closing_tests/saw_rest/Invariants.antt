use Rattle.entry_table.specs.Passes.{IsPassOf, opening, seen}
use Rattle.entry_calls.proofs.Closable.{Idle, RestedBelow}
use Rattle.entry_calls.proofs.closing_tests.saw_rest.Given as goal

abbrev pub invariant-loop-row : goal.invariant-loop-row
invariant-loop-row l = record {
  table : IsPassOf l.entries l.pass;
  idle : Idle l.fn.pass l.pass;
  below : RestedBelow (opening l.fn.pass) (seen l.fn.pass) (seen l.pass) l.row;
}
