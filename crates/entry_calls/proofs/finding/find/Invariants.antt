use Rattle.std.proofs.Common.{◌≤◌}
use Rattle.acts_core.specs.Walks.{Named, Done}
use Rattle.entry_table.specs.Passes.{IsPassOf, Kept, opening}
use Rattle.entry_table.specs.Sights.{sight}
use Rattle.entry_calls.proofs.finding.find.Given as goal

-- the lists from this one on were walked to their ends
abbrev pub invariant-lists : goal.invariant-lists
invariant-lists g l = record {
  table : IsPassOf l.entries l.pass;
  kept : Kept l.fn.pass l.pass;
  few : l.list ≤ (opening l.fn.pass).lists;
  done : Done (sight l.fn.pass) (sight l.pass) (Named l.id) l.list (opening l.fn.pass).lists;
}

abbrev pub decreases-lists : goal.decreases-lists
decreases-lists g l = l.list
