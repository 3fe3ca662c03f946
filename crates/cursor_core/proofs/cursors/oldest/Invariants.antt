use Rattle.acts_core.specs.Walks.{Ready, Done}
use Rattle.entry_table.specs.Passes.{IsPassOf, Kept}
use Rattle.entry_table.specs.Sights.{sight}
use Rattle.cursor_core.proofs.cursors.oldest.Given as goal

-- the lists before this one were walked to their ends
abbrev pub invariant-loop-list : goal.invariant-loop-list
invariant-loop-list g l = record {
  table : IsPassOf l.entries l.pass;
  kept : Kept l.fn.pass l.pass;
  done : Done (sight l.fn.pass) (sight l.pass) Ready 0 l.list;
}
