use Rattle.acts_core.specs.Walks.{Ready, Faces}
use Rattle.acts_core.proofs.Coming.{left}
use Rattle.entry_table.specs.Passes.{IsPassOf, Kept, state}
use Rattle.entry_table.specs.Sights.{sight}
use Rattle.cursor_core.proofs.walks.walk_ready.Given as goal

-- the row to try next; none where the end was shown
abbrev pub invariant-rows : goal.invariant-rows
invariant-rows g l = record {
  table : IsPassOf l.entries l.pass;
  kept : Kept l.fn.pass l.pass;
  faces : Faces (sight l.fn.pass) (sight l.pass) Ready l.list l.next;
}

-- places that are left
abbrev pub decreases-rows : goal.decreases-rows
decreases-rows g l = left l.entries.shape.rows (state l.pass) l.next
