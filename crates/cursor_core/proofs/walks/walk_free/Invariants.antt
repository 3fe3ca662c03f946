use Rattle.acts_core.proofs.Coming.{left}
use Rattle.entry_table.specs.Passes.{IsPassOf, Kept, opening, state}
use Rattle.entry_table.specs.Sights.{sight}
use Rattle.cursor_core.specs.Walking.{Faces}
use Rattle.cursor_core.proofs.walks.walk_free.Given as goal

-- the row to try next; none where the end was shown
abbrev pub invariant-rows : goal.invariant-rows
invariant-rows g l = record {
  table : IsPassOf l.entries l.pass;
  kept : Kept l.fn.pass l.pass;
  faces : Faces (opening l.fn.pass) (sight l.fn.pass) (sight l.pass) l.consumer l.list l.fn.stop l.stop l.next;
}

-- places that are left
abbrev pub decreases-rows : goal.decreases-rows
decreases-rows g l = left l.entries.shape.rows (state l.pass) l.next
