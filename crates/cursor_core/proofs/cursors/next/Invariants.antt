use Rattle.std.proofs.Common.{◌≡◌}
use Rattle.entry_table.specs.Passes.{IsPassOf, Kept, opening}
use Rattle.entry_table.specs.Sights.{sight}
use Rattle.cursor_core.specs.Listing.{Done}
use Rattle.cursor_core.proofs.cursors.next.Given as goal

-- the lists from this one on were walked to their ends
abbrev pub invariant-lists : goal.invariant-lists
invariant-lists g l = record {
  table : IsPassOf l.entries l.pass;
  kept : Kept l.fn.pass l.pass;
  same : l.cursor.consumer ≡ l.fn.cursor.consumer;
  done : Done (opening l.fn.pass) (sight l.fn.pass) (sight l.pass) l.fn.cursor.consumer l.list l.fn.cursor.stops l.cursor.stops;
}

abbrev pub decreases-lists : goal.decreases-lists
decreases-lists g l = l.list
