use Rattle.std.proofs.Common.{◌-◌}
use Rattle.queue_model.specs.State.{place_at}
use Rattle.acts_core.specs.Walks.{IsStop}
use Rattle.entry_table.specs.Passes.{IsPassOf, Kept, state}
use Rattle.scavenge_core.specs.Skips.{Ahead}
use Rattle.scavenge_core.proofs.skips.step_behind.Given as goal

-- the next row to look at
abbrev pub invariant-rows : goal.invariant-rows
invariant-rows g l = record {
  table : IsPassOf l.entries l.pass;
  kept : Kept l.fn.pass l.pass;
  stop : IsStop (state l.pass) l.list l.stop;
  ahead : Ahead l.fn.pass l.pass l.list l.stop l.first l.row 0 1;
}

-- places that are left
abbrev pub decreases-rows : goal.decreases-rows
decreases-rows g l = l.entries.shape.rows - place_at (state l.pass) l.row
