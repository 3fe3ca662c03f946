use Rattle.std.proofs.Common.{◌-◌}
use Rattle.queue_model.specs.State.{place_at}
use Rattle.entry_table.specs.Passes.{IsPassOf, Kept, state}
use Rattle.scavenge_core.specs.Skips.{MayMove, Moved}
use Rattle.scavenge_core.proofs.skips.move_on.Given as goal

-- the link names this row, which is not behind the other
abbrev pub invariant-tries : goal.invariant-tries
invariant-tries g l = record {
  table : IsPassOf l.entries l.pass;
  kept : Kept l.fn.pass l.pass;
  moved : Moved l.fn.pass l.pass l.list l.stop l.first l.from l.from;
  may : MayMove l.pass l.list l.stop l.from l.row;
}

-- places between the two
abbrev pub decreases-tries : goal.decreases-tries
decreases-tries g l = place_at (state l.pass) l.row - place_at (state l.pass) l.from
