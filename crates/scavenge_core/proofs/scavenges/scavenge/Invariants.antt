use Rattle.std.proofs.Common.{◌-◌}
use Rattle.acts_core.specs.Walks.{IsStop, reach}
use Rattle.entry_table.specs.Passes.{IsPassOf, Kept, state}
use Rattle.scavenge_core.specs.Scavenges.{Scavenging}
use Rattle.scavenge_core.proofs.scavenges.scavenge.Given as goal

-- the links up to this stop are put right
abbrev pub invariant-rows : goal.invariant-rows
invariant-rows g l = record {
  table : IsPassOf l.entries l.pass;
  kept : Kept l.fn.pass l.pass;
  stop : IsStop (state l.pass) l.list l.stop;
  links : Scavenging l.fn.pass l.pass l.list l.mark l.stop;
}

-- places that are left
abbrev pub decreases-rows : goal.decreases-rows
decreases-rows g l = l.entries.shape.rows - reach (state l.pass) l.stop
