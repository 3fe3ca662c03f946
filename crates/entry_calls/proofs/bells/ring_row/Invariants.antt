use Rattle.std.proofs.Common.{◌≤◌, ◌-◌}
use Rattle.acts_core.specs.Calls.{rings_up}
use Rattle.acts_core.specs.Moments.{HasMask}
use Rattle.entry_table.specs.Passes.{state}
use Rattle.entry_table.specs.Sights.{Serves}
use Rattle.entry_calls.specs.Appends.{Ran}
use Rattle.entry_calls.proofs.bells.ring_row.Given as goal

-- the bells of the consumers below this one were rung
abbrev pub invariant-consumers : goal.invariant-consumers
invariant-consumers g l = record {
  serves : Serves l.entries l.pass;
  few : l.consumer ≤ l.entries.shape.consumers;
  mask : HasMask (state l.fn.pass) l.row l.mask;
  ran : Ran l.fn.pass l.pass (rings_up l.row l.mask 0 l.consumer);
}

abbrev pub decreases-consumers : goal.decreases-consumers
decreases-consumers g l = l.consumers - l.consumer
