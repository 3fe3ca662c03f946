use Rattle.std.proofs.Common.{◌≤◌, ◌-◌, length}
use Rattle.row_order.specs.Tree.{Leafed}
use Rattle.kept_rows.specs.Keeping.{Awake}
use Rattle.kept_rows.proofs.rest.wake.Given as goal

abbrev pub invariant-waking : goal.invariant-waking
invariant-waking g l = record {
  inside : l.row ≤ length l.slots;
  leafed : Leafed l.width (length l.slots) l.nodes;
  awake : Awake l.slots l.width l.row l.nodes;
}

abbrev pub decreases-waking : goal.decreases-waking
decreases-waking g l = length l.slots - l.row
