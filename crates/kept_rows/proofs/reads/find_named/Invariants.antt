use Rattle.std.proofs.Common.{◌≤◌, ◌-◌, length}
use Rattle.row_order.specs.Order.{ranks}
use Rattle.kept_rows.specs.Keeping.{FirstNamed}
use Rattle.kept_rows.proofs.reads.find_named.Given as goal

abbrev pub invariant-scanning : goal.invariant-scanning
invariant-scanning g l = record {
  inside : l.row ≤ length l.slots;
  best : FirstNamed (ranks g.O.Ranking.by_key l.slots) l.slots l.id l.row l.best;
}

abbrev pub decreases-scanning : goal.decreases-scanning
decreases-scanning g l = length l.slots - l.row
