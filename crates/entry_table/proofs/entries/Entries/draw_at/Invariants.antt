use Rattle.std.proofs.Common.{◌≡◌, ◌-◌}
use Rattle.entry_table.specs.Plays.{Seeks}
use Rattle.entry_table.proofs.entries.Entries.draw_at.Given as goal

abbrev pub invariant-tries : goal.invariant-tries
invariant-tries g l = record {
  table : l.seat.table_id ≡ l.fn.seat.table_id;
  id : l.seat.id ≡ l.fn.seat.id;
  carried : l.seat.me.1 ≡ l.fn.seat.me.1;
  seeks : Seeks l.fn.seat.me.0 l.seat.me.0 l.row;
}

abbrev pub decreases-tries : goal.decreases-tries
decreases-tries g l = l.fn.seat.me.0.shape.rows - l.row
