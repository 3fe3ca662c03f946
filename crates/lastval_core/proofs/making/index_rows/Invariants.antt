use Rattle.std.proofs.Common.{◌≡◌, ◌≤◌, ◌-◌, length}
use Rattle.std.specs.Vec.{vec_len, vec_capacity}
use Rattle.lastval_core.specs.Fronts.{front}
use Rattle.lastval_core.specs.Lasts.{KeepsLast}
use Rattle.lastval_core.proofs.making.index_rows.Given as goal

abbrev pub invariant-indexing : goal.invariant-indexing
invariant-indexing g l = record {
  low : vec_len l.marks ≤ l.count;
  keeps : KeepsLast (front l.rows (vec_len l.marks)) l.lasts.items l.marks.items;
  lasts_fit : l.count ≤ vec_capacity l.lasts;
  marks_fit : l.count ≤ vec_capacity l.marks;
}

abbrev pub decreases-indexing : goal.decreases-indexing
decreases-indexing g l = l.count - vec_len l.marks
