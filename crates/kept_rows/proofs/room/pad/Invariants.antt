use Rattle.std.proofs.Common.{◌≡◌, ◌<◌, ◌≤◌, ◌-◌, ℕ, length, get_or}
use Rattle.std.specs.Vec.{vec_len, vec_capacity}
use Rattle.kept_rows.proofs.room.pad.Given as goal

abbrev pub invariant-padding : goal.invariant-padding
invariant-padding l = record {
  low : vec_len l.nodes ≤ l.long;
  room : vec_capacity l.nodes ≡ vec_capacity l.fn.nodes;
  same : (i : ℕ) → get_or l.nodes.items i 0 ≡ get_or l.fn.nodes.items i 0;
}

abbrev pub decreases-padding : goal.decreases-padding
decreases-padding l = l.long - vec_len l.nodes
