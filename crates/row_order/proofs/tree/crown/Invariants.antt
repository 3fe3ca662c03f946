use Rattle.std.proofs.Common.{◌<◌, ◌≤◌, ℕ, length}
use Rattle.row_order.specs.Order.{ranks}
use Rattle.row_order.specs.Tree.{Leafed, IsRight, SameLeaves}
use Rattle.row_order.proofs.tree.crown.Given as goal

abbrev pub invariant-crowning : goal.invariant-crowning
invariant-crowning g l =
    (l.at ≤ l.width)
    × Leafed l.width (length l.slots) l.nodes
    × ((i : ℕ) → 0 < i → l.at ≤ i → i < l.width → IsRight (ranks g.O.Ranking.by_key l.slots) l.nodes i)
    × SameLeaves l.width l.fn.nodes l.nodes

abbrev pub decreases-crowning : goal.decreases-crowning
decreases-crowning g l = l.at
