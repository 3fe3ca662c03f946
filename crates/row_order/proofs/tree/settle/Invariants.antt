use Rattle.std.proofs.Common.{◌<◌, ◌-◌, ◌*◌, length}
use Rattle.row_order.specs.Order.{ranks}
use Rattle.row_order.specs.Tree.{Leafed, OffPath, SameLeaves}
use Rattle.row_order.proofs.tree.settle.Given as goal

abbrev pub invariant-rising : goal.invariant-rising
invariant-rising g l =
    (0 < l.at)
    × (l.at < 2 * l.width)
    × Leafed l.width (length l.slots) l.nodes
    × OffPath (ranks g.O.Ranking.by_key l.slots) l.width l.nodes l.at
    × SameLeaves l.width l.fn.nodes l.nodes

abbrev pub decreases-rising : goal.decreases-rising
decreases-rising g l = l.at - 1
