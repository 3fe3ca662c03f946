use Rattle.std.proofs.Common.{◌≡◌, length}
use Rattle.std.specs.Vec.{vec_capacity}
use Rattle.row_order.specs.Order.{ranks}
use Rattle.row_order.proofs.Drains.{Draining, leaves_full}
use Rattle.row_order.proofs.tree.drain.Given as goal

abbrev pub invariant-draining : goal.invariant-draining
invariant-draining g l =
    Draining (ranks g.O.Ranking.by_key l.slots) l.width (length l.slots) l.fn.nodes l.nodes l.order.items
    × (vec_capacity l.order ≡ vec_capacity l.fn.order)

abbrev pub decreases-draining : goal.decreases-draining
decreases-draining g l = leaves_full l.nodes l.width l.width
