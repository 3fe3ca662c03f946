use Rattle.std.proofs.Common.{◌≡◌, ◌<◌, ◌≤◌, ◌+◌, ◌*◌, ◌^◌, ℕ, get_or}
use Rattle.row_order.specs.Tree.{IsFreeLeaf}
use Rattle.row_order.proofs.tree.leftmost.Given as goal

abbrev pub invariant-descending : goal.invariant-descending
invariant-descending l =
    (0 < l.node) × ((k : ℕ) × (l.span ≡ 2 ^ k)) × (l.width ≤ l.span * l.node) × (l.span * (l.node + 1) ≤ 2 * l.width)
    × (0 < get_or l.nodes l.node 0) × ((y : ℕ) → IsFreeLeaf l.width l.nodes y → l.span * l.node ≤ l.width + y)

abbrev pub decreases-descending : goal.decreases-descending
decreases-descending l = l.span
