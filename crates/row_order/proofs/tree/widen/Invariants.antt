use Rattle.std.proofs.Common.{◌≡◌, ◌≤◌, ◌<◌, ◌+◌, ◌*◌, ◌-◌, ℕ, length, get_or}
use Rattle.row_order.proofs.tree.widen.Given as goal

abbrev pub invariant-moving : goal.invariant-moving
invariant-moving g l =
    (l.row ≤ l.old) × (length l.nodes ≡ 2 * l.width)
    × ((i : ℕ) → i < l.width → get_or l.nodes i 0 ≡ get_or l.fn.nodes i 0)
    × ((r : ℕ) → r < l.row → get_or l.nodes (l.width + r) 0 ≡ get_or l.fn.nodes (l.old + r) 0)
    × ((r : ℕ) → l.row ≤ r → get_or l.nodes (l.width + r) 0 ≡ 0)

abbrev pub decreases-moving : goal.decreases-moving
decreases-moving g l = l.old - l.row
