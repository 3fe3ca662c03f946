use Rattle.std.proofs.Common.{rules, ◌≡◌, ◌<◌, ◌≤◌, ◌*◌, ◌+◌, length, get_or}
use Rattle.row_order.specs.Order.{ranks, IsWanted}
use Rattle.row_order.proofs.Crowns.{nothing_below, best_wanted, leaf_unwanted, join_below, below_inside}
use Rattle.row_order.proofs.tree.+first_wanted.Goals as goal

pub returns-then-best-eq0 : goal.returns-then-best-eq0
returns-then-best-eq0 g t c =
    let none : get_or c.args.nodes.now c.args.node 0 ≡ 0 = search rules in
    nothing_below (ranks g.O.Ranking.by_key c.args.slots.now) c.args.width (length c.args.slots.now) c.args.nodes.now c.args.node (IsWanted c.args.slots.now c.args.consumer) c.requires.tree c.requires.node.0 none

pub returns-then-wants : goal.returns-then-wants
returns-then-wants g t c =
    let some : 0 < get_or c.args.nodes.now c.args.node 0 = search rules in
    best_wanted (ranks g.O.Ranking.by_key c.args.slots.now) c.args.width (length c.args.slots.now) c.args.nodes.now c.args.node (IsWanted c.args.slots.now c.args.consumer) c.requires.tree c.requires.node.0 c.requires.node.1 some (c.wants.ensures.0 c.if-wants.true)

pub returns-then-node-width : goal.returns-then-node-width
returns-then-node-width g t c =
    let high : c.args.width ≤ c.args.node = search rules in
    leaf_unwanted (ranks g.O.Ranking.by_key c.args.slots.now) c.args.width (length c.args.slots.now) c.args.nodes.now c.args.node (IsWanted c.args.slots.now c.args.consumer) c.requires.tree high c.requires.node.0 c.requires.node.1
    (λ x. let z = c.wants.ensures.1 x in let w = c.if-wants.false in absurd (cc))

pub winner-requires : goal.winner-requires
winner-requires g t c = (
  below_inside (ranks g.O.Ranking.by_key c.args.slots.now) c.args.width (length c.args.slots.now) c.args.nodes.now (2 * c.args.node) c.first_wanted-left.result (IsWanted c.args.slots.now c.args.consumer) c.requires.tree c.first_wanted-left.ensures,
  below_inside (ranks g.O.Ranking.by_key c.args.slots.now) c.args.width (length c.args.slots.now) c.args.nodes.now (2 * c.args.node + 1) c.first_wanted-right.result (IsWanted c.args.slots.now c.args.consumer) c.requires.tree c.first_wanted-right.ensures,
)

pub returns : goal.returns
returns g t c =
    let low : c.args.node < c.args.width = search rules in
    join_below (ranks g.O.Ranking.by_key c.args.slots.now) c.args.width (length c.args.slots.now) c.args.nodes.now c.args.node c.first_wanted-left.result c.first_wanted-right.result c.winner.result (IsWanted c.args.slots.now c.args.consumer)
    c.requires.node.0 low c.first_wanted-left.ensures c.first_wanted-right.ensures c.winner.ensures
