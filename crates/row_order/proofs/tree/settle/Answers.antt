use Rattle.std.proofs.Common.{rules, ◌≡◌, ◌<◌, ◌≤◌, ◌/◌, ◌*◌, ℕ, List, length, get_or, set, arith, ◌∙◌}
use Rattle.std.proofs.lemmas.List.{get_or-set_other}
use Rattle.row_order.specs.Order.{ranks}
use Rattle.row_order.specs.Tree.{SameLeaves}
use Rattle.row_order.proofs.Crowns.{rises, settled}
use Rattle.row_order.proofs.tree.settle.Goals as goal

pub returns-then-nodes-at-clause-tree : goal.returns-then-nodes-at-clause-tree
returns-then-nodes-at-clause-tree g c =
    let same : get_or c.rising.nodes (c.rising.at / 2) 0 ≡ c.winner-best.result = search rules in record {
      leafed = c.rising.invariant.2;
      inner = settled (ranks g.O.Ranking.by_key c.args.slots.now) c.args.width c.rising.at c.rising.nodes c.winner-best.result c.rising.invariant.3 same c.winner-best.ensures;
    }

same_set : (width at best : ℕ) (old nodes : List ℕ) → at < width → SameLeaves width old nodes → SameLeaves width old (set nodes at best)
same_set width at best old nodes low same i high = get_or-set_other nodes at i best 0 (λ z. omega arith) ∙ same i high

pub rising-preserved : goal.rising-preserved
rising-preserved g c =
    let more : 1 < c.rising.at = search rules in
    let i = c.rising.invariant in
    let inside : c.rising.at < 2 * c.args.width = i.1 in
    let r = rises (ranks g.O.Ranking.by_key c.args.slots.now) c.args.width (length c.args.slots.now) c.rising.at c.rising.nodes c.winner-best.result i.2 more inside i.3 c.winner-best.ensures in
    (omega arith, omega arith, r.0, r.1, same_set c.args.width (c.rising.at / 2) c.winner-best.result c.args.nodes.now c.rising.nodes (omega arith) i.4)

pub returns-clause-tree : goal.returns-clause-tree
returns-clause-tree g c =
    let done : c.rising.at ≤ 1 = search rules in
    let i = c.rising.invariant in
    record { leafed = i.2; inner = λ j some low. i.3 j some low (λ z. omega arith) }
