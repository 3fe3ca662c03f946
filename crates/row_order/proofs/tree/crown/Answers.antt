use Rattle.std.proofs.Common.{rules, ◌<◌, ◌≤◌, ◌-◌, length, arith, ◌∙◌}
use Rattle.std.proofs.lemmas.List.{get_or-set_other}
use Rattle.row_order.specs.Order.{ranks}
use Rattle.row_order.proofs.Crowns.{crowns}
use Rattle.row_order.proofs.tree.crown.Goals as goal

pub crowning-preserved : goal.crowning-preserved
crowning-preserved g c =
    let more : 1 < c.crowning.at = search rules in
    let i = c.crowning.invariant in
    let inside : c.crowning.at ≤ c.args.width = i.0 in
    let r = crowns (ranks g.O.Ranking.by_key c.args.slots.now) c.args.width (length c.args.slots.now) c.crowning.at c.crowning.nodes c.winner.result i.1 more inside (λ j low m. i.2 j (omega arith) low m) c.winner.ensures in
    (omega arith, r.0, (λ j some low m. r.1 j low m), (λ j high. get_or-set_other c.crowning.nodes (c.crowning.at - 1) j c.winner.result 0 (λ z. omega arith) ∙ i.3 j high))
