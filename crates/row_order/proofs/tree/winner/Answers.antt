use Rattle.std.proofs.Common.{arith}
use Rattle.row_order.specs.Order.{ranks}
use Rattle.row_order.proofs.Crowns.{left_wins}
use Rattle.row_order.proofs.tree.winner.Goals as goal

pub returns-else-is_before : goal.returns-else-is_before
returns-else-is_before g c =
    left_wins (ranks g.O.Ranking.by_key c.args.slots.now) c.args.a c.args.b (omega arith) (omega arith) (λ x. let z = c.is_before.ensures.1 x in let w = c.if-is_before.false in absurd (cc))
