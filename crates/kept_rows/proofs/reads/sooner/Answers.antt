use Rattle.std.proofs.Common.{rules, ◌≡◌, ◌≤◌, ◌-◌, ◌∙◌, sym, true, false, length, arith, subst}
use Rattle.row_order.specs.Order.{ranks}
use Rattle.kept_rows.proofs.Finding.{named_skip, named_wins}
use Rattle.kept_rows.proofs.reads.sooner.Goals as goal

pub winner-requires : goal.winner-requires
winner-requires g c = let i = c.requires.inside in let b = c.requires.best.inside in (omega arith, omega arith)

pub returns-then-is_named : goal.returns-then-is_named
returns-then-is_named g c = named_wins (ranks g.O.Ranking.by_key c.args.slots.now) c.args.slots.now c.args.id c.args.row c.args.best c.winner.result c.index-slots-row.result c.requires.inside c.index-slots-row.is (c.is_named.ensures.0 c.if-is_named.true) c.winner.ensures c.requires.best

pub returns : goal.returns
returns g c = named_skip (ranks g.O.Ranking.by_key c.args.slots.now) c.args.slots.now c.args.id c.args.row c.args.best c.index-slots-row.result c.requires.inside c.index-slots-row.is (λ h. let bad : false ≡ true = sym c.if-is_named.false ∙ c.is_named.ensures.1 h in absurd (cc)) c.requires.best
