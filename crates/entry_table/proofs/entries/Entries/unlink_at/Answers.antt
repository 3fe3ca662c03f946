use Rattle.std.proofs.Common.{arith, ◌≡◌, ◌+◌, suc, sym, ap, ◌∙◌, subst, ℕ}
use Rattle.queue_model.specs.declared.steps.Node.{Node}
use Rattle.link_core.specs.Layout.{link_of}
use Rattle.entry_table.specs.declared.view.Shape.{Shape}
use Rattle.entry_table.specs.Skips.{unlinking}
use Rattle.entry_table.specs.Views.{rest_of}
use Rattle.entry_table.proofs.Places.{node_low}
use Rattle.entry_table.proofs.Skipped.{unlink_at}
use Rattle.entry_table.proofs.entries.Entries.unlink_at.Goals as goal

pub compare_exchange-requires : goal.compare_exchange-requires
compare_exchange-requires g c =
    let e = c.args.self.now in
    let low = node_low e.shape c.args.at c.requires.node in let wide = e.wide in let is = c.link_place.ensures in (
      c.requires.table,
      omega (arith, low, wide, is),
      unlink_at g.C.Freight.goods e.table.shared.key _ _ _ _ _ c.args.at g.J.Passing.place c.args.from g.J.Passing.source c.args.to g.J.Passing.target c.args.seat.now.me c.args.caller (rest_of c.args.seat.now.me.0.callers)
          (is ∙ ap (λ (s : Shape). link_of s.rows c.args.at) (sym e.keyed)) (omega arith) (omega arith) c.requires.picked.0 c.requires.picked.1 c.requires.picked.2 c.requires.caller c.requires.within.sound c.requires.unlinkable,
    )

pub returns-clause-told : goal.returns-clause-told
returns-clause-told g c =
    subst (λ (z : Node × ℕ × ℕ). unlinking z.0 z.1 z.2 c.args.seat.now.me c.compare_exchange.result c.compare_exchange.new.seat.me) (λ j. (c.requires.picked.0 j, c.requires.picked.1 j, c.requires.picked.2 j)) c.compare_exchange.ensures.2
