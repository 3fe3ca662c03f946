use Rattle.std.proofs.Common.{arith, subst, sym, ap, ◌∙◌, ℕ}
use Rattle.queue_model.specs.declared.steps.Node.{Node}
use Rattle.link_core.specs.Layout.{tail_of}
use Rattle.entry_table.specs.declared.view.Shape.{Shape}
use Rattle.entry_table.specs.Helps.{helped}
use Rattle.entry_table.specs.Views.{rest_of}
use Rattle.entry_table.proofs.Tailing.{helps_at}
use Rattle.entry_table.proofs.entries.Entries.help_at.Goals as goal

pub compare_exchange-requires : goal.compare_exchange-requires
compare_exchange-requires g c =
    let e = c.args.self.now in
    let low = c.requires.list in let wide = e.wide in let is = c.tail_place.ensures in (
      c.requires.table,
      omega (arith, low, wide, is),
      helps_at g.C.Freight.goods e.table.shared.key _ _ _ _ _ c.args.list c.args.from c.args.to g.J.Advancing.along g.J.Advancing.source g.J.Advancing.target c.args.seat.now.me c.args.caller (rest_of c.args.seat.now.me.0.callers)
          (is ∙ ap (λ (s : Shape). tail_of s.rows c.args.list) (sym e.keyed)) c.node_word.ensures c.node_word-2.ensures c.requires.picked.0 c.requires.picked.1 c.requires.picked.2 c.requires.caller c.requires.idle c.requires.helpable,
    )

pub returns-clause-told : goal.returns-clause-told
returns-clause-told g c =
    subst (λ (z : ℕ × Node × Node). helped z.0 z.1 z.2 c.args.seat.now.me c.compare_exchange.result c.compare_exchange.new.seat.me) (λ j. (c.requires.picked.0 j, c.requires.picked.1 j, c.requires.picked.2 j)) c.compare_exchange.ensures.2
