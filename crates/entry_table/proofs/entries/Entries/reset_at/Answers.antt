use Rattle.std.proofs.Common.{arith, sym, ap, ◌∙◌}
use Rattle.link_core.specs.Layout.{count_of}
use Rattle.entry_table.specs.declared.view.Shape.{Shape}
use Rattle.entry_table.specs.Views.{rest_of}
use Rattle.entry_table.proofs.Marked.{reset_at}
use Rattle.entry_table.proofs.entries.Entries.reset_at.Goals as goal

pub swap-requires : goal.swap-requires
swap-requires g c =
    let e = c.args.self.now in
    let low = c.requires.list in let wide = e.wide in let is = c.count_place-word.ensures in let keyed = ap (λ (s : Shape). s.lists) e.keyed in (
      c.requires.table,
      omega (arith, low, wide, is),
      reset_at g.C.Freight.goods e.table.shared.key _ _ _ c.args.list g.J.Noting.along c.args.seat.now.me c.args.caller (rest_of c.args.seat.now.me.0.callers) (is ∙ ap (λ (s : Shape). count_of s.rows c.args.list) (sym e.keyed)) c.requires.picked c.requires.caller
          (omega (arith, low, keyed)),
    )
