use Rattle.std.proofs.Common.{arith, sym, ap, ◌∙◌}
use Rattle.link_core.specs.Layout.{mark_of}
use Rattle.entry_table.specs.declared.view.Shape.{Shape}
use Rattle.entry_table.specs.Views.{rest_of}
use Rattle.entry_table.proofs.Marked.{mark_at}
use Rattle.entry_table.proofs.entries.Entries.mark_at.Goals as goal

pub fetch_max-requires : goal.fetch_max-requires
fetch_max-requires g c =
    let e = c.args.self.now in
    let low = c.requires.list in let wide = e.wide in let is = c.mark_place-word.ensures in (
      c.requires.table,
      omega (arith, low, wide, is),
      mark_at g.C.Freight.goods e.table.shared.key _ _ _ c.args.list g.J.Noting.place g.J.Noting.along c.args.place c.args.seat.now.me c.args.caller (rest_of c.args.seat.now.me.0.callers) (is ∙ ap (λ (s : Shape). mark_of s.rows c.args.list) (sym e.keyed)) c.requires.picked.0 c.requires.picked.1 c.requires.caller c.requires.place,
    )
