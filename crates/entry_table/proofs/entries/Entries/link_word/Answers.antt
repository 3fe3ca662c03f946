use Rattle.std.proofs.Common.{rules, arith, subst, sym, ap, ◌∙◌, ℕ}
use Rattle.queue_model.specs.declared.steps.Node.{Node}
use Rattle.link_core.specs.Layout.{link_of}
use Rattle.entry_table.specs.declared.view.Shape.{Shape}
use Rattle.entry_table.specs.Plays.{linking}
use Rattle.entry_table.specs.Views.{rest_of}
use Rattle.entry_table.proofs.Entering.{links_at}
use Rattle.entry_table.proofs.entries.Entries.link_word.Goals as goal

pub compare_exchange-requires : goal.compare_exchange-requires
compare_exchange-requires g c =
    let is = c.link_place-place.ensures in
    let low = c.requires.place.0 in (
      search rules,
      omega (arith, low, is),
      links_at g.C.Freight.goods c.args.self.now.table.shared.key _ _ _ c.args.row _ g.J.Placing.number c.args.after g.J.Placing.behind c.args.seat.now.me c.args.caller (rest_of c.args.seat.now.me.0.callers) (is ∙ ap (λ (s : Shape). link_of s.rows c.args.after) (sym c.args.self.now.keyed)) (omega arith) c.requires.picked.0 c.requires.picked.1 c.requires.caller c.requires.ready,
    )

pub returns-clause-told : goal.returns-clause-told
returns-clause-told g c = subst (λ (k : Node). linking g.C.Freight.goods c.args.row k c.args.seat.now.me c.compare_exchange.result c.compare_exchange.new.seat.me) c.requires.picked.1
    (subst (λ (k : ℕ). linking g.C.Freight.goods k g.J.Placing.behind c.args.seat.now.me c.compare_exchange.result c.compare_exchange.new.seat.me) c.requires.picked.0 c.compare_exchange.ensures.2)
