use Rattle.std.proofs.Common.{arith, sym, ap, ◌∙◌, subst}
use Rattle.queue_model.specs.declared.steps.Node.{Node}
use Rattle.queue_model.specs.declared.steps.Step.TheVariants as steps
use Rattle.queue_model.specs.declared.steps.WordName.TheVariants as names
use Rattle.link_core.specs.Layout.{link_of}
use Rattle.entry_table.specs.declared.view.Shape.{Shape}
use Rattle.entry_table.specs.Skips.{watching}
use Rattle.entry_table.specs.Views.{rest_of}
use Rattle.entry_table.proofs.Places.{node_low}
use Rattle.entry_table.proofs.Skipped.{watch_at, did_watch}
use Rattle.entry_table.proofs.entries.Entries.watch_at.Goals as goal

pub load-requires : goal.load-requires
load-requires g c =
    let e = c.args.self.now in
    let low = node_low e.shape c.args.node c.requires.node in let wide = e.wide in let is = c.link_place-place.ensures in (
      c.requires.table,
      omega (arith, low, wide, is),
      watch_at g.C.Freight.goods e.table.shared.key _ _ _ c.args.node g.J.Passing.place c.args.seat.now.me c.args.caller (rest_of c.args.seat.now.me.0.callers) (is ∙ ap (λ (s : Shape). link_of s.rows c.args.node) (sym e.keyed)) c.requires.picked c.requires.caller c.requires.known,
    )

pub returns-clause-told : goal.returns-clause-told
returns-clause-told g c = subst (λ (z : Node). watching z (steps.Load (names.Link z)) c.args.seat.now.me c.load.result c.load.new.seat.me) c.requires.picked c.load.ensures.2

pub returns-clause-watching : goal.returns-clause-watching
returns-clause-watching g c =
    did_watch c.args.node (steps.Load (names.Link c.args.node)) c.args.seat.now.me c.load.result c.load.new.seat.me (subst (λ (z : Node). watching z (steps.Load (names.Link z)) c.args.seat.now.me c.load.result c.load.new.seat.me) c.requires.picked c.load.ensures.2)
