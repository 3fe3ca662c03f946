use Rattle.std.proofs.Common.{arith, ◌≡◌, ◌<◌, ℕ, ap, subst}
use Rattle.queue_model.specs.declared.steps.DraftWord.{DraftWord}
use Rattle.link_core.proofs.Frames.{draft_high}
use Rattle.entry_table.specs.declared.view.Shape.{Shape}
use Rattle.entry_table.specs.Views.{rest_of}
use Rattle.entry_table.specs.Plays.{stored}
use Rattle.entry_table.proofs.Splitting.{stores_at, draft_inside}
use Rattle.entry_table.proofs.entries.Entries.store_at.Goals as goal

pub draft_place-place-requires : goal.draft_place-place-requires
draft_place-place-requires g c =
    let low = c.requires.draft.low in
    let same : c.args.seat.now.me.0.shape.rows ≡ c.args.self.now.shape.rows = ap (λ (s : Shape). s.rows) c.requires.shape in
    let rows = c.args.self.now.rows in
    let high = draft_high c.args.row c.args.word in omega (arith, low, same, rows, high)

pub store-requires : goal.store-requires
store-requires g c =
    let e = c.args.self.now in
    let low = draft_inside c.args.row c.args.word e.shape.rows e.shape.lists (subst (λ (s : Shape). c.args.row < s.rows) c.requires.shape c.requires.draft.low) in
    let wide = e.wide in
    let is = c.draft_place-place.ensures in (
      c.requires.table,
      omega (arith, low, wide, is),
      stores_at g.C.Freight.goods e.table.shared.key _ _ _ c.args.row g.J.Storing.target c.args.value g.J.Storing.value c.args.word g.J.Storing.part c.args.seat.now.me c.args.caller (rest_of c.args.seat.now.me.0.callers) c.requires.draft.d is c.requires.picked.0 c.requires.picked.1 c.requires.picked.2 c.requires.caller c.requires.idle c.requires.draft.drawing,
    )

pub returns-clause-told : goal.returns-clause-told
returns-clause-told g c = subst (λ (z : ℕ × DraftWord × ℕ). stored z.0 z.1 z.2 c.args.seat.now.me c.store.new.seat.me) (λ i. (c.requires.picked.0 i, c.requires.picked.1 i, c.requires.picked.2 i)) c.store.ensures.2
