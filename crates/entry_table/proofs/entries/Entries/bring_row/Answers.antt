use Rattle.std.proofs.Common.{arith, ◌≡◌, sym, ap, ◌∙◌, subst}
use Rattle.atomic_table.specs.declared.badge.Badge.{Badge}
use Rattle.entry_table.specs.declared.view.Shape.{Shape}
use Rattle.entry_table.specs.declared.view.View.{View}
use Rattle.entry_table.specs.Homes.{Holding, Brought}
use Rattle.entry_table.specs.Views.{view_in, state_in}
use Rattle.entry_table.proofs.entries.Entries.bring_row.Goals as goal

pub bring_at-requires-clause-low : goal.bring_at-requires-clause-low
bring_at-requires-clause-low g c =
    let h = c.requires.holding in
    let lt = c.args.pass.now.within.low c.args.row h.x h.found in
    let same = ap (λ (s : Shape). s.rows) c.requires.table.shape in omega (arith, lt, same)

pub bring_at-requires-clause-holding : goal.bring_at-requires-clause-holding
bring_at-requires-clause-holding g c =
    let before : c.into_seat-seat.result.me.0 ≡ view_in c.args.pass.now.badge.views = ap view_in (sym c.into_seat-seat.ensures.2) ∙ ap (λ (b : Badge View). view_in b.views) c.replace.ensures.value in
    subst (λ (z : View). Holding (state_in z) c.args.pass.now.caller c.args.row (g.C.Freight.goods c.args.cargo)) (sym before) c.requires.holding

pub returns-clause-brought : goal.returns-clause-brought
returns-clause-brought g c =
    let before : c.into_seat-seat.result.me.0 ≡ view_in c.args.pass.now.badge.views = ap view_in (sym c.into_seat-seat.ensures.2) ∙ ap (λ (b : Badge View). view_in b.views) c.replace.ensures.value in
    let later : c.bring_at.new.seat.me.0 ≡ view_in c.into_badge.result.views = ap view_in (sym c.into_badge.ensures.2) in
    subst (λ (x : View × View). Brought x.0 x.1 c.args.row c.args.change (g.C.Freight.goods c.args.cargo).count) (λ i. (before i, later i)) c.bring_at.ensures.brought
