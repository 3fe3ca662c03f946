use Rattle.std.proofs.Common.{◌≡◌, ◌+◌, ◌≤◌, ℕ, sym, ap, ◌∙◌, subst, arith}
use Rattle.atomic_table.specs.declared.badge.Badge.{Badge}
use Rattle.entry_table.specs.declared.view.Shape.{Shape}
use Rattle.entry_table.specs.declared.view.View.{View}
use Rattle.entry_table.specs.Tries.{tries}
use Rattle.entry_table.specs.Views.{view_in}
use Rattle.entry_table.proofs.Trying.{drew_tries}
use Rattle.entry_table.proofs.entries.Entries.draw_row.Goals as goal

pub returns-clause-tries : goal.returns-clause-tries
returns-clause-tries g c =
    let before : c.into_seat-seat.result.me.0 ≡ view_in c.args.pass.now.badge.views = ap view_in (sym c.into_seat-seat.ensures.2) ∙ ap (λ (b : Badge View). view_in b.views) c.replace.ensures.value in
    let later : c.draw_at-row.new.seat.me.0 ≡ view_in c.into_badge.result.views = ap view_in (sym c.into_badge.ensures.2) in
    let rows = ap (λ (s : Shape). s.rows) c.requires.table.shape in
    let few = drew_tries c.into_seat-seat.result.me.0 c.draw_at-row.new.seat.me.0 c.draw_at-row.result c.draw_at-row.ensures.drew in
    let old_is = ap (λ (v : View). tries v.shown) before in let new_is = ap (λ (v : View). tries v.shown) later in
    let wide = ap (λ (v : View). v.shape.rows) before in
    omega (arith, few, old_is, new_is, wide, rows)
