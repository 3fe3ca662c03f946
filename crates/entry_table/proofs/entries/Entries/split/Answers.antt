use Rattle.std.proofs.Common.{◌≡◌, ◌∙◌, sym, ap, subst}
use Rattle.atomic_table.specs.declared.badge.Badge.{Badge}
use Rattle.entry_table.specs.declared.view.View.{View}
use Rattle.entry_table.specs.Views.{Has, view_in}
use Rattle.entry_table.proofs.entries.Entries.split.Goals as goal

pub cut_by-requires-clause-consumers : goal.cut_by-requires-clause-consumers
cut_by-requires-clause-consumers g c k has =
    let before : c.into_seat-seat.result.me.0 ≡ view_in c.args.boss.now.badge.views = ap view_in (sym c.into_seat-seat.ensures.2) ∙ ap (λ (b : Badge View). view_in b.views) c.replace.ensures.value in
    let same = ap (λ (z : View). z.consumers) c.number-caller.ensures.told.4 ∙ ap (λ (z : View). z.consumers) before in
    subst (Has k) (sym same) (c.requires.consumers k has)
