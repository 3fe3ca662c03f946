use Rattle.std.proofs.Common.{◌≡◌, sym, ap, ◌∙◌, subst}
use Rattle.atomic_table.specs.declared.badge.Badge.{Badge}
use Rattle.entry_table.specs.declared.view.View.{View}
use Rattle.entry_table.specs.Views.{view_in}
use Rattle.entry_table.specs.Skips.{Moves}
use Rattle.entry_table.proofs.Skipped.{did_move}
use Rattle.entry_table.proofs.entries.Entries.move_link.Goals as goal

pub returns-clause-moves : goal.returns-clause-moves
returns-clause-moves g c =
    let before : c.into_seat-seat.result.me.0 ≡ view_in c.args.pass.now.badge.views = ap view_in (sym c.into_seat-seat.ensures.2) ∙ ap (λ (b : Badge View). view_in b.views) c.replace.ensures.value in
    let later : c.unlink_at-found.new.seat.me.0 ≡ view_in c.into_badge.result.views = ap view_in (sym c.into_badge.ensures.2) in
    subst (λ (x : View × View). Moves x.0 x.1 c.args.at c.args.from c.args.to c.unlink_at-found.result) (λ i. (before i, later i))
    (did_move c.args.at c.args.from c.args.to c.into_seat-seat.result.me c.unlink_at-found.result c.unlink_at-found.new.seat.me c.unlink_at-found.ensures.told)
