use Rattle.std.proofs.Common.{◌≡◌, sym, ap, ◌∙◌, subst}
use Rattle.atomic_table.specs.declared.badge.Badge.{Badge}
use Rattle.entry_table.specs.declared.view.View.{View}
use Rattle.entry_table.specs.Views.{view_in}
use Rattle.entry_table.specs.Plays.{LinkAnswer}
use Rattle.entry_table.proofs.entries.Entries.try_link.Goals as goal

pub returns-clause-answer : goal.returns-clause-answer
returns-clause-answer g c =
    let before : c.into_seat-seat.result.me.0 ≡ view_in c.args.pass.now.badge.views = ap view_in (sym c.into_seat-seat.ensures.2) ∙ ap (λ (b : Badge View). view_in b.views) c.replace.ensures.value in
    let later : c.link_at-answer.new.seat.me.0 ≡ view_in c.into_badge.result.views = ap view_in (sym c.into_badge.ensures.2) in
    subst (λ (x : View × View). LinkAnswer g.C.Freight.goods c.args.after c.args.draft x.0 x.1 c.link_at-answer.result) (λ i. (before i, later i)) c.link_at-answer.ensures.answer
