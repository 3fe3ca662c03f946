use Rattle.std.proofs.Common.{◌≡◌, ◌∙◌, sym, ap, refl, ℕ, ◌∷◌}
use Rattle.journal_format.specs.declared.events.Event.{Event}
use Rattle.atomic_table.specs.declared.badge.Badge.{Badge}
use Rattle.history_lock.specs.declared.view.View.{View}
use Rattle.commit_table.specs.declared.begun.Begun.{Begun}
use Rattle.commit_table.specs.Passes.{view_in, begun_in, rest_of}
use Rattle.commit_table.proofs.table.CommitTable.split.Goals as goal

pub number-caller-requires-clause-live : goal.number-caller-requires-clause-live
number-caller-requires-clause-live g c =
    let p = c.args.boss.now in
    let v = view_in p.badge.views in
    let before : c.into_seat-seat.result.me.0 ≡ v = ap view_in (sym c.into_seat-seat.ensures.2) ∙ ap (λ (b : Badge (View Begun Event)). view_in b.views) c.replace.ensures.value in (
      begun_in v,
      record {
        opening = ap (λ (x : View Begun Event). x.opening) before ∙ p.begins;
        caller = 0;
        ended = rest_of v.callers;
        speaks = ap (λ (x : View Begun Event). x.callers) before ∙ (p.speaks ∙ ap (λ (k : ℕ). k ∷ rest_of v.callers) c.requires.boss);
      },
      refl,
    )

pub part-requires-clause-live : goal.part-requires-clause-live
part-requires-clause-live g c κs within =
    let p = c.args.boss.now in
    let v = view_in p.badge.views in
    let before : c.into_seat-seat.result.me.0 ≡ v = ap view_in (sym c.into_seat-seat.ensures.2) ∙ ap (λ (b : Badge (View Begun Event)). view_in b.views) c.replace.ensures.value in
    let begun = ap (λ (x : View Begun Event). x.opening) before ∙ p.begins in
    let n = (c.number-caller.ensures.told (begun_in v) begun).1 in
    ((begun_in v, ap (λ (x : View Begun Event). x.opening) n.view ∙ begun), ap (λ (x : View Begun Event). x.holding) n.view ∙ (ap (λ (x : View Begun Event). x.holding) before ∙ p.idle))
