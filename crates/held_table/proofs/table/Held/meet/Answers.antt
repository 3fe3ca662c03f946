use Rattle.std.proofs.Common.{◌≡◌, ap, sym, ◌∙◌, subst, length}
use Rattle.atomic_table.specs.declared.badge.Badge.{Badge}
use Rattle.queue_model.specs.declared.deeds.Deed.{Deed}
use Rattle.history_lock.specs.declared.view.View.{View}
use Rattle.held_table.specs.declared.view.Outset.{Outset}
use Rattle.held_table.specs.Seats.{Told}
use Rattle.held_table.specs.Sights.{Sits, sight, view, sight_by}
use Rattle.held_table.specs.Views.{view_in, outset_in}
use Rattle.held_table.proofs.Parting.{is_met, sits_told}
use Rattle.held_table.proofs.table.Held.meet.Goals as goal

pub returns-clause-same : goal.returns-clause-same
returns-clause-same g c =
    let before : c.into_seat-teller.result.me.0 ≡ view c.args.from.now = ap view_in (sym c.into_seat-teller.ensures.2) ∙ ap (λ (b : Badge (View Outset Deed)). view_in b.views) c.replace.ensures.value in
    let same : view_in c.into_badge.result.views ≡ view c.args.from.now = ap view_in c.into_badge.ensures.2 ∙ ap (λ m. m.0) c.note_at-note.ensures.views.0 ∙ before in
    ap (sight_by c.args.from.now.caller) same

pub returns-clause-serves : goal.returns-clause-serves
returns-clause-serves g c =
    let f = view c.args.from.now in
    let v = view c.args.to.now in
    let u = view_in c.into_badge-2.result.views in
    let first : c.into_seat-teller.result.me.0 ≡ f = ap view_in (sym c.into_seat-teller.ensures.2) ∙ ap (λ (b : Badge (View Outset Deed)). view_in b.views) c.replace.ensures.value in
    let same : view_in c.into_badge.result.views ≡ f = ap view_in c.into_badge.ensures.2 ∙ ap (λ m. m.0) c.note_at-note.ensures.views.0 ∙ first in
    let before : c.into_seat-seat.result.me.0 ≡ v = ap view_in (sym c.into_seat-seat.ensures.2) ∙ ap (λ (b : Badge (View Outset Deed)). view_in b.views) c.replace-2.ensures.value in
    let later : u ≡ c.tell_at.new.seat.me.0 = ap view_in c.into_badge-2.ensures.2 in
    let m : Told g.Q.BareCore.keeps v c.note_at-note.result.me.0 u = subst (λ (z : View Outset Deed × View Outset Deed). Told g.Q.BareCore.keeps z.0 c.note_at-note.result.me.0 z.1) (λ i. (before i, sym later i)) c.tell_at.ensures.told in (
      record {
        table = c.into_badge.ensures.0 ∙ c.note_at-note.ensures.table.0 ∙ c.into_seat-teller.ensures.0 ∙ ap (λ (b : Badge (View Outset Deed)). b.table_id) c.replace.ensures.value ∙ c.requires.from.table;
        rows = ap (λ (z : View Outset Deed). (outset_in z).rows) same ∙ c.requires.from.rows;
        entries = ap (λ (z : View Outset Deed). length (outset_in z).opening.rows) same ∙ c.requires.from.entries;
        sits = subst Sits (sym same) c.requires.from.sits;
      },
      record {
        table = c.into_badge-2.ensures.0 ∙ c.tell_at.ensures.table.0 ∙ c.into_seat-seat.ensures.0 ∙ ap (λ (b : Badge (View Outset Deed)). b.table_id) c.replace-2.ensures.value ∙ c.requires.to.table;
        rows = ap (λ (z : View Outset Deed). (outset_in z).rows) m.view ∙ c.requires.to.rows;
        entries = ap (λ (z : View Outset Deed). length (outset_in z).opening.rows) m.view ∙ c.requires.to.entries;
        sits = sits_told g.Q.BareCore.keeps v c.note_at-note.result.me.0 u c.args.to.now.caller c.args.to.now.speaks m c.requires.to.sits;
      },
    )

pub returns-clause-met : goal.returns-clause-met
returns-clause-met g c =
    let f = view c.args.from.now in
    let v = view c.args.to.now in
    let u = view_in c.into_badge-2.result.views in
    let first : c.into_seat-teller.result.me.0 ≡ f = ap view_in (sym c.into_seat-teller.ensures.2) ∙ ap (λ (b : Badge (View Outset Deed)). view_in b.views) c.replace.ensures.value in
    let before : c.into_seat-seat.result.me.0 ≡ v = ap view_in (sym c.into_seat-seat.ensures.2) ∙ ap (λ (b : Badge (View Outset Deed)). view_in b.views) c.replace-2.ensures.value in
    let later : u ≡ c.tell_at.new.seat.me.0 = ap view_in c.into_badge-2.ensures.2 in
    let m : Told g.Q.BareCore.keeps v c.note_at-note.result.me.0 u = subst (λ (z : View Outset Deed × View Outset Deed). Told g.Q.BareCore.keeps z.0 c.note_at-note.result.me.0 z.1) (λ i. (before i, sym later i)) c.tell_at.ensures.told in
    is_met g.Q.BareCore.keeps v c.note_at-note.result.me.0 u c.args.to.now.caller c.args.to.now.speaks m (sight c.args.from.now)
    (ap (λ (z : View Outset Deed). z.seen) (sym first) ∙ sym (ap (λ m. m.0.seen) c.note_at-note.ensures.views.1))
