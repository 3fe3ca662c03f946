use Rattle.std.proofs.Common.{◌≡◌, sym, ap, ◌∙◌, subst}
use Rattle.atomic_table.specs.declared.badge.Badge.{Badge}
use Rattle.std.proofs.Common.{None}
use Rattle.queue_model.specs.declared.deeds.Act.TheVariants as acts
use Rattle.queue_model.specs.declared.rows.RowState.TheVariants.{Locked}
use Rattle.queue_model.specs.declared.steps.Change.TheVariants.{Deq}
use Rattle.entry_table.specs.declared.view.View.{View}
use Rattle.entry_table.specs.Views.{view_in}
use Rattle.entry_table.specs.Plays.{DidChange}
use Rattle.entry_table.proofs.entries.Entries.dequeue_row.Goals as goal

pub returns-clause-changed : goal.returns-clause-changed
returns-clause-changed g c =
    let before : c.into_seat-seat.result.me.0 ≡ view_in c.args.pass.now.badge.views = ap view_in (sym c.into_seat-seat.ensures.2) ∙ ap (λ (b : Badge View). view_in b.views) c.replace.ensures.value in
    let later : c.dequeue_at.new.seat.me.0 ≡ view_in c.into_badge.result.views = ap view_in (sym c.into_badge.ensures.2) in
    let t = c.dequeue_at.ensures.told in
    (t.0, subst (λ (x : View × View). DidChange x.0 x.1 c.args.row Deq (Locked c.args.pass.now.caller) None (acts.Deq c.args.row) t.0) (λ i. (before i, later i)) t.1)
