use Rattle.std.proofs.Common.{◌≡◌, ◌+◌, ap, sym, ◌∙◌, subst, length}
use Rattle.atomic_table.specs.declared.badge.Badge.{Badge}
use Rattle.queue_model.specs.declared.deeds.Deed.{Deed}
use Rattle.history_lock.specs.declared.view.View.{View}
use Rattle.held_table.specs.declared.view.Outset.{Outset}
use Rattle.held_table.specs.Sights.{view}
use Rattle.held_table.specs.Turns.{Passed}
use Rattle.held_table.specs.Views.{view_in, outset_in, outset_or}
use Rattle.held_table.proofs.Calling.{sits_passed}
use Rattle.held_table.proofs.table.Held.skip.Goals as goal

pub returns-clause-passed : goal.returns-clause-passed
returns-clause-passed g c =
    let before : c.into_seat-seat.result.me.0 ≡ view c.args.pass.now = ap view_in (sym c.into_seat-seat.ensures.2) ∙ ap (λ (b : Badge (View Outset Deed)). view_in b.views) c.replace.ensures.value in
    let later : view_in c.into_badge.result.views ≡ c.skip_at.new.seat.me.0 = ap view_in c.into_badge.ensures.2 in
    subst (λ (z : View Outset Deed × View Outset Deed). Passed g.Q.BareCore.keeps (outset_in z.0) z.0 z.1) (λ i. (before i, sym later i)) c.skip_at.ensures.passed

pub returns-clause-serves : goal.returns-clause-serves
returns-clause-serves g c =
    let v = view c.args.pass.now in
    let w = view_in c.into_badge.result.views in
    let before : c.into_seat-seat.result.me.0 ≡ v = ap view_in (sym c.into_seat-seat.ensures.2) ∙ ap (λ (b : Badge (View Outset Deed)). view_in b.views) c.replace.ensures.value in
    let later : w ≡ c.skip_at.new.seat.me.0 = ap view_in c.into_badge.ensures.2 in
    let passed : Passed g.Q.BareCore.keeps (outset_in v) v w = subst (λ (z : View Outset Deed × View Outset Deed). Passed g.Q.BareCore.keeps (outset_in z.0) z.0 z.1) (λ i. (before i, sym later i)) c.skip_at.ensures.passed in
    record {
      table = c.into_badge.ensures.0 ∙ c.skip_at.ensures.table.0 ∙ c.into_seat-seat.ensures.0 ∙ ap (λ (b : Badge (View Outset Deed)). b.table_id) c.replace.ensures.value ∙ c.requires.serves.table;
      rows = ap (λ (z : View Outset Deed). (outset_or z.opening).rows) passed.view ∙ c.requires.serves.rows;
      entries = ap (λ (z : View Outset Deed). length (outset_or z.opening).opening.rows) passed.view ∙ c.requires.serves.entries;
      sits = sits_passed g.Q.BareCore.keeps g.Q.BareCore.kind_of g.met.Q.BareCore.is_held (c.args.self.now.spare + c.args.self.now.entries) c.args.pass.now.caller v w c.args.pass.now.speaks c.requires.serves.sits passed;
    }
