use Rattle.std.proofs.Common.{◌≡◌, ap, sym, ◌∙◌, subst, length, arith}
use Rattle.atomic_table.specs.declared.badge.Badge.{Badge}
use Rattle.queue_model.specs.declared.deeds.Deed.{Deed}
use Rattle.history_lock.specs.declared.view.View.{View}
use Rattle.held_table.specs.declared.view.Outset.{Outset}
use Rattle.held_table.specs.Seats.{Merged}
use Rattle.held_table.specs.Sights.{view}
use Rattle.held_table.specs.Views.{view_in, outset_in}
use Rattle.held_table.proofs.Costs.{rows_grow}
use Rattle.held_table.proofs.Parting.{is_joined, sits_merged}
use Rattle.held_table.proofs.table.Held.join.Goals as goal

pub overflow_add-into : goal.overflow_add-into
overflow_add-into g c =
    let v = view c.args.into.now in
    let w = view c.args.gone in
    let u = view_in c.into_badge.result.views in
    let before : c.into_seat-seat.result.me.0 ≡ v = ap view_in (sym c.into_seat-seat.ensures.2) ∙ ap (λ (b : Badge (View Outset Deed)). view_in b.views) c.replace.ensures.value in
    let other : c.into_seat.result.me.0 ≡ w = ap view_in (sym c.into_seat.ensures.2) in
    let later : u ≡ c.join_at.new.seat.me.0 = ap view_in c.into_badge.ensures.2 in
    let m : Merged g.Q.BareCore.keeps v w u = subst (λ (z : View Outset Deed × View Outset Deed × View Outset Deed). Merged g.Q.BareCore.keeps z.0 z.1 z.2) (λ i. (before i, other i, sym later i)) c.join_at.ensures.merged in
    let most = m.shared in
    let grown = rows_grow (outset_in v).opening u.seen in
    let rows = c.requires.into.rows in
    let entries = c.requires.into.entries in
    let a = c.args.into.now.shares in
    let b = c.args.gone.shares in
    let fits = c.args.self.now.fits in
    omega (arith, most, grown, rows, entries, a, b, fits)

pub returns-clause-serves : goal.returns-clause-serves
returns-clause-serves g c =
    let v = view c.args.into.now in
    let w = view c.args.gone in
    let u = view_in c.into_badge.result.views in
    let before : c.into_seat-seat.result.me.0 ≡ v = ap view_in (sym c.into_seat-seat.ensures.2) ∙ ap (λ (b : Badge (View Outset Deed)). view_in b.views) c.replace.ensures.value in
    let other : c.into_seat.result.me.0 ≡ w = ap view_in (sym c.into_seat.ensures.2) in
    let later : u ≡ c.join_at.new.seat.me.0 = ap view_in c.into_badge.ensures.2 in
    let m : Merged g.Q.BareCore.keeps v w u = subst (λ (z : View Outset Deed × View Outset Deed × View Outset Deed). Merged g.Q.BareCore.keeps z.0 z.1 z.2) (λ i. (before i, other i, sym later i)) c.join_at.ensures.merged in
    record {
      table = c.into_badge.ensures.0 ∙ c.join_at.ensures.table.0 ∙ c.into_seat-seat.ensures.0 ∙ ap (λ (b : Badge (View Outset Deed)). b.table_id) c.replace.ensures.value ∙ c.requires.into.table;
      rows = ap (λ (z : View Outset Deed). (outset_in z).rows) m.view ∙ c.requires.into.rows;
      entries = ap (λ (z : View Outset Deed). length (outset_in z).opening.rows) m.view ∙ c.requires.into.entries;
      sits = sits_merged g.Q.BareCore.keeps v w u c.args.into.now.caller c.args.gone.caller c.args.into.now.speaks c.args.gone.speaks m c.requires.into.sits c.requires.gone.sits c.requires.history;
    }

pub returns-clause-joined : goal.returns-clause-joined
returns-clause-joined g c =
    let v = view c.args.into.now in
    let w = view c.args.gone in
    let u = view_in c.into_badge.result.views in
    let before : c.into_seat-seat.result.me.0 ≡ v = ap view_in (sym c.into_seat-seat.ensures.2) ∙ ap (λ (b : Badge (View Outset Deed)). view_in b.views) c.replace.ensures.value in
    let other : c.into_seat.result.me.0 ≡ w = ap view_in (sym c.into_seat.ensures.2) in
    let later : u ≡ c.join_at.new.seat.me.0 = ap view_in c.into_badge.ensures.2 in
    let m : Merged g.Q.BareCore.keeps v w u = subst (λ (z : View Outset Deed × View Outset Deed × View Outset Deed). Merged g.Q.BareCore.keeps z.0 z.1 z.2) (λ i. (before i, other i, sym later i)) c.join_at.ensures.merged in
    is_joined g.Q.BareCore.keeps v w u c.args.into.now.caller c.args.gone.caller c.args.into.now.speaks c.args.gone.speaks m
