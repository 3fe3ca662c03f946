use Rattle.std.proofs.Common.{◌≡◌, ◌+◌, ap, sym, ◌∙◌, subst, length}
use Rattle.atomic_table.specs.declared.badge.Badge.{Badge}
use Rattle.queue_model.specs.declared.deeds.Deed.{Deed}
use Rattle.history_lock.specs.declared.view.View.{View}
use Rattle.held_table.specs.declared.view.Outset.{Outset}
use Rattle.held_table.specs.Sights.{view}
use Rattle.held_table.specs.Turns.{Turned}
use Rattle.held_table.specs.Views.{view_in, outset_in, outset_or}
use Rattle.held_table.proofs.Calling.{called_turn, sits_turn}
use Rattle.held_table.proofs.table.Held.turn.Goals as goal

pub returns-clause-called : goal.returns-clause-called
returns-clause-called g c =
    let v = view c.args.pass.now in
    let w = view_in c.into_badge.result.views in
    let before : c.into_seat-seat.result.me.0 ≡ v = ap view_in (sym c.into_seat-seat.ensures.2) ∙ ap (λ (b : Badge (View Outset Deed)). view_in b.views) c.replace.ensures.value in
    let later : w ≡ c.turn_as-reply.new.seat.me.0 = ap view_in c.into_badge.ensures.2 in
    let t = c.turn_as-reply.ensures.turned in
    let kind = g.Q.BareCore.kind_of in
    let keeps = g.Q.BareCore.keeps in
    let call = g.W.Work.call c.args.work in
    let h = c.args.pass.now.caller in (
      t.0,
      called_turn keeps kind g.met.Q.BareCore.is_held (c.args.self.now.spare + c.args.self.now.entries) h v w c.args.pass.now.speaks c.requires.serves.sits call (g.W.Work.said t.0 c.turn_as-reply.result) c.requires.asks
          (subst (λ (z : View Outset Deed × View Outset Deed). Turned keeps kind (outset_in z.0) h z.0 z.1 call (g.W.Work.said t.0 c.turn_as-reply.result)) (λ i. (before i, sym later i)) t.1),
    )

pub returns-clause-serves : goal.returns-clause-serves
returns-clause-serves g c =
    let v = view c.args.pass.now in
    let w = view_in c.into_badge.result.views in
    let before : c.into_seat-seat.result.me.0 ≡ v = ap view_in (sym c.into_seat-seat.ensures.2) ∙ ap (λ (b : Badge (View Outset Deed)). view_in b.views) c.replace.ensures.value in
    let later : w ≡ c.turn_as-reply.new.seat.me.0 = ap view_in c.into_badge.ensures.2 in
    let t = c.turn_as-reply.ensures.turned in
    let kind = g.Q.BareCore.kind_of in
    let keeps = g.Q.BareCore.keeps in
    let call = g.W.Work.call c.args.work in
    let h = c.args.pass.now.caller in
    let turned : Turned keeps kind (outset_in v) h v w call (g.W.Work.said t.0 c.turn_as-reply.result) = subst (λ (z : View Outset Deed × View Outset Deed). Turned keeps kind (outset_in z.0) h z.0 z.1 call (g.W.Work.said t.0 c.turn_as-reply.result)) (λ i. (before i, sym later i)) t.1 in
    record {
      table = c.into_badge.ensures.0 ∙ c.turn_as-reply.ensures.table.0 ∙ c.into_seat-seat.ensures.0 ∙ ap (λ (b : Badge (View Outset Deed)). b.table_id) c.replace.ensures.value ∙ c.requires.serves.table;
      rows = ap (λ (z : View Outset Deed). (outset_or z.opening).rows) turned.view ∙ c.requires.serves.rows;
      entries = ap (λ (z : View Outset Deed). length (outset_or z.opening).opening.rows) turned.view ∙ c.requires.serves.entries;
      sits = sits_turn keeps kind g.met.Q.BareCore.is_held (c.args.self.now.spare + c.args.self.now.entries) h v w c.args.pass.now.speaks c.requires.serves.sits call (g.W.Work.said t.0 c.turn_as-reply.result) c.requires.asks turned;
    }
