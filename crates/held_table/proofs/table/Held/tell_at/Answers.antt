use Rattle.std.proofs.Common.{ap, ◌∙◌}
use Rattle.queue_model.specs.declared.deeds.Deed.{Deed}
use Rattle.history_lock.specs.declared.view.View.{View}
use Rattle.held_table.specs.declared.view.Outset.{Outset}
use Rattle.held_table.specs.Views.{outset_in}
use Rattle.held_table.proofs.Parting.{told_by, live_told}
use Rattle.held_table.proofs.table.Held.tell_at.Goals as goal

pub look-requires-clause-live : goal.look-requires-clause-live
look-requires-clause-live g c = live_told c.args.seat.now.me.0 c.args.other.me.0 c.tell.new.into.me.0 c.args.caller c.requires.live.0 c.requires.live.1 (ap (λ m. m.0) c.tell.ensures.2)

pub returns-clause-told : goal.returns-clause-told
returns-clause-told g c =
    let v = c.args.seat.now.me.0 in
    let e = ap (λ m. m.0) c.tell.ensures.2 in
    told_by g.Q.BareCore.keeps v c.args.other.me.0 c.tell.new.into.me.0 c.look.new.seat.me.0 e
    (c.look.ensures.told (outset_in v) (ap (λ (x : View Outset Deed). x.opening) e ∙ c.requires.live.0)).1

pub returns-clause-table : goal.returns-clause-table
returns-clause-table g c =
    let v = c.args.seat.now.me.0 in
    let e = ap (λ m. m.0) c.tell.ensures.2 in (
      c.look.ensures.table.0 ∙ c.tell.ensures.0,
      c.look.ensures.table.1 ∙ c.tell.ensures.1,
      (c.look.ensures.told (outset_in v) (ap (λ (x : View Outset Deed). x.opening) e ∙ c.requires.live.0)).0 ∙ ap (λ m. m.1) c.tell.ensures.2 ∙ c.requires.idle.0,
    )
