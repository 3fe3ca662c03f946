use Rattle.std.proofs.Common.{ap, ◌∙◌}
use Rattle.queue_model.specs.declared.deeds.Deed.{Deed}
use Rattle.history_lock.specs.declared.view.View.{View}
use Rattle.held_table.specs.declared.view.Outset.{Outset}
use Rattle.held_table.specs.Views.{outset_in}
use Rattle.held_table.proofs.Parting.{merged_of, live_merged}
use Rattle.held_table.proofs.table.Held.join_at.Goals as goal

pub look-requires-clause-live : goal.look-requires-clause-live
look-requires-clause-live g c = live_merged c.args.seat.now.me.0 c.args.other.me.0 c.join.new.into.me.0 c.args.caller c.requires.live.0 c.requires.live.1 (ap (λ m. m.0) c.join.ensures.2)

pub returns-clause-merged : goal.returns-clause-merged
returns-clause-merged g c =
    let v = c.args.seat.now.me.0 in
    let e = ap (λ m. m.0) c.join.ensures.2 in
    merged_of g.Q.BareCore.keeps v c.args.other.me.0 c.join.new.into.me.0 c.look.new.seat.me.0 c.args.caller c.requires.live.0 c.requires.live.1 e
    (c.look.ensures.told (outset_in v) (ap (λ (x : View Outset Deed). x.opening) e ∙ c.requires.live.0)).1

pub returns-clause-table : goal.returns-clause-table
returns-clause-table g c =
    let v = c.args.seat.now.me.0 in
    let e = ap (λ m. m.0) c.join.ensures.2 in (
      c.look.ensures.table.0 ∙ c.join.ensures.0,
      c.look.ensures.table.1 ∙ c.join.ensures.1,
      (c.look.ensures.told (outset_in v) (ap (λ (x : View Outset Deed). x.opening) e ∙ c.requires.live.0)).0 ∙ ap (λ m. m.1) c.join.ensures.2 ∙ c.requires.idle.0,
    )
