use Rattle.std.proofs.Common.{ap}
use Rattle.queue_model.specs.declared.deeds.Deed.{Deed}
use Rattle.history_lock.specs.declared.view.View.{View}
use Rattle.held_table.specs.declared.view.Outset.{Outset}
use Rattle.held_table.specs.Views.{outset_in, rest_of}
use Rattle.held_table.proofs.Turning.{leaves, passed}
use Rattle.held_table.proofs.table.Held.skip_at.Goals as goal

pub leave-requires-clause-out : goal.leave-requires-clause-out
leave-requires-clause-out g c =
    let v = c.args.seat.now.me.0 in
    (c.lock-core.ensures.out, ap (λ (x : View Outset Deed). x.holding) (c.lock-core.ensures.took (outset_in v) c.requires.live.0).view)

pub leave-requires-clause-owes : goal.leave-requires-clause-owes
leave-requires-clause-owes g c =
    let v = c.args.seat.now.me.0 in
    leaves g.Q.BareCore.keeps g.Q.BareCore.kind_of v c.lock-core.new.seat.me.0 c.lock-core.result c.args.caller (rest_of v.callers) c.requires.live.0 c.requires.live.1 (c.lock-core.ensures.took (outset_in v) c.requires.live.0)

pub returns-clause-passed : goal.returns-clause-passed
returns-clause-passed g c =
    let v = c.args.seat.now.me.0 in
    passed g.Q.BareCore.keeps g.Q.BareCore.kind_of v c.lock-core.new.seat.me.0 c.lock-core.result c.args.caller (rest_of v.callers) c.requires.live.0 c.requires.live.1 (c.lock-core.ensures.took (outset_in v) c.requires.live.0) c.leave.new.seat.me.0 c.requires.idle.1 (ap (λ m. m.0) c.leave.ensures.gave)
