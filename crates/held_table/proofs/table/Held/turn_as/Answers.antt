use Rattle.std.proofs.Common.{refl, ap, sym, subst, inl}
use Rattle.queue_model.specs.declared.deeds.Deed.{Deed}
use Rattle.history_lock.specs.declared.view.View.{View}
use Rattle.history_lock.specs.Views.{Has}
use Rattle.held_table.specs.declared.view.Outset.{Outset}
use Rattle.held_table.specs.Views.{outset_in, rest_of}
use Rattle.held_table.proofs.Turning.{may, has_room, finishes, ends}
use Rattle.held_table.proofs.table.Held.turn_as.Goals as goal

pub run-reply-requires-clause-may : goal.run-reply-requires-clause-may
run-reply-requires-clause-may g c =
    let v = c.args.seat.now.me.0 in
    may g.Q.BareCore.keeps g.Q.BareCore.kind_of v c.lock-core.new.seat.me.0 c.lock-core.result c.args.caller (g.W.Work.call c.args.work) c.requires.sits (subst (Has c.args.caller) (sym c.requires.live.1) (inl refl)) (c.lock-core.ensures.took (outset_in v) c.requires.live.0) c.requires.asks

pub run-reply-requires-clause-spare : goal.run-reply-requires-clause-spare
run-reply-requires-clause-spare g c =
    let v = c.args.seat.now.me.0 in
    has_room g.Q.BareCore.keeps g.Q.BareCore.kind_of v c.lock-core.new.seat.me.0 c.lock-core.result c.args.caller (g.W.Work.call c.args.work) c.requires.sits (subst (Has c.args.caller) (sym c.requires.live.1) (inl refl)) (c.lock-core.ensures.took (outset_in v) c.requires.live.0) c.requires.asks

pub finish-requires-clause-out : goal.finish-requires-clause-out
finish-requires-clause-out g c =
    let v = c.args.seat.now.me.0 in
    (c.lock-core.ensures.out, ap (λ (x : View Outset Deed). x.holding) (c.lock-core.ensures.took (outset_in v) c.requires.live.0).view)

pub finish-requires-clause-owes : goal.finish-requires-clause-owes
finish-requires-clause-owes g c =
    let v = c.args.seat.now.me.0 in
    let s = c.run-reply.ensures.serves in
    finishes g.Q.BareCore.keeps g.Q.BareCore.kind_of v c.lock-core.new.seat.me.0 c.lock-core.result c.run-reply.new.core c.args.caller (rest_of v.callers) (g.W.Work.call c.args.work) g.J.Doing.call (g.W.Work.said s.0 c.run-reply.result) _
    c.requires.sits c.requires.live.0 c.requires.live.1 (c.lock-core.ensures.took (outset_in v) c.requires.live.0) c.requires.asks s.1 c.requires.call (g.met.W.Work.alike s.0 c.run-reply.result)

pub returns-clause-turned : goal.returns-clause-turned
returns-clause-turned g c =
    let v = c.args.seat.now.me.0 in
    let s = c.run-reply.ensures.serves in (
      s.0,
      ends g.Q.BareCore.keeps g.Q.BareCore.kind_of v c.lock-core.new.seat.me.0 c.lock-core.result c.run-reply.new.core c.args.caller (rest_of v.callers) (g.W.Work.call c.args.work) g.J.Doing.call (g.W.Work.said s.0 c.run-reply.result) _
          c.requires.sits c.requires.live.0 c.requires.live.1 (c.lock-core.ensures.took (outset_in v) c.requires.live.0) c.requires.asks s.1 c.requires.call (g.met.W.Work.alike s.0 c.run-reply.result) c.finish.new.seat.me.0 c.requires.idle.1 (ap (λ m. m.0) c.finish.ensures.gave),
    )
