use Rattle.std.proofs.Common.{◌∷◌, [], List, length, length-append, sym, ap, subst, arith}
use Rattle.any_queue.specs.declared.kinds.AnyPass.{AnyPass}
use Rattle.any_queue.specs.declared.kinds.AnyQueue.{AnyQueue}
use Rattle.txn_core.specs.declared.parcels.Parcel.{Parcel}
use Rattle.phase_queues.proofs.Leaves.{Leaving, is_last, leaves_one, leaving_begins, serves_last}
use Rattle.phase_queues.proofs.closing.close_all.Goals as goal

pub queues-init : goal.queues-init
queues-init g c =
    let same = c.requires.bosses in
    let a = c.args.queues.ok in
    let b = c.args.bosses.ok in
    let l = c.args.left.now.ok in
    let none = ap length c.requires.left.0 in
    let room = c.requires.left.1 in
    record {
      leaving = leaving_begins c.args.queues.items c.args.bosses.items c.args.left.now.items (omega (arith, same, a, b)) c.requires.left.0;
      room = omega (arith, l, none, room);
    }

pub close-requires-clause-serves : goal.close-requires-clause-serves
close-requires-clause-serves g c κs within =
    let l = subst (λ (t : List (AnyQueue Parcel g.row.R.Denot) × List AnyPass). Leaving c.args.queues.items c.args.bosses.items t.0 t.1 c.queues.left.items) (λ i. (c.in-Some.ensures.items i, c.in-Some-pop.ensures.items i)) c.queues.invariant.leaving in
    serves_last c.args.queues.items c.args.bosses.items c.pop.new.self.items c.pop-in-Some.new.self.items c.in-Some.queue c.in-Some-pop.boss c.queues.left.items l c.requires.serves

pub close-requires-clause-last : goal.close-requires-clause-last
close-requires-clause-last g c κs within =
    let l = subst (λ (t : List (AnyQueue Parcel g.row.R.Denot) × List AnyPass). Leaving c.args.queues.items c.args.bosses.items t.0 t.1 c.queues.left.items) (λ i. (c.in-Some.ensures.items i, c.in-Some-pop.ensures.items i)) c.queues.invariant.leaving in
    is_last c.args.queues.items c.args.bosses.items c.pop.new.self.items c.pop-in-Some.new.self.items c.in-Some.queue c.in-Some-pop.boss c.queues.left.items l c.requires.last

pub queues-preserved : goal.queues-preserved
queues-preserved g c =
    let l = subst (λ (t : List (AnyQueue Parcel g.row.R.Denot) × List AnyPass). Leaving c.args.queues.items c.args.bosses.items t.0 t.1 c.queues.left.items) (λ i. (c.in-Some.ensures.items i, c.in-Some-pop.ensures.items i)) c.queues.invariant.leaving in
    let more = leaves_one c.args.queues.items c.args.bosses.items c.pop.new.self.items c.pop-in-Some.new.self.items c.in-Some.queue c.in-Some-pop.boss c.queues.left.items l c.close.result
    (record {
      closed = c.close.ensures.closed;
      keys = c.close.ensures.keys;
    }) in
    let room = c.queues.invariant.room in
    let long = c.push_reserved.ensures.len in
    let wide = c.push_reserved.ensures.capacity in
    let items = ap length c.in-Some.ensures.items in
    let split = length-append c.pop.new.self.items (c.in-Some.queue ∷ []) in
    let a = c.queues.queues.ok in
    let b = c.pop.new.self.ok in
    record {
      leaving = subst (Leaving c.args.queues.items c.args.bosses.items c.pop.new.self.items c.pop-in-Some.new.self.items) (sym c.push_reserved.ensures.items) more;
      room = omega (arith, room, long, wide, items, split, a, b);
    }
