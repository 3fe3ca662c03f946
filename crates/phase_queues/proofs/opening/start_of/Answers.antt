use Rattle.std.proofs.Common.{◌∷◌, [], ◌++◌, ◌∙◌, List, length, length-append, append_assoc, refl, sym, ap, subst, arith}
use Rattle.std.specs.Vec.Iter.{into_iter_items}
use Rattle.acts_core.specs.declared.cargoes.RestEntry.{RestEntry}
use Rattle.txn_core.specs.declared.parcels.Parcel.{Parcel}
use Rattle.phase_queues.specs.Left.{AreCarried}
use Rattle.phase_queues.proofs.Starting.{one_more_carried, start_long}
use Rattle.phase_queues.proofs.opening.start_of.Goals as goal

pub push_reserved-requires : goal.push_reserved-requires
push_reserved-requires c =
    let i = c.loop-entry.invariant in
    let same = start_long c.loop-entry.yielded c.loop-entry.start.items i.carried in
    let all = ap length i.all in
    let split = length-append c.loop-entry.yielded (into_iter_items c.loop-entry.entry-iterator) in
    let next = ap length c.in-Some.ensures.steps.0 in
    let room = i.room in
    let ok = c.loop-entry.start.ok in
    omega (arith, same, all, split, next, room, ok)

pub loop-entry-preserved : goal.loop-entry-preserved
loop-entry-preserved c =
    let i = c.loop-entry.invariant in
    let entry = c.in-Some.entry in
    let steps = c.in-Some.ensures.steps.0 in
    record {
      all = append_assoc c.loop-entry.yielded (entry ∷ []) (into_iter_items c.next.new.self) ∙ ap (λ (l : List (RestEntry Parcel)). c.loop-entry.yielded ++ l) (sym steps) ∙ i.all;
      long = let was = i.long in let gone = c.in-Some.ensures.steps.1 in let short = ap length steps in omega (arith, was, gone, short);
      carried = subst (AreCarried (c.loop-entry.yielded ++ entry ∷ [])) (sym c.push_reserved.ensures.items)
          (one_more_carried c.loop-entry.yielded c.loop-entry.start.items entry (entry.slip, c.carried.new.self) i.carried refl c.carried.ensures);
      room = let room = i.room in let same = c.push_reserved.ensures.capacity in omega (arith, room, same);
    }
