use Rattle.std.proofs.Common.{◌≡◌, ◌∷◌, [], ◌++◌, ◌∙◌, ℕ, suc, List, length, length-append, append_assoc, Option, sym, ap, subst, arith}
use Rattle.std.specs.Prelude.{slice_index}
use Rattle.std.specs.Vec.Iter.{into_iter_items}
use Rattle.std.proofs.lemmas.List.{length-map}
use Rattle.acts_core.specs.declared.cargoes.RestEntry.{RestEntry}
use Rattle.txn_core.specs.declared.parcels.Parcel.{Parcel}
use Rattle.defs_read.specs.Defined.{defined, queues_in}
use Rattle.any_queue.specs.declared.kinds.AnyPass.{AnyPass}
use Rattle.any_queue.specs.declared.kinds.AnyQueue.{AnyQueue}
use Rattle.phase_queues.specs.Left.{Remains, MayGoOn, items_of, many_left}
use Rattle.phase_queues.specs.Opened.{IsOpened, OpenedSoFar}
use Rattle.phase_queues.proofs.Starting.{as_many_left, defined_at, few_consumers, few_priorities, one_more_opened, stay_at, turn_here, turn_low}
use Rattle.phase_queues.proofs.opening.open_all.Goals as goal

pub index-requires : goal.index-requires
index-requires g c =
    let i = c.loop-entries.invariant in
    let is = c.len-at.ensures in
    let ok = c.loop-entries.queues.ok in
    let long = i.opened.as_many in
    let at : c.len-at.result ≡ length c.loop-entries.yielded = omega (arith, is, ok, long) in
    let all = ap (λ (l : List Remains). c.loop-entries.yielded ++ l) (sym c.in-Some.ensures.steps.0) ∙ i.all ∙ c.into_iter-entries-iterator.ensures.into_iter_gives.0 in
    let many = as_many_left (queues_in c.args.defs.now) c.args.left.items c.requires.stay in
    let low = turn_low (queues_in c.args.defs.now) c.args.left.items c.loop-entries.yielded (into_iter_items c.next.new.self) c.in-Some.entries c.len-at.result many all at in
    let defs = length-map c.args.defs.now.queues.items defined in
    let also = c.args.defs.now.queues.ok in
    omega (arith, low, defs, also)

pub bounds-puts-at : goal.bounds-puts-at
bounds-puts-at g c =
    let i = c.loop-entries.invariant in
    let is = c.len-at.ensures in
    let ok = c.loop-entries.queues.ok in
    let long = i.opened.as_many in
    let at : c.len-at.result ≡ length c.loop-entries.yielded = omega (arith, is, ok, long) in
    let all = ap (λ (l : List Remains). c.loop-entries.yielded ++ l) (sym c.in-Some.ensures.steps.0) ∙ i.all ∙ c.into_iter-entries-iterator.ensures.into_iter_gives.0 in
    let many = as_many_left (queues_in c.args.defs.now) c.args.left.items c.requires.stay in
    let low = turn_low (queues_in c.args.defs.now) c.args.left.items c.loop-entries.yielded (into_iter_items c.next.new.self) c.in-Some.entries c.len-at.result many all at in
    let puts = c.requires.puts in
    omega (arith, low, puts)

pub open_queue-requires-clause-lists : goal.open_queue-requires-clause-lists
open_queue-requires-clause-lists g c =
    let i = c.loop-entries.invariant in
    let is = c.len-at.ensures in
    let ok = c.loop-entries.queues.ok in
    let long = i.opened.as_many in
    let at : c.len-at.result ≡ length c.loop-entries.yielded = omega (arith, is, ok, long) in
    let all = ap (λ (l : List Remains). c.loop-entries.yielded ++ l) (sym c.in-Some.ensures.steps.0) ∙ i.all ∙ c.into_iter-entries-iterator.ensures.into_iter_gives.0 in
    let many = as_many_left (queues_in c.args.defs.now) c.args.left.items c.requires.stay in
    let low = turn_low (queues_in c.args.defs.now) c.args.left.items c.loop-entries.yielded (into_iter_items c.next.new.self) c.in-Some.entries c.len-at.result many all at in
    let defs = length-map c.args.defs.now.queues.items defined in
    let def = defined_at c.args.defs.now.queues.items c.len-at.result c.index.result.now (omega (arith, low, defs)) c.index.ensures in
    few_priorities (queues_in c.args.defs.now) c.len-at.result (defined c.index.result.now) c.requires.allowed def

pub open_queue-requires-clause-consumers : goal.open_queue-requires-clause-consumers
open_queue-requires-clause-consumers g c =
    let i = c.loop-entries.invariant in
    let is = c.len-at.ensures in
    let ok = c.loop-entries.queues.ok in
    let long = i.opened.as_many in
    let at : c.len-at.result ≡ length c.loop-entries.yielded = omega (arith, is, ok, long) in
    let all = ap (λ (l : List Remains). c.loop-entries.yielded ++ l) (sym c.in-Some.ensures.steps.0) ∙ i.all ∙ c.into_iter-entries-iterator.ensures.into_iter_gives.0 in
    let many = as_many_left (queues_in c.args.defs.now) c.args.left.items c.requires.stay in
    let low = turn_low (queues_in c.args.defs.now) c.args.left.items c.loop-entries.yielded (into_iter_items c.next.new.self) c.in-Some.entries c.len-at.result many all at in
    let defs = length-map c.args.defs.now.queues.items defined in
    let def = defined_at c.args.defs.now.queues.items c.len-at.result c.index.result.now (omega (arith, low, defs)) c.index.ensures in
    let few = few_consumers (queues_in c.args.defs.now) c.len-at.result (defined c.index.result.now) c.requires.allowed def in
    let consumers = c.index.result.now.consumers.ok in
    omega (arith, few, consumers)

pub open_queue-requires-clause-stay : goal.open_queue-requires-clause-stay
open_queue-requires-clause-stay g c =
    let i = c.loop-entries.invariant in
    let is = c.len-at.ensures in
    let ok = c.loop-entries.queues.ok in
    let long = i.opened.as_many in
    let at : c.len-at.result ≡ length c.loop-entries.yielded = omega (arith, is, ok, long) in
    let all = ap (λ (l : List Remains). c.loop-entries.yielded ++ l) (sym c.in-Some.ensures.steps.0) ∙ i.all ∙ c.into_iter-entries-iterator.ensures.into_iter_gives.0 in
    let many = as_many_left (queues_in c.args.defs.now) c.args.left.items c.requires.stay in
    let low = turn_low (queues_in c.args.defs.now) c.args.left.items c.loop-entries.yielded (into_iter_items c.next.new.self) c.in-Some.entries c.len-at.result many all at in
    let defs = length-map c.args.defs.now.queues.items defined in
    let def = defined_at c.args.defs.now.queues.items c.len-at.result c.index.result.now (omega (arith, low, defs)) c.index.ensures in
    let here = turn_here c.args.left.items c.loop-entries.yielded (into_iter_items c.next.new.self) c.in-Some.entries c.len-at.result all at in
    subst (MayGoOn (defined c.index.result.now)) (ap items_of here) (stay_at (queues_in c.args.defs.now) c.args.left.items c.len-at.result (defined c.index.result.now) c.requires.stay def)

pub open_queue-requires-clause-room : goal.open_queue-requires-clause-room
open_queue-requires-clause-room g c =
    let i = c.loop-entries.invariant in
    let is = c.len-at.ensures in
    let ok = c.loop-entries.queues.ok in
    let long = i.opened.as_many in
    let at : c.len-at.result ≡ length c.loop-entries.yielded = omega (arith, is, ok, long) in
    let all = ap (λ (l : List Remains). c.loop-entries.yielded ++ l) (sym c.in-Some.ensures.steps.0) ∙ i.all ∙ c.into_iter-entries-iterator.ensures.into_iter_gives.0 in
    let many = as_many_left (queues_in c.args.defs.now) c.args.left.items c.requires.stay in
    let low = turn_low (queues_in c.args.defs.now) c.args.left.items c.loop-entries.yielded (into_iter_items c.next.new.self) c.in-Some.entries c.len-at.result many all at in
    let here = turn_here c.args.left.items c.loop-entries.yielded (into_iter_items c.next.new.self) c.in-Some.entries c.len-at.result all at in
    let room = c.requires.room c.len-at.result in
    let same : many_left c.len-at.result c.args.left.items ≡ length c.in-Some.entries.items = ap (λ (o : Option Remains). length (items_of o)) here in
    omega (arith, room, same)

pub push_reserved-requires : goal.push_reserved-requires
push_reserved-requires g c =
    let i = c.loop-entries.invariant in
    let is = c.len-at.ensures in
    let ok = c.loop-entries.queues.ok in
    let long = i.opened.as_many in
    let at : c.len-at.result ≡ length c.loop-entries.yielded = omega (arith, is, ok, long) in
    let all = ap (λ (l : List Remains). c.loop-entries.yielded ++ l) (sym c.in-Some.ensures.steps.0) ∙ i.all ∙ c.into_iter-entries-iterator.ensures.into_iter_gives.0 in
    let many = as_many_left (queues_in c.args.defs.now) c.args.left.items c.requires.stay in
    let low = turn_low (queues_in c.args.defs.now) c.args.left.items c.loop-entries.yielded (into_iter_items c.next.new.self) c.in-Some.entries c.len-at.result many all at in
    let room = i.room in
    omega (arith, low, is, room)

pub push_reserved-requires-in-loop-entries : goal.push_reserved-requires-in-loop-entries
push_reserved-requires-in-loop-entries g c =
    let i = c.loop-entries.invariant in
    let is = c.len-at.ensures in
    let ok = c.loop-entries.queues.ok in
    let long = i.opened.as_many in
    let at : c.len-at.result ≡ length c.loop-entries.yielded = omega (arith, is, ok, long) in
    let all = ap (λ (l : List Remains). c.loop-entries.yielded ++ l) (sym c.in-Some.ensures.steps.0) ∙ i.all ∙ c.into_iter-entries-iterator.ensures.into_iter_gives.0 in
    let many = as_many_left (queues_in c.args.defs.now) c.args.left.items c.requires.stay in
    let low = turn_low (queues_in c.args.defs.now) c.args.left.items c.loop-entries.yielded (into_iter_items c.next.new.self) c.in-Some.entries c.len-at.result many all at in
    let room = i.also in
    let passes = i.opened.passes in
    let bosses = c.loop-entries.bosses.ok in
    omega (arith, low, at, passes, bosses, room)

pub loop-entries-preserved : goal.loop-entries-preserved
loop-entries-preserved g c =
    let i = c.loop-entries.invariant in
    let is = c.len-at.ensures in
    let ok = c.loop-entries.queues.ok in
    let long = i.opened.as_many in
    let at : c.len-at.result ≡ length c.loop-entries.yielded = omega (arith, is, ok, long) in
    let all = ap (λ (l : List Remains). c.loop-entries.yielded ++ l) (sym c.in-Some.ensures.steps.0) ∙ i.all ∙ c.into_iter-entries-iterator.ensures.into_iter_gives.0 in
    let many = as_many_left (queues_in c.args.defs.now) c.args.left.items c.requires.stay in
    let low = turn_low (queues_in c.args.defs.now) c.args.left.items c.loop-entries.yielded (into_iter_items c.next.new.self) c.in-Some.entries c.len-at.result many all at in
    let defs = length-map c.args.defs.now.queues.items defined in
    let def = defined_at c.args.defs.now.queues.items c.len-at.result c.index.result.now (omega (arith, low, defs)) c.index.ensures in
    let here = turn_here c.args.left.items c.loop-entries.yielded (into_iter_items c.next.new.self) c.in-Some.entries c.len-at.result all at in
    let lefts = into_iter_items c.into_iter-entries-iterator.result in
    let given = c.into_iter-entries-iterator.ensures.into_iter_gives.0 in
    let so_far = subst (λ (z : ℕ × List Remains). OpenedSoFar z.0 (queues_in c.args.defs.now) z.1 c.args.puts.now c.loop-entries.queues.items c.loop-entries.bosses.items) (λ j. (sym at j, given j)) i.opened in
    let is_one = subst (λ (es : List (RestEntry Parcel)). IsOpened (defined c.index.result.now) es (slice_index c.args.puts.now c.len-at.result) c.in_ok-queue.queue c.in_ok-queue.boss) (sym (ap items_of here)) c.in_ok-queue.ensures in
    let more = one_more_opened (queues_in c.args.defs.now) c.args.left.items c.args.puts.now c.len-at.result c.loop-entries.queues.items c.loop-entries.bosses.items (defined c.index.result.now) c.in_ok-queue.queue c.in_ok-queue.boss so_far def is_one in
    let split = length-append c.loop-entries.yielded (c.in-Some.entries ∷ []) in
    let next : suc c.len-at.result ≡ length (c.loop-entries.yielded ++ c.in-Some.entries ∷ []) = omega (arith, split, at) in
    record {
      all = append_assoc c.loop-entries.yielded (c.in-Some.entries ∷ []) (into_iter_items c.next.new.self) ∙ ap (λ (l : List Remains). c.loop-entries.yielded ++ l) (sym c.in-Some.ensures.steps.0) ∙ i.all;
      long = let was = i.long in let gone = c.in-Some.ensures.steps.1 in let short = ap length c.in-Some.ensures.steps.0 in omega (arith, was, gone, short);
      opened = subst (λ (z : ℕ × List Remains × List (AnyQueue Parcel g.row.R.Denot) × List AnyPass). OpenedSoFar z.0 (queues_in c.args.defs.now) z.1 c.args.puts.now z.2 z.3)
          (λ j. (next j, sym given j, sym c.push_reserved.ensures.items j, sym c.push_reserved-in-loop-entries.ensures.items j)) more;
      room = let room = i.room in let same = c.push_reserved.ensures.capacity in omega (arith, room, same);
      also = let room = i.also in let same = c.push_reserved-in-loop-entries.ensures.capacity in omega (arith, room, same);
    }
