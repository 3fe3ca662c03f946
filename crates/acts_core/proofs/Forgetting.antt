-- what a pass was shown is forgotten
use Rattle.std.proofs.Common.{ℕ, Bool, true, false, Some, None, List}
use Rattle.queue_model.specs.declared.deeds.Deed.{Deed}
use Rattle.queue_model.specs.declared.queues.Queue.{Queue}
use Rattle.queue_model.specs.declared.rows.Row.{Row}
use Rattle.queue_model.specs.declared.rows.RowState.{RowState}
use Rattle.queue_model.specs.declared.steps.Tried.{Tried}
use Rattle.acts_core.specs.Calls.{Call, CallDepth, CallNext, CallOldest, CallFind, CallLock, CallSteal, Answer, IsDepth, IsGot, IsEmpty, IsFound, IsStolen, IsNotStealable, IsMoved}
use Rattle.acts_core.specs.Lists.{Begins, EachDue, Saw, SawOther, ListMeans}
use Rattle.acts_core.specs.Meaning.{Besides, Meets, MeetsSight}
use Rattle.acts_core.specs.Sight.{Kind, Listed, Plan, Sight, Forgotten, Showed}

begins_less : (added : List Tried) (bells : Bool) (h c l : ℕ) (s0 s1 b : List Deed) → Begins (Showed added) bells h c l s0 s1 b → Begins Forgotten bells h c l s0 s1 b
begins_less added true h c l s0 s1 b x = x
begins_less added false h c l s0 s1 b x = (x.0, tt)

due_less : (added : List Tried) (bells : Bool) (h c l : ℕ) (s0 s1 : List Deed) (o : Queue) (m : ℕ) (Fact : List Deed → Row → Type 0) → EachDue o m (Begins (Showed added) bells h c l s0 s1) Fact → EachDue o m (Begins Forgotten bells h c l s0 s1) Fact
due_less added bells h c l s0 s1 o m Fact d = (d.0, begins_less added bells h c l s0 s1 d.0 d.1, d.2)

saw_less : (added : List Tried) (o : Queue) (s0 s1 : List Deed) (r : ℕ) (s : RowState) (m : List Deed) → Saw (Showed added) o s0 s1 r s m → Saw Forgotten o s0 s1 r s m
saw_less added o s0 s1 r s m x = record { between = x.between; state = x.state; told = tt }

other_less : (added : List Tried) (o : Queue) (s0 s1 : List Deed) (r : ℕ) (s : RowState) (Other : Type 0) → SawOther (Showed added) o s0 s1 r s Other → SawOther Forgotten o s0 s1 r s Other
other_less added o s0 s1 r s Other x = record { other = x.other; moment = x.moment; saw = saw_less added o s0 s1 r s x.moment x.saw }

list_less : (added : List Tried) (p : Plan) (h : ℕ) (s0 s1 : List Deed) (call : Call) (answer : Answer) → ListMeans (Showed added) p h s0 s1 call answer → ListMeans Forgotten p h s0 s1 call answer
list_less added p h s0 s1 CallDepth (IsDepth d) b = record { moment = b.moment; between = b.between; state = b.state; told = tt }
list_less added p h s0 s1 (CallNext c) (IsGot r l load) b = record { gets = b.gets; passed = λ m low high. due_less added p.bells h c m s0 s1 p.opening m _ (b.passed m low high) }
list_less added p h s0 s1 (CallNext c) IsEmpty b = λ m high. due_less added p.bells h c m s0 s1 p.opening m _ (b m high)
list_less added p h s0 s1 CallOldest (IsGot r l load) b = record { gets = b.gets; passed = λ m low. due_less added false h 0 m s0 s1 p.opening m _ (b.passed m low) }
list_less added p h s0 s1 CallOldest IsEmpty b = λ m high. due_less added false h 0 m s0 s1 p.opening m _ (b m high)
list_less added p h s0 s1 (CallFind id) (IsFound (Some r)) b =
    record { moment = b.moment; between = b.between; row = b.row; found = b.found; same = b.same; there = b.there; passed = λ m low high. due_less added false h 0 m s0 s1 p.opening m _ (b.passed m low high) }
list_less added p h s0 s1 (CallFind id) (IsFound None) b = λ m high. due_less added false h 0 m s0 s1 p.opening m _ (b m high)
list_less added p h s0 s1 (CallLock r) (IsStolen s) b = other_less added p.opening s0 s1 r s _ b
list_less added p h s0 s1 (CallSteal r) (IsNotStealable s) b = other_less added p.opening s0 s1 r s _ b
list_less added p h s0 s1 (CallSteal r) (IsMoved s) b =
    record { owner = b.owner; first = b.first; second = b.second; left = saw_less added p.opening s0 s1 r _ b.first b.left; moved = saw_less added p.opening s0 s1 r s b.second b.moved; order = b.order; other = b.other }
list_less added p h s0 s1 call answer b = b

besides_less : (added : List Tried) (p : Plan) (h : ℕ) (s0 s1 : List Deed) (call : Call) (answer : Answer) (kind : Kind) → Besides (Showed added) p h s0 s1 call answer kind → Besides Forgotten p h s0 s1 call answer kind
besides_less added p h s0 s1 call answer Listed b = list_less added p h s0 s1 call answer b
besides_less added p h s0 s1 call answer kind b = b

-- the meaning of a call with what its pass was shown is its meaning over histories
pub forgets : (p : Plan) (old new : Sight) (call : Call) (answer : Answer) → MeetsSight p old new call answer → Meets p old.caller old.seen new.seen call answer
forgets p old new call answer m = record {
  grows = m.meets.grows;
  legal = m.meets.legal;
  own_acts = m.meets.own_acts;
  besides = besides_less m.added p old.caller old.seen new.seen call answer p.kind m.meets.besides;
}
