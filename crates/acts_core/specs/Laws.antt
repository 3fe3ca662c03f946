-- the statements of the laws of calls, each proved as the contract of a function in src/laws.rt
use Rattle.std.specs.Prelude.{◌≡◌, ◌≢◌, ℕ, ◌*◌, ◌≤◌, false, Option, Some, None, List, [], ◌∷◌, ◌++◌}
use Rattle.std.specs.List.{AllByRecursion}
use mathlib.Core.List.{IsPrefix}
use Rattle.queue_model.specs.declared.deeds.Deed.{Deed}
use Rattle.queue_model.specs.declared.queues.Depth.{Depth}
use Rattle.queue_model.specs.declared.queues.Queue.{Queue}
use Rattle.queue_model.specs.declared.rows.Row.{Row}
use Rattle.queue_model.specs.declared.rows.RowState.TheVariants.{Locked}
use Rattle.queue_model.specs.History.{after, Legal, own, deeds_of}
use Rattle.queue_model.specs.Laws.{SameGoods}
use Rattle.queue_model.specs.Sound.{IsOpening}
use Rattle.queue_model.specs.State.{row_at, IsIn, reserved_by}
use Rattle.queue_model.specs.Table.{CanGive, most_bytes}
use Rattle.acts_core.specs.Asked.{touches, last_on, HasLeft, HasDequeued}
use Rattle.acts_core.specs.Calls.{Call, CallReserve, CallFind, CallUnlock, CallDequeue, Answer, IsDepth, IsFound, IsFreed, IsDone, acts_of}
use Rattle.acts_core.specs.Chains.{Made, Quiet, Chain, acts_in}
use Rattle.acts_core.specs.Hands.{Holds, InHand, Spares, Aims, gained, reserved_after, SamePass}
use Rattle.acts_core.specs.Load.{Load}
use Rattle.acts_core.specs.Meaning.{Meets, MeetsSight, Called}
use Rattle.acts_core.specs.Sight.{Build, Plan, plan_of, Sight, known}

-- Calls over histories

-- the meaning of a call with what its pass was shown is its meaning over histories
abbrev pub Forgets : Type 0
Forgets =
    (p : Plan) (old new : Sight) (call : Call) (answer : Answer)
    → MeetsSight p old new call answer → Meets p old.caller old.seen new.seen call answer

-- a row that h holds stays as it is, with its count, over a call that spares it
abbrev pub CallSpares : Type 0
CallSpares =
    (p : Plan) (h r : ℕ) (x : Row) (s0 s1 : List Deed) (call : Call) (answer : Answer)
    → Meets p h s0 s1 call answer → Spares r call → row_at (after p.opening s0) r ≡ Some x → x.state ≡ Locked h
    → row_at (after p.opening s1) r ≡ Some x

-- a row that a call gained is its caller's, with the cargo that was handed out, and none that the caller held before
abbrev pub CallGains : Type 0
CallGains =
    (p : Plan) (h : ℕ) (s0 s1 : List Deed) (call : Call) (answer : Answer) (r : ℕ) (load : Load)
    → Meets p h s0 s1 call answer → gained call answer ≡ Some (r, load)
    → Holds (after p.opening s1) h r load × ((e : ℕ) → IsIn (after p.opening s0) e (Locked h) → e ≢ r)

-- a row that was dequeued is the caller's to delete
abbrev pub CallDequeues : Type 0
CallDequeues =
    (p : Plan) (h r size : ℕ) (s0 s1 : List Deed) → Meets p h s0 s1 (CallDequeue r) (IsFreed size) → HasDequeued h r s1

-- a row that was left is the caller's to lock
abbrev pub CallLeaves : Type 0
CallLeaves =
    (p : Plan) (h r : ℕ) (load : Load) (s0 s1 : List Deed) → Meets p h s0 s1 (CallUnlock r load) IsDone → HasLeft h r s1

-- what a caller did last to a row stays so over a call whose acts don't touch it
abbrev pub CallPasses : Type 0
CallPasses =
    (p : Plan) (h r : ℕ) (s0 s1 : List Deed) (call : Call) (answer : Answer)
    → Meets p h s0 s1 call answer → AllByRecursion (λ a. touches r a ≡ false) (acts_of p call answer)
    → last_on r (own h s1) ≡ last_on r (own h s0)

-- a row once there stays, with its slip, content and origin
abbrev pub CallRows : Type 0
CallRows =
    (p : Plan) (h : ℕ) (s0 s1 : List Deed) (call : Call) (answer : Answer) (r : ℕ) (x : Row)
    → Meets p h s0 s1 call answer → row_at (after p.opening s0) r ≡ Some x
    → (y : Row) × (row_at (after p.opening s1) r ≡ Some y) × SameGoods x y

-- what find found is a row of that id
abbrev pub CallFinds : Type 0
CallFinds =
    (p : Plan) (h id r : ℕ) (s0 s1 : List Deed) → Meets p h s0 s1 (CallFind id) (IsFound (Some r))
    → (x : Row) × (row_at (after p.opening s1) r ≡ Some x) × (x.slip.id ≡ id)

-- what a caller has reserved after a call is what it had before, changed by that call and answer alone
abbrev pub CallReserved : Type 0
CallReserved =
    (p : Plan) (h : ℕ) (s0 s1 : List Deed) (call : Call) (answer : Answer)
    → IsOpening p.opening → Meets p h s0 s1 call answer
    → reserved_by (after p.opening s1) h ≡ reserved_after call answer (reserved_by (after p.opening s0) h)

-- what was reserved can be put, or given back
abbrev pub CallReserves : Type 0
CallReserves =
    (p : Plan) (h size : ℕ) (s0 s1 : List Deed) (d : Depth)
    → IsOpening p.opening → Meets p h s0 s1 (CallReserve size) (IsDepth d)
    → CanGive (reserved_by (after p.opening s1) h) size

-- what a caller has reserved has at most the bytes of the largest message for each entry
abbrev pub ReservedSmall : Type 0
ReservedSmall =
    (o : Queue) (h : ℕ) (seen : List Deed) → IsOpening o → Legal o seen
    → (reserved_by (after o seen) h).bytes ≤ most_bytes * (reserved_by (after o seen) h).entries

-- Calls on passes

-- a call leaves these of its pass
abbrev pub PassStays : Type 0
PassStays =
    (p : Plan) (old new : Sight) (call : Call) (answer : Answer) → MeetsSight p old new call answer → SamePass old new

-- and so the plan of its queue
abbrev pub PlanStays : Type 0
PlanStays =
    (build : Build) (old new : Sight) (call : Call) (answer : Answer)
    → Called build old new call answer → plan_of build new.opening ≡ plan_of build old.opening

-- a row that the call gained is the caller's, as it was handed out, and none that it held before
abbrev pub PassGains : Type 0
PassGains =
    (build : Build) (old new : Sight) (call : Call) (answer : Answer) (r : ℕ) (load : Load)
    → Called build old new call answer → gained call answer ≡ Some (r, load)
    → Holds (known new) new.caller r load × ((e : ℕ) → IsIn (known old) e (Locked old.caller) → e ≢ r)

-- it is in the caller's hands then, with a count of deliveries that may have risen since
abbrev pub PassHands : Type 0
PassHands =
    (build : Build) (old new : Sight) (call : Call) (answer : Answer) (r : ℕ) (load : Load) (n : ℕ)
    → Called build old new call answer → gained call answer ≡ Some (r, load) → load.count ≤ n
    → InHand new r (Some (record load { count = n }))

-- a row that was left is in the caller's hands
abbrev pub PassLeaves : Type 0
PassLeaves =
    (build : Build) (old new : Sight) (r : ℕ) (load : Load)
    → Called build old new (CallUnlock r load) IsDone → InHand new r None

-- a row that was dequeued is the caller's to delete
abbrev pub PassDequeues : Type 0
PassDequeues =
    (build : Build) (old new : Sight) (r size : ℕ)
    → Called build old new (CallDequeue r) (IsFreed size) → HasDequeued new.caller r new.seen

-- a call that aims at no more than one row keeps every other hand
abbrev pub PassKeeps : Type 0
PassKeeps =
    (build : Build) (old new : Sight) (call : Call) (answer : Answer) (r k : ℕ) (cargo : Option Load)
    → Called build old new call answer → Aims r call answer → k ≢ r → InHand old k cargo → InHand new k cargo

-- a row once there stays, with its slip, content and origin
abbrev pub PassRows : Type 0
PassRows =
    (build : Build) (old new : Sight) (call : Call) (answer : Answer) (r : ℕ) (x : Row)
    → Called build old new call answer → row_at (known old) r ≡ Some x
    → (y : Row) × (row_at (known new) r ≡ Some y) × SameGoods x y

-- what find found is a row of that id
abbrev pub PassFinds : Type 0
PassFinds =
    (build : Build) (old new : Sight) (id r : ℕ) → Called build old new (CallFind id) (IsFound (Some r))
    → (x : Row) × (row_at (known new) r ≡ Some x) × (x.slip.id ≡ id)

-- what the caller has reserved is what it had, changed by that call and answer alone
abbrev pub PassReserved : Type 0
PassReserved =
    (build : Build) (old new : Sight) (call : Call) (answer : Answer)
    → IsOpening old.opening → Called build old new call answer
    → reserved_by (known new) new.caller ≡ reserved_after call answer (reserved_by (known old) old.caller)

-- what was reserved can be put, or given back
abbrev pub PassReserves : Type 0
PassReserves =
    (build : Build) (old new : Sight) (size : ℕ) (d : Depth)
    → IsOpening old.opening → Called build old new (CallReserve size) (IsDepth d)
    → CanGive (reserved_by (known new) new.caller) size

-- Calls of one caller, one after the other

-- a chain may end later, where its caller does nothing until then
abbrev pub ChainLater : Type 0
ChainLater =
    (p : Plan) (h : ℕ) (a : List Deed) (ms : List Made) (b c : List Deed)
    → Chain p h a ms b → Quiet h b c → Chain p h a ms c

-- two chains in a row are one
abbrev pub ChainAppend : Type 0
ChainAppend =
    (p : Plan) (h : ℕ) (a : List Deed) (ms : List Made) (b : List Deed) (ns : List Made) (c : List Deed)
    → Chain p h a ms b → Chain p h b ns c → Chain p h a (ms ++ ns) c

-- one call is a chain
abbrev pub ChainOne : Type 0
ChainOne = (p : Plan) (h : ℕ) (m : Made) → Meets p h m.before m.later m.call m.answer → Chain p h m.before (m ∷ []) m.later

-- the own acts of a chain are the acts of its calls
abbrev pub ChainOwn : Type 0
ChainOwn =
    (p : Plan) (h : ℕ) (a : List Deed) (ms : List Made) (b : List Deed)
    → Chain p h a ms b → own h b ≡ own h a ++ deeds_of h (acts_in p ms)

-- a chain leads on
abbrev pub ChainGrows : Type 0
ChainGrows = (p : Plan) (h : ℕ) (a : List Deed) (ms : List Made) (b : List Deed) → Chain p h a ms b → IsPrefix a b

-- A caller's chain up to what it had seen is a chain in the whole history, and its own deeds there are the acts of its
-- calls, where what it had seen has all its deeds.
abbrev pub OneHistory : Type 0
OneHistory =
    (p : Plan) (h : ℕ) (ms : List Made) (seen all : List Deed)
    → Chain p h [] ms seen → IsPrefix seen all → own h all ≡ own h seen
    → Chain p h [] ms all × (own h all ≡ deeds_of h (acts_in p ms))
