-- what the answers of a listed queue tell: calls look at one row after the other, while others go on
use Rattle.std.specs.Prelude.{◌≡◌, ◌≢◌, ℕ, ◌<◌, ◌≤◌, Bool, true, false, Some, None, List}
use mathlib.Core.List.{IsPrefix}
use Rattle.queue_model.specs.declared.deeds.Act.{Act}
use Rattle.queue_model.specs.declared.deeds.Act.TheVariants.{Acq, Lock, Steal, Reserve, Take}
use Rattle.queue_model.specs.declared.deeds.Deed.{Deed}
use Rattle.queue_model.specs.declared.queues.Depth.{Depth}
use Rattle.queue_model.specs.declared.queues.Queue.{Queue}
use Rattle.queue_model.specs.declared.rows.Row.{Row}
use Rattle.queue_model.specs.declared.rows.RowState.{RowState}
use Rattle.queue_model.specs.declared.rows.RowState.TheVariants.{Available, Unlocked, Deleted}
use Rattle.queue_model.specs.History.{after, deed}
use Rattle.queue_model.specs.Order.{Precedes, IsOlder, ByList}
use Rattle.queue_model.specs.Packing.{pack_state, pack_depth}
use Rattle.queue_model.specs.State.{row_at, IsIn, depth}
use Rattle.acts_core.specs.Calls.{Call, CallDepth, CallReserve, CallGiveBack, CallPut, CallNext, CallOldest, CallFind, CallLock, CallUnlock, CallRelease, CallSteal, CallDequeue, CallDelete, Answer, IsDepth, IsAt, IsSpent, IsGot, IsEmpty, IsFound, IsLocked, IsStolen, IsReleased, HasStolen, IsNotStealable, IsMoved, IsFreed, IsDone}
use Rattle.acts_core.specs.Load.{Load}
use Rattle.acts_core.specs.Moments.{Between, JustBefore, IsRow, HandsOut, HasMask, HasSize}
use Rattle.acts_core.specs.Owed.{is_available, is_free, mark, Looked}
use Rattle.acts_core.specs.Sight.{Plan, on_state_of, on_depth, Evidence, Told, Starts}

-- In all of this v is what is known of the call's steps, p the queue's plan, h the caller, and s0 and s1 the histories
-- at the beginning and the end of the call.

-- Where a walk of a list begins

-- where a list begins that consumer c walks: just before its bell is taken, where bells are used, and else at the
-- call's first step on the list's head link
abbrev pub Begins : Evidence → Bool → ℕ → ℕ → ℕ → List Deed → List Deed → List Deed → Type 0
Begins v true h c l s0 s1 b = JustBefore s0 s1 (deed h (Take c l)) b
Begins v false h c l s0 s1 b = Between s0 s1 b × Starts v l b

-- the list has a beginning, and the fact holds of each row of the list that the queue has then: each row that is due
abbrev pub EachDue : Queue → ℕ → (List Deed → Type 0) → (List Deed → Row → Type 0) → Type 0
EachDue o l begins Fact =
    (b : List Deed) × begins b × ((y : Row) → IsRow (after o b) y → y.slip.list ≡ l → Fact b y)

-- Consumer c looked at each row that was due in list l and is Before, and it was not free to it then: not earlier than
-- where the row had come, or was last rung for the consumer, when the list's walk began.
abbrev pub Passed : Evidence → Plan → ℕ → ℕ → List Deed → List Deed → ℕ → (Row → Type 0) → Type 0
Passed v p h c s0 s1 l Before =
    EachDue p.opening l (Begins v p.bells h c l s0 s1)
    (λ b y. Before y → Looked p.opening c y.number (mark c y.number b) s1)

-- each row that was due in list l and is Before was as stated at some moment of the call, in a walk that takes no bell
abbrev pub PassedOnce : Evidence → Plan → ℕ → List Deed → List Deed → ℕ → (Row → Type 0) → (ℕ → Type 0) → Type 0
PassedOnce v p h s0 s1 l Before Was =
    EachDue p.opening l (Begins v false h 0 l s0 s1) (λ b y. Before y → Was y.number)

-- the row was not available at some moment of the call
abbrev pub WasTaken : Queue → List Deed → List Deed → ℕ → Type 0
WasTaken o s0 s1 r =
    (m : List Deed) × Between s0 s1 m × ((x : Row) × (row_at (after o m) r ≡ Some x) × (is_available x.state ≡ false))

-- the row was deleted at some moment of the call
abbrev pub WasDeleted : Queue → List Deed → List Deed → ℕ → Type 0
WasDeleted o s0 s1 r = (m : List Deed) × Between s0 s1 m × IsIn (after o m) r Deleted

-- Answers of walks

-- what a call got: row r of list l as it was just before it was acquired, with its cargo; and the row fitted then
pub record Gets (o : Queue) (h : ℕ) (s0 s1 : List Deed) (r l : ℕ) (load : Load) (Fits : Row → Type 0) : Type 0 where
  pub moment : List Deed
  pub before : JustBefore s0 s1 (deed h (Acq r)) moment
  pub hands : HandsOut (after o moment) r load
  pub list : hands.row.slip.list ≡ l
  pub fits : Fits hands.row

-- next got a row that was free to consumer c, and passed all rows before it in queue order
pub record NextGot (v : Evidence) (p : Plan) (h : ℕ) (s0 s1 : List Deed) (c r l : ℕ) (load : Load) : Type 0 where
  pub gets : Gets p.opening h s0 s1 r l load (λ x. is_free c x ≡ true)
  pub passed :
      (m : ℕ) → l ≤ m → m < p.opening.lists
      → Passed v p h c s0 s1 m (λ y. Precedes ByList (after p.opening s1) y gets.hands.row)

-- next got none, and passed all rows
abbrev pub NextEmpty : Evidence → Plan → ℕ → List Deed → List Deed → ℕ → Type 0
NextEmpty v p h s0 s1 c = (m : ℕ) → m < p.opening.lists → Passed v p h c s0 s1 m (λ y. Unit {0})

-- oldest got a row that was available, and each older one was taken
pub record OldestGot (v : Evidence) (p : Plan) (h : ℕ) (s0 s1 : List Deed) (r l : ℕ) (load : Load) : Type 0 where
  pub gets : Gets p.opening h s0 s1 r l load (λ x. x.state ≡ Available)
  pub passed :
      (m : ℕ) → m ≤ l
      → PassedOnce v p h s0 s1 m (λ y. IsOlder ByList (after p.opening s1) y gets.hands.row) (WasTaken p.opening s0 s1)

-- oldest got none, and each row was taken
abbrev pub OldestEmpty : Evidence → Plan → ℕ → List Deed → List Deed → Type 0
OldestEmpty v p h s0 s1 =
    (m : ℕ) → m < p.opening.lists → PassedOnce v p h s0 s1 m (λ y. Unit {0}) (WasTaken p.opening s0 s1)

-- find found a row that had the id and was not deleted, and each one of the id before it in queue order was deleted
pub record FindSome (v : Evidence) (p : Plan) (h : ℕ) (s0 s1 : List Deed) (id r : ℕ) : Type 0 where
  pub moment : List Deed
  pub between : Between s0 s1 moment
  pub row : Row
  pub found : row_at (after p.opening moment) r ≡ Some row
  pub same : row.slip.id ≡ id
  pub there : row.state ≢ Deleted
  pub passed :
      (m : ℕ) → row.slip.list ≤ m → m < p.opening.lists
      → PassedOnce v p h s0 s1 m (λ y. (y.slip.id ≡ id) × Precedes ByList (after p.opening s1) y row) (WasDeleted p.opening s0 s1)

-- find found none, and each row of the id was deleted
abbrev pub FindNone : Evidence → Plan → ℕ → List Deed → List Deed → ℕ → Type 0
FindNone v p h s0 s1 id =
    (m : ℕ) → m < p.opening.lists → PassedOnce v p h s0 s1 m (λ y. y.slip.id ≡ id) (WasDeleted p.opening s0 s1)

-- Single words

-- at moment m of the call the row was seen in this state
pub record Saw (v : Evidence) (o : Queue) (s0 s1 : List Deed) (r : ℕ) (s : RowState) (m : List Deed) : Type 0 where
  pub between : Between s0 s1 m
  pub state : IsIn (after o m) r s
  pub told : Told v (on_state_of r) (pack_state s) m

-- the depth was seen at some moment of the call
pub record SawDepth (v : Evidence) (o : Queue) (s0 s1 : List Deed) (d : Depth) : Type 0 where
  pub moment : List Deed
  pub between : Between s0 s1 moment
  pub state : d ≡ depth (after o moment)
  pub told : Told v on_depth (pack_depth d.entries d.bytes) moment

-- row r was seen in this state, of which something holds
pub record SawOther (v : Evidence) (o : Queue) (s0 s1 : List Deed) (r : ℕ) (s : RowState) (Other : Type 0) : Type 0 where
  pub other : Other
  pub moment : List Deed
  pub saw : Saw v o s0 s1 r s moment

-- row r was seen as somebody had left it, and later in this other state
pub record SawMove (v : Evidence) (o : Queue) (s0 s1 : List Deed) (r : ℕ) (s : RowState) : Type 0 where
  pub owner : ℕ
  pub first : List Deed
  pub second : List Deed
  pub left : Saw v o s0 s1 r (Unlocked owner) first
  pub moved : Saw v o s0 s1 r s second
  pub order : IsPrefix first second
  pub other : s ≢ Unlocked owner

-- Each call

-- the depth was this just before the caller's reservation
pub record Reserves (o : Queue) (h : ℕ) (s0 s1 : List Deed) (size : ℕ) (d : Depth) : Type 0 where
  pub moment : List Deed
  pub before : JustBefore s0 s1 (deed h (Reserve size)) moment
  pub state : d ≡ depth (after o moment)

-- the caller took row r by this act, and was handed its cargo as it was just before
pub record TakesBy (o : Queue) (h : ℕ) (s0 s1 : List Deed) (a : Act) (r : ℕ) (load : Load) : Type 0 where
  pub moment : List Deed
  pub before : JustBefore s0 s1 (deed h a) moment
  pub hands : HandsOut (after o moment) r load

-- What holds of a call on a listed queue and its answer, besides its acts. An answer of another call never comes.
abbrev pub ListMeans : Evidence → Plan → ℕ → List Deed → List Deed → Call → Answer → Type 0
ListMeans v p h s0 s1 CallDepth (IsDepth d) = SawDepth v p.opening s0 s1 d
ListMeans v p h s0 s1 (CallReserve size) (IsDepth d) = Reserves p.opening h s0 s1 size d
ListMeans v p h s0 s1 (CallGiveBack size) IsDone = Unit {0}
ListMeans v p h s0 s1 (CallPut slip load) (IsAt r displaced) = displaced ≡ None
ListMeans v p h s0 s1 (CallPut slip load) (IsSpent back) = back ≡ load
ListMeans v p h s0 s1 (CallNext c) (IsGot r l load) = NextGot v p h s0 s1 c r l load
ListMeans v p h s0 s1 (CallNext c) IsEmpty = NextEmpty v p h s0 s1 c
ListMeans v p h s0 s1 CallOldest (IsGot r l load) = OldestGot v p h s0 s1 r l load
ListMeans v p h s0 s1 CallOldest IsEmpty = OldestEmpty v p h s0 s1
ListMeans v p h s0 s1 (CallFind id) (IsFound (Some r)) = FindSome v p h s0 s1 id r
ListMeans v p h s0 s1 (CallFind id) (IsFound None) = FindNone v p h s0 s1 id
ListMeans v p h s0 s1 (CallLock r) (IsLocked load) = TakesBy p.opening h s0 s1 (Lock r) r load
ListMeans v p h s0 s1 (CallLock r) (IsStolen s) = SawOther v p.opening s0 s1 r s (s ≢ Unlocked h)
ListMeans v p h s0 s1 (CallUnlock r load) IsDone = Unit {0}
ListMeans v p h s0 s1 (CallRelease r load) (IsReleased mask) = HasMask (after p.opening s1) r mask
ListMeans v p h s0 s1 (CallSteal r) (HasStolen load) = TakesBy p.opening h s0 s1 (Steal r) r load
ListMeans v p h s0 s1 (CallSteal r) (IsNotStealable s) = SawOther v p.opening s0 s1 r s ((k : ℕ) → s ≢ Unlocked k)
ListMeans v p h s0 s1 (CallSteal r) (IsMoved s) = SawMove v p.opening s0 s1 r s
ListMeans v p h s0 s1 (CallDequeue r) (IsFreed size) = HasSize (after p.opening s1) r size
ListMeans v p h s0 s1 (CallDelete r) IsDone = Unit {0}
ListMeans v p h s0 s1 call answer = ⊥
