-- what the answers of a held queue tell: each call is served at one moment, in the state just before its acts
use Rattle.std.specs.Prelude.{◌≡◌, ◌≢◌, ℕ, ◌<◌, true, Option, Some, None, List}
use Rattle.queue_model.specs.declared.queues.Queue.{Queue}
use Rattle.queue_model.specs.declared.rows.Row.{Row}
use Rattle.queue_model.specs.declared.rows.RowState.TheVariants.{Available, Unlocked, Deleted}
use Rattle.queue_model.specs.Order.{Precedes, IsOlder}
use Rattle.queue_model.specs.State.{row_at, IsIn, place_at, depth}
use Rattle.acts_core.specs.Calls.{Call, CallDepth, CallReserve, CallGiveBack, CallPut, CallNext, CallOldest, CallFind, CallLock, CallUnlock, CallRelease, CallSteal, CallDequeue, CallDelete, Answer, IsDepth, IsAt, IsGot, IsEmpty, IsFound, IsLocked, IsStolen, IsReleased, IsOutdated, HasStolen, IsNotStealable, IsFreed, IsDone}
use Rattle.acts_core.specs.Load.{Load}
use Rattle.acts_core.specs.Moments.{IsRow, NoRow, IsLoadOf, HandsOut, HasMask, HasSize}
use Rattle.acts_core.specs.Owed.{is_free}
use Rattle.acts_core.specs.Sight.{Kind, Sorted, LastValue, order_of}

-- row r of list l, with its cargo: it passes, and is before all other rows that pass
pub record First (q : Queue) (Pass : Row → Type 0) (Before : Row → Row → Type 0) (r l : ℕ) (load : Load) : Type 0 where
  pub hands : HandsOut q r load
  pub list : hands.row.slip.list ≡ l
  pub passes : Pass hands.row
  pub first : (y : Row) → IsRow q y → Pass y → y.number ≢ r → Before hands.row y

-- the row has this id, and is not deleted
pub record HasId (id : ℕ) (y : Row) : Type 0 where
  pub same : y.slip.id ≡ id
  pub live : y.state ≢ Deleted

-- the first row in queue order that has the id and is not deleted; None where there is none
abbrev pub Finds : Kind → Queue → ℕ → Option ℕ → Type 0
Finds kind q id None = NoRow q (HasId id)
Finds kind q id (Some r) =
    (x : Row) × (row_at q r ≡ Some x) × HasId id x
    × ((y : Row) → IsRow q y → HasId id y → y.number ≢ r → Precedes (order_of kind) q x y)

-- an available row of this key, which is a key
pub record IsOfKey (key : Option (List ℕ)) (y : Row) : Type 0 where
  pub same : y.slip.key ≡ key
  pub some : key ≢ None
  pub available : y.state ≡ Available

-- what a put on a last-value queue displaces: the available row of the key, with its cargo; None where there is none
abbrev pub Displaces : Queue → Option (List ℕ) → Option (ℕ × Load) → Type 0
Displaces q key None = NoRow q (IsOfKey key)
Displaces q key (Some d) = (x : Row) × (row_at q d.0 ≡ Some x) × IsOfKey key x × IsLoadOf x d.1

-- a later row of the key of row r has come, be it deleted since
pub record IsOutdatedIn (q : Queue) (r : ℕ) : Type 0 where
  pub row : Row
  pub found : row_at q r ≡ Some row
  pub later : Row
  pub there : IsRow q later
  pub key : later.slip.key ≡ row.slip.key
  pub some : row.slip.key ≢ None
  pub place : place_at q r < place_at q later.number

-- What an answer tells of the state in which the call was served. An answer of another call never comes.
abbrev pub Means : Kind → Queue → ℕ → Call → Answer → Type 0
Means kind q h CallDepth (IsDepth d) = d ≡ depth q
Means kind q h (CallReserve size) (IsDepth d) = d ≡ depth q
Means kind q h (CallGiveBack size) IsDone = Unit {0}
Means Sorted q h (CallPut slip load) (IsAt r displaced) = displaced ≡ None
Means LastValue q h (CallPut slip load) (IsAt r displaced) = Displaces q slip.key displaced
Means kind q h (CallNext c) (IsGot r l load) =
    First q (λ x. is_free c x ≡ true) (Precedes (order_of kind) q) r l load
Means kind q h (CallNext c) IsEmpty = NoRow q (λ x. is_free c x ≡ true)
Means kind q h CallOldest (IsGot r l load) =
    First q (λ x. x.state ≡ Available) (IsOlder (order_of kind) q) r l load
Means kind q h CallOldest IsEmpty = NoRow q (λ x. x.state ≡ Available)
Means kind q h (CallFind id) (IsFound r) = Finds kind q id r
Means kind q h (CallLock r) (IsLocked load) = HandsOut q r load
Means kind q h (CallLock r) (IsStolen s) = (s ≢ Unlocked h) × IsIn q r s
Means kind q h (CallUnlock r load) IsDone = Unit {0}
Means Sorted q h (CallRelease r load) (IsReleased mask) = HasMask q r mask
Means LastValue q h (CallRelease r load) (IsReleased mask) = HasMask q r mask × ¬ (IsOutdatedIn q r)
Means LastValue q h (CallRelease r load) (IsOutdated back) = (back ≡ load) × IsOutdatedIn q r
Means kind q h (CallSteal r) (HasStolen load) = HandsOut q r load
Means kind q h (CallSteal r) (IsNotStealable s) = ((k : ℕ) → s ≢ Unlocked k) × IsIn q r s
Means kind q h (CallDequeue r) (IsFreed size) = HasSize q r size
Means kind q h (CallDelete r) IsDone = Unit {0}
Means kind q h call answer = ⊥
