-- the statements of the laws, each proved as the contract of a function in src/laws.rt
use Rattle.std.specs.Prelude.{◌≡◌, ◌≢◌, ℕ, ◌+◌, ◌*◌, ◌≤◌, Option, Some, None, ◌⊎◌, List, [], ◌∷◌, ◌++◌, length, find, sum_by}
use Rattle.std.specs.List.{AllByRecursion}
use Rattle.std.specs.Option.{option_map_or}
use mathlib.Core.List.{IsPrefix}
use Rattle.queue_model.specs.declared.deeds.Act.{Act}
use Rattle.queue_model.specs.declared.deeds.Act.TheVariants.{Acq, Lock, Unlock, Steal, Rel, Deq, Del, Reserve, GiveBack, Enq, Bell, Take}
use Rattle.queue_model.specs.declared.deeds.Deed.{Deed}
use Rattle.queue_model.specs.declared.queues.Queue.{Queue}
use Rattle.queue_model.specs.declared.queues.Reservation.{Reservation}
use Rattle.queue_model.specs.declared.rows.Row.{Row}
use Rattle.queue_model.specs.declared.rows.RowState.TheVariants.{Available, Locked, Unlocked, Dequeued, Deleted}
use Rattle.queue_model.specs.declared.rows.Slip.{Slip}
use Rattle.queue_model.specs.Keyed.{alter}
use Rattle.queue_model.specs.State.{is_row, row_at, IsIn, rows_of, list_at, place_at, size_at, is_holder, reserved_by, bell_at, entries, bytes}
use Rattle.queue_model.specs.Table.{Can, acted, changed, earlier, most_bytes, with_more, with_less}
use Rattle.queue_model.specs.History.{after, Legal, own, deeds_of}
use Rattle.queue_model.specs.Order.{Order, arrival, Precedes, IsOlder}
use Rattle.queue_model.specs.Sound.{Sound, IsOpening}

-- Histories

-- the state after two histories in a row
abbrev pub AfterAppend : Type 0
AfterAppend = (q : Queue) (ds es : List Deed) → after q (ds ++ es) ≡ after (after q ds) es

-- two histories in a row are legal if each is legal where it stands
abbrev pub LegalAppend : Type 0
LegalAppend = (q : Queue) (ds es : List Deed) → Legal q ds → Legal (after q ds) es → Legal q (ds ++ es)

-- the front of a legal history is legal
abbrev pub LegalFront : Type 0
LegalFront = (q : Queue) (ds es : List Deed) → Legal q (ds ++ es) → Legal q ds

-- the rest of a legal history is legal where it stands
abbrev pub LegalRest : Type 0
LegalRest = (q : Queue) (ds es : List Deed) → Legal q (ds ++ es) → Legal (after q ds) es

-- a caller's deeds of two histories in a row
abbrev pub OwnAppend : Type 0
OwnAppend = (h : ℕ) (ds es : List Deed) → own h (ds ++ es) ≡ own h ds ++ own h es

-- a deed is its caller's own
abbrev pub OwnMine : Type 0
OwnMine = (d : Deed) → own d.caller (d ∷ []) ≡ d ∷ []

-- a deed is none of another caller's
abbrev pub OwnOther : Type 0
OwnOther = (h : ℕ) (d : Deed) → d.caller ≢ h → own h (d ∷ []) ≡ []

-- Prefixes

-- a history is a prefix of itself
abbrev pub PrefixSelf : Type 0
PrefixSelf = (xs : List Deed) → IsPrefix xs xs

-- a history is a prefix of each history that goes on from it
abbrev pub PrefixMore : Type 0
PrefixMore = (xs ys : List Deed) → IsPrefix xs (xs ++ ys)

-- a prefix of a prefix is a prefix
abbrev pub PrefixTrans : Type 0
PrefixTrans = (xs ys zs : List Deed) → IsPrefix xs ys → IsPrefix ys zs → IsPrefix xs zs

-- of two prefixes of one history the one that is not longer is a prefix of the other
abbrev pub PrefixShorter : Type 0
PrefixShorter = (xs ys zs : List Deed) → IsPrefix xs zs → IsPrefix ys zs → length xs ≤ length ys → IsPrefix xs ys

-- a prefix of equal length is the whole history
abbrev pub PrefixWhole : Type 0
PrefixWhole = (xs ys : List Deed) → IsPrefix xs ys → length xs ≡ length ys → xs ≡ ys

-- a prefix is not longer
abbrev pub PrefixLength : Type 0
PrefixLength = (xs ys : List Deed) → IsPrefix xs ys → length xs ≤ length ys

-- a prefix of a legal history is legal
abbrev pub LegalPrefix : Type 0
LegalPrefix = (q : Queue) (ds es : List Deed) → IsPrefix ds es → Legal q es → Legal q ds

-- a history between two that have the same deeds of a caller has the same deeds of it
abbrev pub OwnBetween : Type 0
OwnBetween = (h : ℕ) (ds es fs : List Deed) → IsPrefix ds es → IsPrefix es fs → own h fs ≡ own h ds → own h fs ≡ own h es

-- what has each caller's deeds of a history is the whole of it
abbrev pub SeenAll : Type 0
SeenAll = (seen all : List Deed) → IsPrefix seen all → ((k : ℕ) → own k all ≡ own k seen) → seen ≡ all

-- Rows and reservations by their keys

-- what a change makes of a row stands in its place
abbrev pub RowAlter : Type 0
RowAlter = (r : ℕ) (f : Option Row → Option Row) (xs : List Row) (y : Row) → f (find (is_row r) xs) ≡ Some y → y.number ≡ r → find (is_row r) (alter (is_row r) f xs) ≡ Some y

-- a change of one row leaves another
abbrev pub RowAlterOther : Type 0
RowAlterOther = (r s : ℕ) (f : Option Row → Option Row) (xs : List Row) → r ≢ s → ((y : Row) → f (find (is_row r) xs) ≡ Some y → y.number ≡ r) → find (is_row s) (alter (is_row r) f xs) ≡ find (is_row s) xs

-- what a change of one row does to a sum over all rows
abbrev pub RowSum : Type 0
RowSum = (w : Row → ℕ) (r : ℕ) (f : Option Row → Option Row) (xs : List Row) → sum_by w (alter (is_row r) f xs) + option_map_or w (find (is_row r) xs) 0 ≡ sum_by w xs + option_map_or w (f (find (is_row r) xs)) 0

-- a row stays where others come behind it
abbrev pub RowAppend : Type 0
RowAppend = (r : ℕ) (xs ys : List Row) (x : Row) → find (is_row r) xs ≡ Some x → find (is_row r) (xs ++ ys) ≡ Some x

-- a new row at the end is found by its number
abbrev pub RowPush : Type 0
RowPush = (r : ℕ) (xs : List Row) (y : Row) → find (is_row r) xs ≡ None → y.number ≡ r → find (is_row r) (xs ++ y ∷ []) ≡ Some y

-- a new row at the end is found by no other number
abbrev pub RowPushOther : Type 0
RowPushOther = (r : ℕ) (xs : List Row) (y : Row) → y.number ≢ r → find (is_row r) (xs ++ y ∷ []) ≡ find (is_row r) xs

-- a row that is found by a number has that number
abbrev pub RowNumber : Type 0
RowNumber = (q : Queue) (r : ℕ) (x : Row) → row_at q r ≡ Some x → x.number ≡ r

-- a row that is changed is found as it became
abbrev pub RowHere : Type 0
RowHere = (q : Queue) (r : ℕ) (f : Row → Row) (x : Row) → row_at q r ≡ Some x → (f x).number ≡ r → row_at (changed q r f) r ≡ Some (f x)

-- a change of one row leaves the other rows of the queue
abbrev pub RowElsewhere : Type 0
RowElsewhere = (q : Queue) (r s : ℕ) (f : Row → Row) → r ≢ s → ((x : Row) → (f x).number ≡ x.number) → row_at (changed q r f) s ≡ row_at q s

-- what a change makes of a reservation stands in its place
abbrev pub ReservedAlter : Type 0
ReservedAlter = (h : ℕ) (f : Option Reservation → Option Reservation) (xs : List Reservation) (v : Reservation) → f (find (is_holder h) xs) ≡ Some v → v.holder ≡ h → find (is_holder h) (alter (is_holder h) f xs) ≡ Some v

-- a change of one caller's reservation leaves another's
abbrev pub ReservedAlterOther : Type 0
ReservedAlterOther = (h k : ℕ) (f : Option Reservation → Option Reservation) (xs : List Reservation) → h ≢ k → ((v : Reservation) → f (find (is_holder h) xs) ≡ Some v → v.holder ≡ h) → find (is_holder k) (alter (is_holder h) f xs) ≡ find (is_holder k) xs

-- a new reservation at the end is found by its holder
abbrev pub ReservedPush : Type 0
ReservedPush = (h : ℕ) (xs : List Reservation) (v : Reservation) → find (is_holder h) xs ≡ None → v.holder ≡ h → find (is_holder h) (xs ++ v ∷ []) ≡ Some v

-- a new reservation at the end is found by no other holder
abbrev pub ReservedPushOther : Type 0
ReservedPushOther = (h : ℕ) (xs : List Reservation) (v : Reservation) → v.holder ≢ h → find (is_holder h) (xs ++ v ∷ []) ≡ find (is_holder h) xs

-- what a change of one reservation does to a sum over all
abbrev pub ReservedSum : Type 0
ReservedSum = (w : Reservation → ℕ) (h : ℕ) (f : Option Reservation → Option Reservation) (xs : List Reservation) → sum_by w (alter (is_holder h) f xs) + option_map_or w (find (is_holder h) xs) 0 ≡ sum_by w xs + option_map_or w (f (find (is_holder h) xs)) 0

-- Depth

-- a reservation adds its entry and its bytes
abbrev pub DepthReserve : Type 0
DepthReserve = (q : Queue) (h size : ℕ) → (entries (acted q h (Reserve size)) ≡ entries q + 1) × (bytes (acted q h (Reserve size)) ≡ bytes q + size)

-- what is given back takes its entry and its bytes out
abbrev pub DepthGiveBack : Type 0
DepthGiveBack = (q : Queue) (h size : ℕ) → Can q h (GiveBack size) → (entries (acted q h (GiveBack size)) + 1 ≡ entries q) × (bytes (acted q h (GiveBack size)) + size ≡ bytes q)

-- the acts that only move entries, or none
abbrev pub KeepsDepth : Act → Type 0
KeepsDepth (Reserve size) = ⊥
KeepsDepth (GiveBack size) = ⊥
KeepsDepth a = Unit {0}

-- all acts but Reserve and GiveBack leave the depth as it is
abbrev pub DepthKept : Type 0
DepthKept = (q : Queue) (h : ℕ) (a : Act) → Can q h a → KeepsDepth a → (entries (acted q h a) ≡ entries q) × (bytes (acted q h a) ≡ bytes q)

-- for each entry at most the bytes of the largest message
abbrev pub DepthLow : Type 0
DepthLow = (q : Queue) → Sound q → bytes q ≤ most_bytes * entries q

-- Sound states

-- what a queue may begin with is sound
abbrev pub SoundOpening : Type 0
SoundOpening = (q : Queue) → IsOpening q → Sound q

-- each step leaves a sound state sound
abbrev pub SoundStep : Type 0
SoundStep = (q : Queue) (h : ℕ) (a : Act) → Can q h a → Sound q → Sound (acted q h a)

-- a legal history leaves a sound state sound
abbrev pub SoundAfter : Type 0
SoundAfter = (q : Queue) (ds : List Deed) → Sound q → Legal q ds → Sound (after q ds)

-- What stays

-- the same number, slip, content and origin
pub record SameGoods (x y : Row) : Type 0 where
  pub number : y.number ≡ x.number
  pub slip : y.slip ≡ x.slip
  pub content : y.content ≡ x.content
  pub origin : y.origin ≡ x.origin

-- a row keeps its number, slip, content and origin in a step
abbrev pub RowStep : Type 0
RowStep = (q : Queue) (h : ℕ) (a : Act) (r : ℕ) (x : Row) → row_at q r ≡ Some x → (y : Row) × (row_at (acted q h a) r ≡ Some y) × SameGoods x y

-- a row keeps its number, slip, content and origin in a history
abbrev pub RowStays : Type 0
RowStays = (q : Queue) (ds : List Deed) (r : ℕ) (x : Row) → row_at q r ≡ Some x → (y : Row) × (row_at (after q ds) r ≡ Some y) × SameGoods x y

-- a row number that the state after a step has not the state before had not
abbrev pub NewStep : Type 0
NewStep = (q : Queue) (h : ℕ) (a : Act) (r : ℕ) → row_at (acted q h a) r ≡ None → row_at q r ≡ None

-- a row number that the state after a history has not the state before had not
abbrev pub NewStays : Type 0
NewStays = (q : Queue) (ds : List Deed) (r : ℕ) → row_at (after q ds) r ≡ None → row_at q r ≡ None

-- a row keeps its list in a step
abbrev pub ListStep : Type 0
ListStep = (q : Queue) (h : ℕ) (a : Act) (r : ℕ) (x : Row) → row_at q r ≡ Some x → list_at (acted q h a) r ≡ list_at q r

-- a row keeps its list in a history
abbrev pub ListStays : Type 0
ListStays = (q : Queue) (ds : List Deed) (r : ℕ) (x : Row) → row_at q r ≡ Some x → list_at (after q ds) r ≡ list_at q r

-- a row keeps its place in its list in a step
abbrev pub PlaceStep : Type 0
PlaceStep = (q : Queue) (h : ℕ) (a : Act) (r : ℕ) (x : Row) → row_at q r ≡ Some x → place_at (acted q h a) r ≡ place_at q r

-- a row keeps its place in its list in a history
abbrev pub PlaceStays : Type 0
PlaceStays = (q : Queue) (ds : List Deed) (r : ℕ) (x : Row) → row_at q r ≡ Some x → place_at (after q ds) r ≡ place_at q r

-- a row that h holds is the very same row, with its count, after a step of another
abbrev pub HeldRowStep : Type 0
HeldRowStep = (q : Queue) (k h : ℕ) (a : Act) (r : ℕ) (x : Row) → k ≢ h → Can q k a → row_at q r ≡ Some x → x.state ≡ Locked h → row_at (acted q k a) r ≡ Some x

-- a row that h holds is the very same row, with its count, after a history of others
abbrev pub HeldRowStays : Type 0
HeldRowStays = (q : Queue) (ds : List Deed) (h r : ℕ) (x : Row) → own h ds ≡ [] → Legal q ds → row_at q r ≡ Some x → x.state ≡ Locked h → row_at (after q ds) r ≡ Some x

-- a row that h holds stays held in a step of another
abbrev pub HeldStep : Type 0
HeldStep = (q : Queue) (k h : ℕ) (a : Act) (r : ℕ) → k ≢ h → Can q k a → IsIn q r (Locked h) → IsIn (acted q k a) r (Locked h)

-- a row that h holds stays held in a history of others
abbrev pub HeldStays : Type 0
HeldStays = (q : Queue) (ds : List Deed) (h r : ℕ) → own h ds ≡ [] → Legal q ds → IsIn q r (Locked h) → IsIn (after q ds) r (Locked h)

-- what h has reserved stays in a step of another
abbrev pub ReservedStep : Type 0
ReservedStep = (q : Queue) (k h : ℕ) (a : Act) → k ≢ h → reserved_by (acted q k a) h ≡ reserved_by q h

-- what h has reserved stays in a history of others
abbrev pub ReservedStays : Type 0
ReservedStays = (q : Queue) (ds : List Deed) (h : ℕ) → own h ds ≡ [] → reserved_by (after q ds) h ≡ reserved_by q h

-- a deleted row stays deleted in a step
abbrev pub DeletedStep : Type 0
DeletedStep = (q : Queue) (h : ℕ) (a : Act) (r : ℕ) → Can q h a → IsIn q r Deleted → IsIn (acted q h a) r Deleted

-- a deleted row stays deleted in a history
abbrev pub DeletedStays : Type 0
DeletedStays = (q : Queue) (ds : List Deed) (r : ℕ) → Legal q ds → IsIn q r Deleted → IsIn (after q ds) r Deleted

-- a row that is dequeued or deleted stays so in a step
abbrev pub GoneStep : Type 0
GoneStep = (q : Queue) (h : ℕ) (a : Act) (r : ℕ) → Can q h a → IsIn q r Dequeued ⊎ IsIn q r Deleted → IsIn (acted q h a) r Dequeued ⊎ IsIn (acted q h a) r Deleted

-- a row that is dequeued or deleted stays so in a history
abbrev pub GoneStays : Type 0
GoneStays = (q : Queue) (ds : List Deed) (r : ℕ) → Legal q ds → IsIn q r Dequeued ⊎ IsIn q r Deleted → IsIn (after q ds) r Dequeued ⊎ IsIn (after q ds) r Deleted

-- the act leaves the bell of consumer c at list l
abbrev pub LeavesBell : Queue → ℕ → ℕ → Act → Type 0
LeavesBell q c l (Bell r d) = d ≡ c → list_at q r ≢ l
LeavesBell q c l (Take d m) = d ≡ c → m ≢ l
LeavesBell q c l a = Unit {0}

-- each act of a history leaves the bell of consumer c at list l, where it stands
abbrev pub LeaveBell : Queue → ℕ → ℕ → List Deed → Type 0
LeaveBell q c l [] = Unit {0}
LeaveBell q c l (d ∷ ds) = LeavesBell q c l d.act × LeaveBell (acted q d.caller d.act) c l ds

-- a step changes a bell only where it is rung or taken
abbrev pub BellStep : Type 0
BellStep = (q : Queue) (h : ℕ) (a : Act) (c l : ℕ) → LeavesBell q c l a → bell_at (acted q h a) c l ≡ bell_at q c l

-- a history changes a bell only where it is rung or taken
abbrev pub BellStays : Type 0
BellStays = (q : Queue) (ds : List Deed) (c l : ℕ) → LeaveBell q c l ds → bell_at (after q ds) c l ≡ bell_at q c l

-- Own acts

-- an acquired row is held
abbrev pub OwnAcquired : Type 0
OwnAcquired = (q : Queue) (h r : ℕ) → Can q h (Acq r) → IsIn (acted q h (Acq r)) r (Locked h)

-- a row that was left and is locked again is held
abbrev pub OwnLocked : Type 0
OwnLocked = (q : Queue) (h r : ℕ) → Can q h (Lock r) → IsIn (acted q h (Lock r)) r (Locked h)

-- a stolen row is held
abbrev pub OwnStolen : Type 0
OwnStolen = (q : Queue) (h r : ℕ) → Can q h (Steal r) → IsIn (acted q h (Steal r)) r (Locked h)

-- a row that is left is the caller's to lock
abbrev pub OwnUnlocked : Type 0
OwnUnlocked = (q : Queue) (h r n : ℕ) → Can q h (Unlock r n) → IsIn (acted q h (Unlock r n)) r (Unlocked h)

-- a released row is available
abbrev pub OwnReleased : Type 0
OwnReleased = (q : Queue) (h r n : ℕ) → Can q h (Rel r n) → IsIn (acted q h (Rel r n)) r Available

-- a dequeued row is out of the queue
abbrev pub OwnDequeued : Type 0
OwnDequeued = (q : Queue) (h r : ℕ) → Can q h (Deq r) → IsIn (acted q h (Deq r)) r Dequeued

-- a deleted row is gone
abbrev pub OwnDeleted : Type 0
OwnDeleted = (q : Queue) (h r : ℕ) → Can q h (Del r) → IsIn (acted q h (Del r)) r Deleted

-- what a caller has reserved is its own
abbrev pub ReservedHolder : Type 0
ReservedHolder = (q : Queue) (h : ℕ) → (reserved_by q h).holder ≡ h

-- a caller's reservation after it reserved more
abbrev pub OwnReserve : Type 0
OwnReserve = (q : Queue) (h size : ℕ) → reserved_by (acted q h (Reserve size)) h ≡ with_more (reserved_by q h) size

-- a caller's reservation after it dequeued a row: the row's entry and bytes come to it
abbrev pub OwnDequeue : Type 0
OwnDequeue = (q : Queue) (h r : ℕ) → reserved_by (acted q h (Deq r)) h ≡ with_more (reserved_by q h) (size_at q r)

-- a caller's reservation after it gave some back; a sound state has no second record of the caller that could show
abbrev pub OwnGiveBack : Type 0
OwnGiveBack = (q : Queue) (h size : ℕ) → Sound q → Can q h (GiveBack size) → reserved_by (acted q h (GiveBack size)) h ≡ with_less (reserved_by q h) size

-- a caller's reservation after it enqueued a row: the row's entry and bytes leave it
abbrev pub OwnEnqueue : Type 0
OwnEnqueue = (q : Queue) (h r : ℕ) (slip : Slip) (content origin : List ℕ) (n : ℕ) → Sound q → Can q h (Enq r slip content origin n) → reserved_by (acted q h (Enq r slip content origin n)) h ≡ with_less (reserved_by q h) slip.size

-- an enqueued row is there, and available
abbrev pub OwnEnqueued : Type 0
OwnEnqueued = (q : Queue) (h r : ℕ) (slip : Slip) (content origin : List ℕ) (n : ℕ) → Can q h (Enq r slip content origin n)
    → row_at (acted q h (Enq r slip content origin n)) r ≡ Some (record { number = r; slip = slip; state = Available; content = content; origin = origin; count = n })

-- an enqueued row is the last of its list
abbrev pub OwnEnqueuedLast : Type 0
OwnEnqueuedLast = (q : Queue) (h r : ℕ) (slip : Slip) (content origin : List ℕ) (n : ℕ) → Can q h (Enq r slip content origin n) → place_at (acted q h (Enq r slip content origin n)) r ≡ length (rows_of q slip.list)

-- a bell that is rung is the earlier of what was there and the new one
abbrev pub BellRung : Type 0
BellRung = (q : Queue) (h r c : ℕ) → bell_at (acted q h (Bell r c)) c (list_at q r) ≡ earlier (record { consumer = c; list = list_at q r; place = place_at q r; row = r }) (bell_at q c (list_at q r))

-- a bell that is taken is there no more
abbrev pub BellTaken : Type 0
BellTaken = (q : Queue) (h c l : ℕ) → bell_at (acted q h (Take c l)) c l ≡ None

-- Locks

-- the act does not end a lock of row r
abbrev pub KeepsLock : ℕ → Act → Type 0
KeepsLock r (Unlock s n) = s ≢ r
KeepsLock r (Rel s n) = s ≢ r
KeepsLock r (Deq s) = s ≢ r
KeepsLock r a = Unit {0}

-- the act takes row r
abbrev pub GainsLock : ℕ → Act → Type 0
GainsLock r (Acq s) = s ≡ r
GainsLock r (Lock s) = s ≡ r
GainsLock r (Steal s) = s ≡ r
GainsLock r a = ⊥

-- a row that h holds stays held over own acts that do not end the lock, whatever others do
abbrev pub LockStays : Type 0
LockStays = (o : Queue) (s0 s1 : List Deed) (h r : ℕ) (acts : List Act) → IsPrefix s0 s1 → Legal o s1 → own h s1 ≡ own h s0 ++ deeds_of h acts → AllByRecursion (KeepsLock r) acts → IsIn (after o s0) r (Locked h) → IsIn (after o s1) r (Locked h)

-- a caller whose one new act takes a row holds it, and each row that it held before is another
abbrev pub Gains : Type 0
Gains = (o : Queue) (s0 s1 : List Deed) (h r : ℕ) (a : Act) → IsPrefix s0 s1 → Legal o s1 → own h s1 ≡ own h s0 ++ deeds_of h (a ∷ []) → GainsLock r a → IsIn (after o s1) r (Locked h) × ((x : ℕ) → IsIn (after o s0) x (Locked h) → x ≢ r)

-- Queue order, and oldest order

-- of two rows of a queue one comes before the other
abbrev pub PrecedesTotal : Type 0
PrecedesTotal = (o : Order) (q : Queue) (x y : Row) → row_at q x.number ≡ Some x → row_at q y.number ≡ Some y → x.number ≢ y.number → Precedes o q x y ⊎ Precedes o q y x

-- no row comes before itself
abbrev pub PrecedesNot : Type 0
PrecedesNot = (o : Order) (q : Queue) (x : Row) → Precedes o q x x → ⊥

-- a row that comes before a second comes before each row that the second comes before
abbrev pub PrecedesTrans : Type 0
PrecedesTrans = (o : Order) (q : Queue) (x y z : Row) → Precedes o q x y → Precedes o q y z → Precedes o q x z

-- of two rows of a queue one is older
abbrev pub OlderTotal : Type 0
OlderTotal = (o : Order) (q : Queue) (x y : Row) → row_at q x.number ≡ Some x → row_at q y.number ≡ Some y → x.number ≢ y.number → IsOlder o q x y ⊎ IsOlder o q y x

-- no row is older than itself
abbrev pub OlderNot : Type 0
OlderNot = (o : Order) (q : Queue) (x : Row) → IsOlder o q x x → ⊥

-- a row that is older than a second is older than each row that the second is older than
abbrev pub OlderTrans : Type 0
OlderTrans = (o : Order) (q : Queue) (x y z : Row) → IsOlder o q x y → IsOlder o q y z → IsOlder o q x z

-- two rows that came at one time are one row
abbrev pub ArrivalSame : Type 0
ArrivalSame = (q : Queue) (x y : Row) → row_at q x.number ≡ Some x → row_at q y.number ≡ Some y → arrival q x ≡ arrival q y → x ≡ y

-- two rows at one place of one list are one row
abbrev pub PlaceSame : Type 0
PlaceSame = (q : Queue) (r s : ℕ) (x y : Row) → row_at q r ≡ Some x → row_at q s ≡ Some y → x.slip.list ≡ y.slip.list → place_at q r ≡ place_at q s → x ≡ y
