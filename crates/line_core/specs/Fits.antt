-- which answers fit a line, which calls the line made, and how it leaves its actor
use Rattle.std.specs.Prelude.{◌≡◌, ◌≢◌, ℕ, ◌+◌, Bool, true, false, is_some, unwrap_or, if◌then◌else◌, ◌⊎◌, Option, Some, None, List, [], ◌∷◌, ◌++◌, length, replicate, slice_get, slice_set, flat_map}
use Rattle.queue_model.specs.declared.queues.Depth.{Depth}
use Rattle.queue_model.specs.declared.queues.Limits.{Limits}
use Rattle.queue_model.specs.declared.rows.RowState.{RowState}
use Rattle.queue_model.specs.declared.rows.Slip.{Slip}
use Rattle.acts_core.specs.Calls.{Call, CallDepth, CallReserve, CallGiveBack, CallPut, CallNext, CallOldest, CallFind, CallLock, CallUnlock, CallRelease, CallSteal, CallDequeue, CallDelete, Answer, IsDepth, IsAt, IsGot, IsEmpty, IsFound, IsLocked, IsStolen, IsReleased, IsOutdated, HasStolen, IsNotStealable, IsMoved, IsFreed, IsDone}
use Rattle.acts_core.specs.Load.{Load}
use Rattle.message_core.specs.Spelling.{Content, content}
use Rattle.defs_read.specs.Defined.{Defined}
use Rattle.defs_read.specs.Slips.{IsSlip}
use Rattle.script_read.specs.declared.lines.Op.{Op}
use Rattle.script_read.specs.declared.lines.What.{What}
use Rattle.script_read.specs.declared.lines.What.TheVariants.{Put, Take, Close, Ack, Release, Lock, Unlock, Steal}
use Rattle.report_core.specs.declared.answers.Answer as report
use Rattle.report_core.specs.declared.answers.Answer.TheVariants.{Accepted, Rejected, Blocked, Got, Empty, NoCredit, Closed, Acked, NotHeld, Stolen, Released, Outdated, Unlocked, Locked, Stole, NotStealable, Moved, Absent}
use Rattle.report_core.specs.declared.answers.Dropped.{Dropped}
use Rattle.report_core.specs.declared.answers.Span.{Span}
use Rattle.target_core.specs.declared.deliveries.Delivery.{Delivery}
use Rattle.target_core.specs.Seats.{Seat, Seats, seat_at, served}
use Rattle.txn_core.specs.Shown.{number_after}
use Rattle.overflow_core.specs.declared.verdicts.Verdict.{Verdict}
use Rattle.overflow_core.specs.declared.verdicts.Verdict.TheVariants as verdict
use Rattle.overflow_core.specs.Limits.{judged, is_beyond, is_ring}
use Rattle.line_core.specs.Hands.{Hand, hand, meant, without, gained, replaced, lost}
use Rattle.line_core.specs.Places.{is_full, IsDelivery, place_of}

-- what a line did: a call on a queue, with its answer
pub data Did : Type 0 where
  On : ℕ → Call → Answer → Did

-- How an actor stands between two lines: what it has in its hands, and its targets; for each queue, whether flow control
-- has stopped it there; and the entries that its puts have dropped, in order.
pub record Standing : Type 0 where
  pub hands : List Hand
  pub seats : Seats
  pub stopped : List Bool
  pub drops : List Dropped

-- how an actor stands before its first line: it has nothing in its hands, is stopped nowhere, and has dropped nothing
abbrev pub begins : List Defined → Seats → Standing
begins defs seats = record { hands = []; seats = seats; stopped = replicate (length defs) false; drops = [] }

-- Parts of lines

-- the calls that lock an entry in the hands, where it isn't locked
abbrev pub lock_first : Hand → Load → List Did
lock_first k load = if is_some k.cargo then [] else On k.queue (CallLock k.row) (IsLocked load) ∷ []

-- the cargo that the actor then has
abbrev pub cargo_of : Hand → Load → Load
cargo_of k load = unwrap_or k.cargo load

-- the entry, locked
abbrev pub locked_hand : Hand → Load → Hand
locked_hand k load = record k { cargo = Some (cargo_of k load) }

-- the entry, left unlocked
abbrev pub left_hand : Hand → Hand
left_hand k = record k { cargo = None }

-- the calls that take a locked entry out of its queue
abbrev pub drop : ℕ → ℕ → ℕ → List Did
drop q r size = On q (CallDequeue r) (IsFreed size) ∷ On q (CallDelete r) IsDone ∷ []

-- a message's cargo that was never handed out and never committed
abbrev pub fresh : Content → Load
fresh m = record { id = m.id; size = length (content m); count = 0; content = content m; origin = 0 ∷ [] }

-- the cargo, handed out for the n-th time
abbrev pub delivered : ℕ → Load → Load
delivered n load = record load { count = n }

-- an entry that was acquired, in the hands
abbrev pub in_hands : ℕ → ℕ → Load → Hand
in_hands q r load = hand q r load.id (Some load)

-- nothing was done
pub record Idle (s : Standing) (dids : List Did) (s' : Standing) : Type 0 where
  pub did : dids ≡ []
  pub same : s' ≡ s

-- these calls were made, and the hands are now these
pub record Does (s : Standing) (calls : List Did) (hands : List Hand) (dids : List Did) (s' : Standing) : Type 0 where
  pub did : dids ≡ calls
  pub leaves : s' ≡ record s { hands = hands }

-- Puts

-- A put's entry was reserved, and this is the verdict, by the depth that its own reservation showed. It goes by the
-- queue's limits, and by whether flow control has stopped the actor there, before and then.
pub record Asks (defs : List Defined) (s : Standing) (q : ℕ) (m : Content) (v : Verdict) : Type 0 where
  pub def : Defined
  pub defined : slice_get defs q ≡ Some def
  pub slip : Slip
  pub fits : IsSlip def m slip
  pub depth : Depth
  pub was : Bool
  pub before : slice_get s.stopped q ≡ Some was
  pub now : Bool
  pub verdict : (v, now) ≡ judged def.limits was m.persistent slip.size depth

-- a put that was refused: its reservation was given back, and nothing else was done to the queue
pub record Refuses (defs : List Defined) (s : Standing) (q : ℕ) (m : Content) (v : Verdict) (dids : List Did)
    (s' : Standing) : Type 0 where
  pub asks : Asks defs s q m v
  pub did :
      dids
      ≡ On q (CallReserve asks.slip.size) (IsDepth asks.depth) ∷ (On q (CallGiveBack asks.slip.size) IsDone ∷ [])
  pub leaves : s' ≡ record s { stopped = slice_set s.stopped q asks.now }

-- an entry of queue q that was dropped, as an answer names it
abbrev pub dropped : ℕ → ℕ → Dropped
dropped q id = record { queue = q; id = id; kept = false }

-- without the entries that were dropped: one that the actor had left, and somebody stole and made available, may be
-- among them
abbrev pub let_go : List Dropped → List Hand → List Hand
let_go [] hands = hands
let_go (x ∷ xs) hands = let_go xs (without x.queue x.id hands)

-- where these drops stand, after those before them
abbrev pub span_of : List Dropped → List Dropped → Span
span_of before own = record { from = length before; to = length before + length own }

-- the older entry that a put displaced, if any, was dropped
abbrev pub DropsOlder : ℕ → Option (ℕ × Load) → List Dropped → List Did → Type 0
DropsOlder q None xs dids = (xs ≡ []) × (dids ≡ [])
DropsOlder q (Some d) xs dids = (size : ℕ) × (xs ≡ dropped q d.1.id ∷ []) × (dids ≡ drop q d.0 size)

-- a ring was found beyond its limits, and its oldest entry was acquired and dropped
pub record DropsOldest (limits : Limits) (q : ℕ) (x : Dropped) (dids : List Did) : Type 0 where
  pub depth : Depth
  pub beyond : is_beyond limits depth ≡ true
  pub row : ℕ
  pub list : ℕ
  pub load : Load
  pub size : ℕ
  pub named : x ≡ dropped q load.id
  pub did : dids ≡ On q CallDepth (IsDepth depth) ∷ (On q CallOldest (IsGot row list load) ∷ drop q row size)

-- a ring was found within its limits; or beyond them, and no entry was to be had
abbrev pub DropsNoMore : Limits → ℕ → List Did → Type 0
DropsNoMore limits q dids =
    (depth : Depth)
    × (((is_beyond limits depth ≡ false) × (dids ≡ On q CallDepth (IsDepth depth) ∷ []))
    ⊎ ((is_beyond limits depth ≡ true)
    × (dids ≡ On q CallDepth (IsDepth depth) ∷ (On q CallOldest IsEmpty ∷ []))))

-- a ring was trimmed: its oldest entries were dropped, one after the other, until it was within its limits or no entry
-- was to be had
abbrev pub Trims : Limits → ℕ → List Dropped → List Did → Type 0
Trims limits q [] dids = DropsNoMore limits q dids
Trims limits q (x ∷ xs) dids =
    (first : List Did) × (others : List Did)
    × DropsOldest limits q x first × Trims limits q xs others × (dids ≡ first ++ others)

-- a ring was trimmed, and nothing was done to a queue that is none
abbrev pub TrimsRing : Bool → Limits → ℕ → List Dropped → List Did → Type 0
TrimsRing true limits q xs dids = Trims limits q xs dids
TrimsRing false limits q xs dids = (xs ≡ []) × (dids ≡ [])

-- A put that was admitted: its entry was put with the slip that the message has in this queue. Then the older entry that
-- it displaced was dropped, and then, on a ring, the oldest ones.
pub record Puts (defs : List Defined) (s : Standing) (q : ℕ) (m : Content) (own : List Dropped) (dids : List Did)
    (s' : Standing) : Type 0 where
  pub asks : Asks defs s q m verdict.Admitted
  pub row : ℕ
  pub displaced : Option (ℕ × Load)
  pub older : List Dropped
  pub older_dids : List Did
  pub drops_older : DropsOlder q displaced older older_dids
  pub oldest : List Dropped
  pub oldest_dids : List Did
  pub trims : TrimsRing (is_ring asks.def.limits) asks.def.limits q oldest oldest_dids
  pub all : own ≡ older ++ oldest
  pub did :
      dids
      ≡ On q (CallReserve asks.slip.size) (IsDepth asks.depth)
      ∷ (On q (CallPut asks.slip (fresh m)) (IsAt row displaced) ∷ (older_dids ++ oldest_dids))
  pub leaves :
      s'
      ≡ record s {
        hands = let_go own s.hands;
        stopped = slice_set s.stopped q asks.now;
        drops = s.drops ++ own;
      }

-- Takes

-- consumer c stands and takes more; it is consumer k of queue q
pub record IsOpen (defs : List Defined) (s : Standing) (c q k : ℕ) (seat : Seat) : Type 0 where
  pub place : place_of defs c ≡ Some (q, k)
  pub there : seat_at s.seats c ≡ Some seat
  pub more : is_full seat ≡ false

-- a take that got something: it is in the hands, and was handed to the consumer's target
pub record Gets (defs : List Defined) (s : Standing) (c id n : ℕ) (dids : List Did) (s' : Standing) : Type 0 where
  pub queue : ℕ
  pub place : ℕ
  pub row : ℕ
  pub list : ℕ
  pub seat : Seat
  pub load : Load
  pub serves : IsOpen defs s c queue place seat
  pub did : dids ≡ On queue (CallNext place) (IsGot row list load) ∷ []
  pub id_is : id ≡ load.id
  pub number : n ≡ number_after load.count
  pub delivery : Delivery
  pub told : IsDelivery c queue n load delivery
  pub leaves :
      s'
      ≡ record s {
        hands = gained (in_hands queue row (delivered n load)) s.hands;
        seats = slice_set s.seats c (Some (served seat delivery));
      }

-- a take that found nothing
pub record Misses (defs : List Defined) (s : Standing) (c : ℕ) (dids : List Did) (s' : Standing) : Type 0 where
  pub queue : ℕ
  pub place : ℕ
  pub seat : Seat
  pub serves : IsOpen defs s c queue place seat
  pub did : dids ≡ On queue (CallNext place) IsEmpty ∷ []
  pub same : s' ≡ s

-- the consumer's target stands and takes no more
abbrev pub IsFull : Standing → ℕ → Type 0
IsFull s c = (seat : Seat) × (seat_at s.seats c ≡ Some seat) × (is_full seat ≡ true)

-- Lines on entries in the hands

-- the line means an entry in the hands, of which this holds
pub record OnHeld (s : Standing) (q : ℕ) (named : Option ℕ) (P : Hand → Type 0) : Type 0 where
  pub hand : Hand
  pub is_meant : meant q named s.hands ≡ Some hand
  pub fact : P hand

-- the entry was left unlocked, and somebody took it since
abbrev pub IsTaken : Standing → RowState → List Did → Standing → Hand → Type 0
IsTaken s state dids s' k =
    (k.cargo ≡ None) × Does s (On k.queue (CallLock k.row) (IsStolen state) ∷ []) (lost k s.hands) dids s'

-- an acknowledgement: locked first where needed, and taken out of the queue
pub record Acks (s : Standing) (id : ℕ) (dids : List Did) (s' : Standing) (k : Hand) : Type 0 where
  pub same_id : id ≡ k.id
  pub load : Load
  pub size : ℕ
  pub does : Does s (lock_first k load ++ drop k.queue k.row size) (lost k s.hands) dids s'

-- a release: locked first where needed, and then made available
pub record Frees (s : Standing) (id : ℕ) (dids : List Did) (s' : Standing) (k : Hand) : Type 0 where
  pub same_id : id ≡ k.id
  pub load : Load
  pub mask : ℕ
  pub does : Does s
      (lock_first k load ++ (On k.queue (CallRelease k.row (cargo_of k load)) (IsReleased mask) ∷ []))
      (lost k s.hands) dids s'

-- a release of an entry of whose key a later one had come: locked first where needed, and dropped
pub record Outdates (s : Standing) (id : ℕ) (dids : List Did) (s' : Standing) (k : Hand) : Type 0 where
  pub same_id : id ≡ k.id
  pub load : Load
  pub size : ℕ
  pub does : Does s
      (lock_first k load
      ++ (On k.queue (CallRelease k.row (cargo_of k load)) (IsOutdated (cargo_of k load)) ∷ drop k.queue k.row size))
      (lost k s.hands) dids s'

-- a lock of an entry that was left unlocked
pub record Locks (s : Standing) (id : ℕ) (dids : List Did) (s' : Standing) (k : Hand) : Type 0 where
  pub same_id : id ≡ k.id
  pub unlocked : k.cargo ≡ None
  pub load : Load
  pub does : Does s (On k.queue (CallLock k.row) (IsLocked load) ∷ []) (replaced (locked_hand k load) s.hands) dids s'

-- an unlock of an entry that is locked
pub record Leaves (s : Standing) (id : ℕ) (dids : List Did) (s' : Standing) (k : Hand) : Type 0 where
  pub same_id : id ≡ k.id
  pub load : Load
  pub locked : k.cargo ≡ Some load
  pub does : Does s (On k.queue (CallUnlock k.row load) IsDone ∷ []) (replaced (left_hand k) s.hands) dids s'

-- no entry fits the line: there is none, or it isn't unlocked, or it isn't locked
abbrev pub NoneUnlocked : Option Hand → Type 0
NoneUnlocked None = Unit {0}
NoneUnlocked (Some k) = k.cargo ≢ None

abbrev pub NoneLocked : Option Hand → Type 0
NoneLocked None = Unit {0}
NoneLocked (Some k) = k.cargo ≡ None

-- Steals

-- the row of this id was found, and a steal of it answered this
abbrev pub tried : ℕ → ℕ → ℕ → Answer → List Did
tried q id row answer = On q (CallFind id) (IsFound (Some row)) ∷ (On q (CallSteal row) answer ∷ [])

-- a steal that got the entry
pub record Steals (s : Standing) (q id : ℕ) (dids : List Did) (s' : Standing) : Type 0 where
  pub row : ℕ
  pub load : Load
  pub same_id : load.id ≡ id
  pub does : Does s (tried q id row (HasStolen load)) (gained (in_hands q row load) s.hands) dids s'

-- The answer fits the line, where the actor stood like this; the line made these calls; and the actor then stands like
-- that. An answer that a line never has does not fit it.
abbrev pub LineFits : List Defined → Standing → What → report.Answer → List Did → Standing → Type 0
LineFits defs s (Put q m) (Accepted id flowed acquired) dids s' =
    (id ≡ m.id) × (flowed ≡ false)
    × ((own : List Dropped) × (acquired ≡ span_of s.drops own) × Puts defs s q m own dids s')
LineFits defs s (Put q m) (Rejected depth) dids s' = Refuses defs s q m (verdict.Rejected depth) dids s'
LineFits defs s (Put q m) (Blocked depth) dids s' = Refuses defs s q m (verdict.Blocked depth) dids s'
LineFits defs s (Take c) Closed dids s' = (seat_at s.seats c ≡ None) × Idle s dids s'
LineFits defs s (Take c) NoCredit dids s' = IsFull s c × Idle s dids s'
LineFits defs s (Take c) Empty dids s' = Misses defs s c dids s'
LineFits defs s (Take c) (Got id n) dids s' = Gets defs s c id n dids s'
LineFits defs s (Close c) Closed dids s' = (dids ≡ []) × (s' ≡ record s { seats = slice_set s.seats c None })
LineFits defs s (Ack q named) (Acked id) dids s' = OnHeld s q named (Acks s id dids s')
LineFits defs s (Ack q named) (Stolen state) dids s' = OnHeld s q named (IsTaken s state dids s')
LineFits defs s (Ack q named) NotHeld dids s' = (meant q named s.hands ≡ None) × Idle s dids s'
LineFits defs s (Release q named) (Released id) dids s' = OnHeld s q named (Frees s id dids s')
LineFits defs s (Release q named) (Outdated id) dids s' = OnHeld s q named (Outdates s id dids s')
LineFits defs s (Release q named) (Stolen state) dids s' = OnHeld s q named (IsTaken s state dids s')
LineFits defs s (Release q named) NotHeld dids s' = (meant q named s.hands ≡ None) × Idle s dids s'
LineFits defs s (Lock q named) (Locked id) dids s' = OnHeld s q named (Locks s id dids s')
LineFits defs s (Lock q named) (Stolen state) dids s' = OnHeld s q named (IsTaken s state dids s')
LineFits defs s (Lock q named) NotHeld dids s' = NoneUnlocked (meant q named s.hands) × Idle s dids s'
LineFits defs s (Unlock q named) (Unlocked id) dids s' = OnHeld s q named (Leaves s id dids s')
LineFits defs s (Unlock q named) NotHeld dids s' = NoneLocked (meant q named s.hands) × Idle s dids s'
LineFits defs s (Steal q id) (Stole told) dids s' = (told ≡ id) × Steals s q id dids s'
LineFits defs s (Steal q id) (NotStealable state) dids s' =
    (row : ℕ) × Does s (tried q id row (IsNotStealable state)) s.hands dids s'
LineFits defs s (Steal q id) (Moved state) dids s' = (row : ℕ) × Does s (tried q id row (IsMoved state)) s.hands dids s'
LineFits defs s (Steal q id) Absent dids s' = Does s (On q (CallFind id) (IsFound None) ∷ []) s.hands dids s'
LineFits defs s what answer dids s' = ⊥

-- the answers fit the lines, one after the other, and these are the calls of all
abbrev pub LinesFit : List Defined → Standing → List Op → List report.Answer → List Did → Standing → Type 0
LinesFit defs s [] [] dids s' = (dids ≡ []) × (s' ≡ s)
LinesFit defs s (op ∷ ops) (a ∷ answers) dids s' =
    (first : List Did) × (mid : Standing) × (others : List Did) × LineFits defs s op.what a first mid
    × LinesFit defs mid ops answers others s' × (dids ≡ first ++ others)
LinesFit defs s ops answers dids s' = ⊥

-- The calls after an actor's last line: each locked entry in the hands is unlocked, in order.

abbrev pub unlock_of : Hand → Option Load → List Did
unlock_of k None = []
unlock_of k (Some load) = On k.queue (CallUnlock k.row load) IsDone ∷ []

abbrev pub unlocks : List Hand → List Did
unlocks hands = flat_map (λ k. unlock_of k k.cargo) hands
