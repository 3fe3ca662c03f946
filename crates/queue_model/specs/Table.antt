-- the table of acts: when an act of a caller has a step, and what the step does
use Rattle.std.specs.Prelude.{◌≡◌, ℕ, ◌+◌, ◌-◌, ◌*◌, ◌^◌, ◌<◌, ◌≤◌, ◌==◌, nat_lt, not, if◌then◌else◌, Option, Some, None, [], ◌∷◌, ◌++◌, filter, unwrap_or}
use Rattle.std.specs.Option.{option_map}
use Rattle.byte_lists.specs.declared.limits.TheConstants.{MOST_BYTES}
use Rattle.queue_model.specs.declared.limits.TheConstants.{MOST_ENTRIES}
use Rattle.queue_model.specs.declared.rows.Row.{Row}
use Rattle.queue_model.specs.declared.rows.RowState.{RowState}
use Rattle.queue_model.specs.declared.rows.RowState.TheVariants.{Available, Locked, Unlocked, Dequeued, Deleted}
use Rattle.queue_model.specs.declared.rows.Slip.{Slip}
use Rattle.queue_model.specs.declared.deeds.Act.{Act}
use Rattle.queue_model.specs.declared.deeds.Act.TheVariants.{Acq, Lock, Unlock, Steal, Rel, Deq, Del, Reserve, GiveBack, Enq, Bell, Take}
use Rattle.queue_model.specs.declared.queues.Queue.{Queue}
use Rattle.queue_model.specs.declared.queues.Reservation.{Reservation}
use Rattle.queue_model.specs.declared.queues.Bell as ring
use Rattle.queue_model.specs.Keyed.{alter}
use Rattle.queue_model.specs.State.{is_row, row_at, IsIn, list_at, place_at, size_at, is_holder, nothing, reserved_by, is_bell, entries}

-- the greatest size of a message, in bytes
abbrev pub most_bytes : ℕ
most_bytes = MOST_BYTES

-- the greatest number of entries of a queue
abbrev pub most_entries : ℕ
most_entries = MOST_ENTRIES

-- When an act has a step

-- a slip that fits a queue with so many lists and consumers
pub record FitsQueue (lists consumers : ℕ) (slip : Slip) : Type 0 where
  pub size : slip.size ≤ most_bytes
  pub list : slip.list < lists
  pub mask : slip.mask < 2 ^ consumers

-- One entry of this size can be taken out of a reservation. No bytes are left without an entry.
pub record CanGive (v : Reservation) (size : ℕ) : Type 0 where
  pub entry : 0 < v.entries
  pub bytes : size ≤ v.bytes
  pub rest : v.bytes ≤ size + most_bytes * (v.entries - 1)

-- a new row of this slip may come: a number that no row has, a slip that fits the queue, and a reserved entry
pub record CanEnqueue (q : Queue) (h r : ℕ) (slip : Slip) : Type 0 where
  pub new : row_at q r ≡ None
  pub fits : FitsQueue q.lists q.consumers slip
  pub reserved : CanGive (reserved_by q h) slip.size

-- the act of caller h has a step in this state
abbrev pub Can : Queue → ℕ → Act → Type 0
Can q h (Acq r) = IsIn q r Available
Can q h (Lock r) = IsIn q r (Unlocked h)
Can q h (Unlock r n) = IsIn q r (Locked h)
Can q h (Steal r) = (x : ℕ) × IsIn q r (Unlocked x)
Can q h (Rel r n) = IsIn q r (Locked h)
Can q h (Deq r) = IsIn q r (Locked h)
Can q h (Del r) = IsIn q r Dequeued
Can q h (Reserve size) = (size ≤ most_bytes) × (entries q < most_entries)
Can q h (GiveBack size) = CanGive (reserved_by q h) size
Can q h (Enq r slip content origin n) = CanEnqueue q h r slip
Can q h (Bell r c) = ((x : Row) × (row_at q r ≡ Some x)) × (c < q.consumers)
Can q h (Take c l) = (c < q.consumers) × (l < q.lists)

-- What a step does

-- the row in another state
abbrev pub in_state : RowState → Row → Row
in_state s x = record x { state = s }

-- the row in another state, with another count
abbrev pub left_in : RowState → ℕ → Row → Row
left_in s n x = record x { state = s; count = n }

-- one row is changed
abbrev pub changed : Queue → ℕ → (Row → Row) → Queue
changed q r f = record q { rows = alter (is_row r) (option_map f) q.rows }

-- with one entry of this size more
abbrev pub with_more : Reservation → ℕ → Reservation
with_more v size = record v { entries = v.entries + 1; bytes = v.bytes + size }

-- with one entry of this size less
abbrev pub with_less : Reservation → ℕ → Reservation
with_less v size = record v { entries = v.entries - 1; bytes = v.bytes - size }

-- what a caller has reserved, if anything, with one entry of this size more
abbrev pub more : ℕ → ℕ → Option Reservation → Option Reservation
more h size o = Some (with_more (unwrap_or o (nothing h)) size)

-- what a caller has reserved, if anything, with one entry of this size less; of the last entry nothing stays
abbrev pub less : ℕ → Option Reservation → Option Reservation
less size None = None
less size (Some v) = if v.entries == 1 then None else Some (with_less v size)

-- caller h has one more entry of this size reserved
abbrev pub reserving : Queue → ℕ → ℕ → Queue
reserving q h size = record q { reserved = alter (is_holder h) (more h size) q.reserved }

-- caller h has one reserved entry of this size less
abbrev pub giving_back : Queue → ℕ → ℕ → Queue
giving_back q h size = record q { reserved = alter (is_holder h) (less size) q.reserved }

-- a new row stands at the end
abbrev pub appending : Queue → Row → Queue
appending q x = record q { rows = q.rows ++ x ∷ [] }

-- the earlier of a bell that was rung before, if any, and a new one
abbrev pub earlier : ring.Bell → Option ring.Bell → Option ring.Bell
earlier b None = Some b
earlier b (Some a) = if nat_lt b.place a.place then Some b else Some a

-- the bell is rung
abbrev pub ringing : Queue → ring.Bell → Queue
ringing q b = record q { bells = alter (is_bell b.consumer b.list) (earlier b) q.bells }

-- the state after the step; it means something only where the act has one
abbrev pub acted : Queue → ℕ → Act → Queue
acted q h (Acq r) = changed q r (in_state (Locked h))
acted q h (Lock r) = changed q r (in_state (Locked h))
acted q h (Unlock r n) = changed q r (left_in (Unlocked h) n)
acted q h (Steal r) = changed q r (in_state (Locked h))
acted q h (Rel r n) = changed q r (left_in Available n)
acted q h (Deq r) = reserving (changed q r (in_state Dequeued)) h (size_at q r)
acted q h (Del r) = changed q r (in_state Deleted)
acted q h (Reserve size) = reserving q h size
acted q h (GiveBack size) = giving_back q h size
acted q h (Enq r slip content origin n) =
    appending (giving_back q h slip.size) (record { number = r; slip = slip; state = Available; content = content; origin = origin; count = n })
acted q h (Bell r c) = ringing q (record { consumer = c; list = list_at q r; place = place_at q r; row = r })
acted q h (Take c l) = record q { bells = filter (λ b. not (is_bell c l b)) q.bells }
