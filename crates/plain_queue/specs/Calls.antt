-- the calls of a one-thread queue of one list, and the acts that they are
use Rattle.std.specs.Prelude.{◌≡◌, ◌≢◌, ℕ, Bool, true, false, ◌&&◌, ◌==◌, Option, Some, None, List, [], ◌∷◌, length, find}
use Rattle.queue_model.specs.declared.deeds.Act.{Act}
use Rattle.queue_model.specs.declared.deeds.Act.TheVariants.{Acq, Rel, Deq, Del, Reserve, GiveBack, Enq}
use Rattle.queue_model.specs.declared.queues.Queue.{Queue}
use Rattle.queue_model.specs.declared.rows.Row.{Row}
use Rattle.queue_model.specs.declared.rows.RowState.{RowState}
use Rattle.queue_model.specs.declared.rows.RowState.TheVariants.{Available, Locked}
use Rattle.queue_model.specs.declared.rows.Slip.{Slip}
use Rattle.queue_model.specs.History.{Does}
use Rattle.queue_model.specs.Order.{ByList, Precedes}
use Rattle.queue_model.specs.Sound.{Sound}
use Rattle.queue_model.specs.State.{row_at}

-- nobody has the row
abbrev pub is_available : RowState → Bool
is_available Available = true
is_available s = false

-- caller h holds the row
abbrev pub is_locked_by : ℕ → RowState → Bool
is_locked_by h (Locked k) = k == h
is_locked_by h s = false

-- the first row that is available, by arrival
abbrev pub first_available : Queue → Option Row
first_available q = find (λ x. is_available x.state) q.rows

-- the first row of this id that the caller holds
abbrev pub held_row : Queue → ℕ → ℕ → Option Row
held_row q h id = find (λ x. is_locked_by h x.state && (x.slip.id == id)) q.rows

-- the slip of a message in a queue that has one list and no consumers
abbrev pub plain_slip : ℕ → List ℕ → Slip
plain_slip id content = record { id = id; size = length content; mask = 0; list = 0; key = None }

-- a put reserves and then enqueues, as the row whose number is the next
abbrev pub put_acts : Queue → ℕ → List ℕ → List Act
put_acts q id content = Reserve (length content) ∷ Enq (length q.rows) (plain_slip id content) content [] 0 ∷ []

-- a take acquires the row
abbrev pub take_acts : Row → List Act
take_acts x = Acq x.number ∷ []

-- a release makes the row available again, with a count of no deliveries
abbrev pub release_acts : Row → List Act
release_acts x = Rel x.number 0 ∷ []

-- an acknowledgement takes the row out, gives its entry back, and deletes it
abbrev pub ack_acts : Row → List Act
ack_acts x = Deq x.number ∷ GiveBack x.slip.size ∷ Del x.number ∷ []

-- A take acquires the first available row. It answers none exactly where no row is available, and then nothing changed.
abbrev pub Takes : ℕ → Queue → Option ℕ → Queue → Type 0
Takes h old None new = (first_available old ≡ None) × (new ≡ old)
Takes h old (Some id) new = (x : Row) × (first_available old ≡ Some x) × (id ≡ x.slip.id) × Does old h (take_acts x) new

-- A call on a held row does these acts. It answers false exactly where the caller holds no row of the id, and then nothing changed.
abbrev pub Handles : (Row → List Act) → ℕ → ℕ → Queue → Bool → Queue → Type 0
Handles acts h id old false new = (held_row old h id ≡ None) × (new ≡ old)
Handles acts h id old true new = (x : Row) × (held_row old h id ≡ Some x) × Does old h (acts x) new

-- In a queue of one list the first available row comes before each other available row, in queue order.
abbrev pub FirstInOrder : Type 0
FirstInOrder = (q : Queue) (x : Row) → Sound q → q.lists ≡ 1 → first_available q ≡ Some x
    → (row_at q x.number ≡ Some x) × (x.state ≡ Available) × ((y : Row) → row_at q y.number ≡ Some y → y.state ≡ Available → y.number ≢ x.number → Precedes ByList q x y)
