-- what holds of every state that an opening leads to
use Rattle.std.specs.Prelude.{◌≡◌, ℕ, ◌*◌, ◌<◌, ◌≤◌, Bool, [], length}
use Rattle.std.specs.List.{AllByRecursion}
use Rattle.queue_model.specs.declared.rows.Row.{Row}
use Rattle.queue_model.specs.declared.rows.RowState.TheVariants.{Available}
use Rattle.queue_model.specs.declared.queues.Bell.{Bell}
use Rattle.queue_model.specs.declared.queues.Queue.{Queue}
use Rattle.queue_model.specs.declared.queues.Reservation.{Reservation}
use Rattle.queue_model.specs.Keyed.{Apart}
use Rattle.queue_model.specs.State.{is_row, is_holder, is_bell, entries}
use Rattle.queue_model.specs.Table.{FitsQueue, most_bytes, most_entries}

-- the row's slip fits a queue with so many lists and consumers
abbrev pub RowFits : ℕ → ℕ → Row → Type 0
RowFits lists consumers x = FitsQueue lists consumers x.slip

-- a reservation has an entry, and for each entry at most the bytes of the largest message
pub record IsSized (v : Reservation) : Type 0 where
  pub entry : 0 < v.entries
  pub bytes : v.bytes ≤ most_bytes * v.entries

-- both rows have one number
abbrev pub same_number : Row → Row → Bool
same_number x = is_row x.number

-- both reservations are of one caller
abbrev pub same_holder : Reservation → Reservation → Bool
same_holder v = is_holder v.holder

-- both bells are of one consumer at one list
abbrev pub same_bell : Bell → Bell → Bool
same_bell b = is_bell b.consumer b.list

-- a bell of a consumer and a list that the queue has
pub record RingsIn (lists consumers : ℕ) (b : Bell) : Type 0 where
  pub consumer : b.consumer < consumers
  pub list : b.list < lists

-- No number stands twice, no caller has two reservations, no bell two places; each row, reservation and bell is within its limits.
pub record Sound (q : Queue) : Type 0 where
  pub rows_apart : Apart same_number q.rows
  pub rows_fit : AllByRecursion (RowFits q.lists q.consumers) q.rows
  pub reserved_apart : Apart same_holder q.reserved
  pub reserved_sized : AllByRecursion IsSized q.reserved
  pub bells_apart : Apart same_bell q.bells
  pub bells_fit : AllByRecursion (RingsIn q.lists q.consumers) q.bells
  pub small : entries q ≤ most_entries

-- a state that a queue may begin with: available rows alone, within the limits
pub record IsOpening (q : Queue) : Type 0 where
  pub rows_apart : Apart same_number q.rows
  pub rows_fit : AllByRecursion (RowFits q.lists q.consumers) q.rows
  pub available : AllByRecursion (λ x. x.state ≡ Available) q.rows
  pub reserved : q.reserved ≡ []
  pub bells : q.bells ≡ []
  pub few : length q.rows ≤ most_entries
