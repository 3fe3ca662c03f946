-- what can be read off the state of a queue
use Rattle.std.specs.Prelude.{◌≡◌, ℕ, ◌+◌, Bool, true, false, ◌&&◌, ◌==◌, if◌then◌else◌, Option, Some, List, [], filter, find, sum_by, unwrap_or}
use Rattle.std.specs.Option.{option_map_or}
use Rattle.std.specs.List.{position_or_len}
use Rattle.queue_model.specs.declared.rows.Row.{Row}
use Rattle.queue_model.specs.declared.rows.RowState.{RowState}
use Rattle.queue_model.specs.declared.rows.RowState.TheVariants.{Available, Locked, Unlocked, Dequeued, Deleted}
use Rattle.queue_model.specs.declared.queues.Bell.{Bell}
use Rattle.queue_model.specs.declared.queues.Depth.{Depth}
use Rattle.queue_model.specs.declared.queues.Queue.{Queue}
use Rattle.queue_model.specs.declared.queues.Reservation.{Reservation}

-- a queue with so many lists and consumers, and nothing in it
abbrev pub empty : ℕ → ℕ → Queue
empty lists consumers = record { lists = lists; consumers = consumers; rows = []; reserved = []; bells = [] }

-- Rows

-- the row's number is r
abbrev pub is_row : ℕ → Row → Bool
is_row r x = x.number == r

-- the row of this number, if there is one
abbrev pub row_at : Queue → ℕ → Option Row
row_at q r = find (is_row r) q.rows

-- the queue has row r, and it is in this state
abbrev pub IsIn : Queue → ℕ → RowState → Type 0
IsIn q r s = (x : Row) × (row_at q r ≡ Some x) × (x.state ≡ s)

-- the row is in list l
abbrev pub is_of_list : ℕ → Row → Bool
is_of_list l x = x.slip.list == l

-- the rows of a list, in order of arrival
abbrev pub rows_of : Queue → ℕ → List Row
rows_of q l = filter (is_of_list l) q.rows

-- the list that a row is in
abbrev pub list_at : Queue → ℕ → ℕ
list_at q r = option_map_or (λ x. x.slip.list) (row_at q r) 0

-- the place of a row in its list, from 0; rows never leave, so it never changes
abbrev pub place_at : Queue → ℕ → ℕ
place_at q r = position_or_len (is_row r) (rows_of q (list_at q r))

-- the size of row r, 0 where there is none
abbrev pub size_at : Queue → ℕ → ℕ
size_at q r = option_map_or (λ x. x.slip.size) (row_at q r) 0

-- Reservations

-- the reservation is of caller h
abbrev pub is_holder : ℕ → Reservation → Bool
is_holder h v = v.holder == h

-- no reservation of caller h: no entries and no bytes
abbrev pub nothing : ℕ → Reservation
nothing h = record { holder = h; entries = 0; bytes = 0 }

-- what a caller has reserved
abbrev pub reserved_by : Queue → ℕ → Reservation
reserved_by q h = unwrap_or (find (is_holder h) q.reserved) (nothing h)

-- Bells

-- the bell is of consumer c at list l
abbrev pub is_bell : ℕ → ℕ → Bell → Bool
is_bell c l b = (b.consumer == c) && (b.list == l)

-- the bell of a consumer at a list, if it was rung and not taken
abbrev pub bell_at : Queue → ℕ → ℕ → Option Bell
bell_at q c l = find (is_bell c l) q.bells

-- the bell is of a row of list l, and has its place
pub record IsBellOf (q : Queue) (l : ℕ) (b : Bell) : Type 0 where
  pub rung : Row
  pub found : row_at q b.row ≡ Some rung
  pub list : rung.slip.list ≡ l
  pub place : b.place ≡ place_at q b.row

-- each bell that was rung is of a row of its list
abbrev pub BellsRing : Queue → Type 0
BellsRing q = (c l : ℕ) (b : Bell) → bell_at q c l ≡ Some b → IsBellOf q l b

-- Depth

-- whether a row in this state counts towards the depth
abbrev pub counts : RowState → Bool
counts Available = true
counts (Locked h) = true
counts (Unlocked h) = true
counts Dequeued = false
counts Deleted = false

-- what a row adds to the entries of the depth: 1, or 0 where it doesn't count
abbrev pub row_entries : Row → ℕ
row_entries x = if counts x.state then 1 else 0

-- what a row adds to the bytes of the depth: its size, or 0 where it doesn't count
abbrev pub row_bytes : Row → ℕ
row_bytes x = if counts x.state then x.slip.size else 0

-- the entries of the depth
abbrev pub entries : Queue → ℕ
entries q = sum_by row_entries q.rows + sum_by (λ v. v.entries) q.reserved

-- the bytes of the depth
abbrev pub bytes : Queue → ℕ
bytes q = sum_by row_bytes q.rows + sum_by (λ v. v.bytes) q.reserved

-- the sum over the rows that count and over all that callers have reserved
abbrev pub depth : Queue → Depth
depth q = record { entries = entries q; bytes = bytes q }
