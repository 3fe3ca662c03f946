-- what a step does to the depth
use Rattle.std.proofs.Common.{◌≡◌, ◌≢◌, ℕ, ◌+◌, ◌*◌, ◌≤◌, Bool, true, false, Option, Some, None, find, sum_by, option_map, if◌then◌else◌, refl, sym, ap, ap₂, ◌∙◌, ⊎_elim, arith}
use Rattle.std.proofs.lemmas.Bool.{cases_eq}
use Rattle.std.proofs.lemmas.List.Sums.{sum_by_push}
use Rattle.std.specs.Option.{option_map_or, unwrap_or}
use Rattle.queue_model.specs.declared.deeds.Act.{Act}
use Rattle.queue_model.specs.declared.deeds.Act.TheVariants.{Acq, Lock, Unlock, Steal, Rel, Deq, Del, Reserve, GiveBack, Enq, Bell, Take}
use Rattle.queue_model.specs.declared.queues.Queue.{Queue}
use Rattle.queue_model.specs.declared.queues.Reservation.{Reservation}
use Rattle.queue_model.specs.declared.rows.Row.{Row}
use Rattle.queue_model.specs.declared.rows.RowState.TheVariants.{Available, Locked, Unlocked, Dequeued, Deleted}
use Rattle.queue_model.specs.Laws.{KeepsDepth}
use Rattle.queue_model.specs.Sound.{Sound, RowFits, IsSized}
use Rattle.queue_model.specs.State.{is_row, row_at, size_at, is_holder, nothing, reserved_by, counts, row_entries, row_bytes, entries, bytes}
use Rattle.queue_model.specs.Table.{CanGive, Can, in_state, left_in, changed, more, less, reserving, giving_back, appending, acted, most_bytes}
use Rattle.queue_model.proofs.KeyedLemmas.{sum-alter, sum_by-le-times, all-weaker}
use Rattle.queue_model.proofs.RowFacts.{less_last, less_more}

-- the two states have one depth
abbrev pub SameDepth : Queue → Queue → Type 0
SameDepth p q = (entries p ≡ entries q) × (bytes p ≡ bytes q)

-- Rows

-- a change of one row in a sum over all rows
pub changed_sum : (w : Row → ℕ) (q : Queue) (r : ℕ) (f : Row → Row) (x : Row) → row_at q r ≡ Some x → sum_by w (changed q r f).rows + w x ≡ sum_by w q.rows + w (f x)
changed_sum w q r f x found =
    let old : option_map_or w (row_at q r) 0 ≡ w x = ap (λ (o : Option Row). option_map_or w o 0) found in
    let new : option_map_or w (option_map f (row_at q r)) 0 ≡ w (f x) = ap (λ (o : Option Row). option_map_or w (option_map f o) 0) found in
    omega (arith, sum-alter w (is_row r) (option_map f) q.rows)

-- a row that counts as before has the entries of before
same_entries : (x y : Row) → counts y.state ≡ counts x.state → row_entries y ≡ row_entries x
same_entries x y e = ap (λ (b : Bool). if b then 1 else 0) e

-- and its bytes
same_bytes : (x y : Row) → y.slip.size ≡ x.slip.size → counts y.state ≡ counts x.state → row_bytes y ≡ row_bytes x
same_bytes x y s e = ap₂ (λ (b : Bool) (n : ℕ). if b then n else 0) e s

-- a row that counts as before leaves the depth
pub depth_changed : (q : Queue) (r : ℕ) (f : Row → Row) (x : Row) → row_at q r ≡ Some x → (f x).slip.size ≡ x.slip.size → counts (f x).state ≡ counts x.state → SameDepth (changed q r f) q
depth_changed q r f x found size count =
    (omega (arith, changed_sum row_entries q r f x found, same_entries x (f x) count), omega (arith, changed_sum row_bytes q r f x found, same_bytes x (f x) size count))

-- the size of a row that is found
pub size_found : (q : Queue) (r : ℕ) (x : Row) → row_at q r ≡ Some x → size_at q r ≡ x.slip.size
size_found q r x found = ap (λ (o : Option Row). option_map_or (λ (y : Row). y.slip.size) o 0) found

-- a row that counts is one entry
counts_entries : (x : Row) → counts x.state ≡ true → row_entries x ≡ 1
counts_entries x e = ap (λ (b : Bool). if b then 1 else 0) e

-- of its size
counts_bytes : (x : Row) → counts x.state ≡ true → row_bytes x ≡ x.slip.size
counts_bytes x e = ap (λ (b : Bool). if b then x.slip.size else 0) e

-- a row that no longer counts takes its entry and its bytes out of the depth
pub depth_dequeued : (q : Queue) (r : ℕ) (x : Row) → row_at q r ≡ Some x → counts x.state ≡ true → (entries (changed q r (in_state Dequeued)) + 1 ≡ entries q) × (bytes (changed q r (in_state Dequeued)) + size_at q r ≡ bytes q)
depth_dequeued q r x found count =
    let few : sum_by row_entries (changed q r (in_state Dequeued)).rows + row_entries x ≡ sum_by row_entries q.rows + 0 = changed_sum row_entries q r (in_state Dequeued) x found in
    let small : sum_by row_bytes (changed q r (in_state Dequeued)).rows + row_bytes x ≡ sum_by row_bytes q.rows + 0 = changed_sum row_bytes q r (in_state Dequeued) x found in
    (omega (arith, few, counts_entries x count), omega (arith, small, counts_bytes x count, size_found q r x found))

-- Reservations

-- one entry more
more_entries : (h size : ℕ) (o : Option Reservation) → option_map_or (λ (v : Reservation). v.entries) (more h size o) 0 ≡ option_map_or (λ (v : Reservation). v.entries) o 0 + 1
more_entries h size None = omega arith
more_entries h size (Some v) = refl

-- and its bytes
more_bytes : (h size : ℕ) (o : Option Reservation) → option_map_or (λ (v : Reservation). v.bytes) (more h size o) 0 ≡ option_map_or (λ (v : Reservation). v.bytes) o 0 + size
more_bytes h size None = omega arith
more_bytes h size (Some v) = refl

-- a reservation adds its entry and its bytes
pub depth_reserving : (q : Queue) (h size : ℕ) → (entries (reserving q h size) ≡ entries q + 1) × (bytes (reserving q h size) ≡ bytes q + size)
depth_reserving q h size = (
  omega (arith, sum-alter (λ (v : Reservation). v.entries) (is_holder h) (more h size) q.reserved, more_entries h size (find (is_holder h) q.reserved)),
  omega (arith, sum-alter (λ (v : Reservation). v.bytes) (is_holder h) (more h size) q.reserved, more_bytes h size (find (is_holder h) q.reserved)),
)

-- one entry less, and its bytes
less_weights : (h size : ℕ) (o : Option Reservation) → CanGive (unwrap_or o (nothing h)) size
    → (option_map_or (λ (v : Reservation). v.entries) (less size o) 0 + 1 ≡ option_map_or (λ (v : Reservation). v.entries) o 0) × (option_map_or (λ (v : Reservation). v.bytes) (less size o) 0 + size ≡ option_map_or (λ (v : Reservation). v.bytes) o 0)
less_weights h size None can = absurd (omega (arith, can.entry))
less_weights h size (Some v) can = ⊎_elim
    (λ (last : v.entries ≡ 1).
    rw (less_last size v last) (omega arith, omega (arith, can.bytes, can.rest)))
    (λ (many : v.entries ≢ 1).
    rw (less_more size v many) (omega (arith, can.entry), omega (arith, can.bytes)))
    (cases_eq v.entries 1)

-- what is given back takes its entry and its bytes out
pub depth_giving : (q : Queue) (h size : ℕ) → CanGive (reserved_by q h) size → (entries (giving_back q h size) + 1 ≡ entries q) × (bytes (giving_back q h size) + size ≡ bytes q)
depth_giving q h size can =
    let w = less_weights h size (find (is_holder h) q.reserved) can in (
      omega (arith, sum-alter (λ (v : Reservation). v.entries) (is_holder h) (less size) q.reserved, w.0),
      omega (arith, sum-alter (λ (v : Reservation). v.bytes) (is_holder h) (less size) q.reserved, w.1),
    )

-- a new row that counts adds its entry and its bytes
pub depth_appending : (q : Queue) (x : Row) → counts x.state ≡ true → (entries (appending q x) ≡ entries q + 1) × (bytes (appending q x) ≡ bytes q + x.slip.size)
depth_appending q x count =
    (omega (arith, sum_by_push row_entries q.rows x, counts_entries x count), omega (arith, sum_by_push row_bytes q.rows x, counts_bytes x count))

-- Steps

-- each other act leaves the depth as it is
pub depth_kept : (q : Queue) (h : ℕ) (a : Act) → Can q h a → KeepsDepth a → SameDepth (acted q h a) q
depth_kept q h (Acq r) can keeps = depth_changed q r (in_state (Locked h)) can.0 can.1 refl (sym (ap counts can.2))
depth_kept q h (Lock r) can keeps = depth_changed q r (in_state (Locked h)) can.0 can.1 refl (sym (ap counts can.2))
depth_kept q h (Unlock r n) can keeps = depth_changed q r (left_in (Unlocked h) n) can.0 can.1 refl (sym (ap counts can.2))
depth_kept q h (Steal r) can keeps = depth_changed q r (in_state (Locked h)) can.1.0 can.1.1 refl (sym (ap counts can.1.2))
depth_kept q h (Rel r n) can keeps = depth_changed q r (left_in Available n) can.0 can.1 refl (sym (ap counts can.2))
depth_kept q h (Deq r) can keeps =
    let out = depth_dequeued q r can.0 can.1 (ap counts can.2) in
    let back = depth_reserving (changed q r (in_state Dequeued)) h (size_at q r) in
    (back.0 ∙ out.0, back.1 ∙ out.1)
depth_kept q h (Del r) can keeps = depth_changed q r (in_state Deleted) can.0 can.1 refl (sym (ap counts can.2))
depth_kept q h (Reserve size) can keeps = absurd keeps
depth_kept q h (GiveBack size) can keeps = absurd keeps
depth_kept q h (Enq r slip content origin n) can keeps =
    let out = depth_giving q h slip.size can.reserved in
    let back = depth_appending (giving_back q h slip.size) (record { number = r; slip = slip; state = Available; content = content; origin = origin; count = n }) refl in
    (back.0 ∙ out.0, back.1 ∙ out.1)
depth_kept q h (Bell r c) can keeps = (refl, refl)
depth_kept q h (Take c l) can keeps = (refl, refl)

-- a row has at most the bytes of the largest message
row_low : (x : Row) → x.slip.size ≤ most_bytes → row_bytes x ≤ most_bytes * row_entries x
row_low x small = elim (counts x.state) as (λ b. (if b then x.slip.size else 0) ≤ most_bytes * (if b then 1 else 0)) [ true ↦ omega arith | false ↦ omega arith ]

-- for each entry at most the bytes of the largest message
pub depth_low : (q : Queue) → Sound q → bytes q ≤ most_bytes * entries q
depth_low q sound =
    let rows : sum_by row_bytes q.rows ≤ most_bytes * sum_by row_entries q.rows =
    sum_by-le-times row_bytes row_entries most_bytes q.rows (all-weaker (RowFits q.lists q.consumers) (λ (x : Row). row_bytes x ≤ most_bytes * row_entries x) q.rows (λ x fit. row_low x fit.size) sound.rows_fit) in
    let kept : sum_by (λ (v : Reservation). v.bytes) q.reserved ≤ most_bytes * sum_by (λ (v : Reservation). v.entries) q.reserved =
    sum_by-le-times (λ (v : Reservation). v.bytes) (λ (v : Reservation). v.entries) most_bytes q.reserved (all-weaker IsSized (λ (v : Reservation). v.bytes ≤ most_bytes * v.entries) q.reserved (λ v sized. sized.bytes) sound.reserved_sized) in
    omega (arith, rows, kept)
