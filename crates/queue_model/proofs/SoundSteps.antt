-- sound states stay sound
use Rattle.std.proofs.Common.{◌≡◌, ◌≢◌, ℕ, ◌-◌, ◌<◌, ◌≤◌, Bool, true, false, not, ◌==◌, nat_lt, Option, Some, None, List, [], ◌∷◌, length, filter, find, sum_by, option_map, if◌then◌else◌, ◌⊎◌, inl, inr, unwrap_or, refl, sym, ap, ◌∙◌, subst, ⊎_elim, le_of_eq, le_trans, eq-eqb, ne_eqb, eqb-true, arith}
use Rattle.std.proofs.lemmas.Bool.{eqb-false, cases_Bool, and_parts, and_from, cond-true, cond-false}
use Rattle.std.proofs.lemmas.List.Sums.{sum_by-cons}
use Rattle.std.specs.Option.{option_map_or}
use Rattle.std.specs.List.{AllByRecursion}
use Rattle.queue_model.specs.declared.deeds.Act.{Act}
use Rattle.queue_model.specs.declared.deeds.Act.TheVariants.{Acq, Lock, Unlock, Steal, Rel, Deq, Del, Reserve, GiveBack, Enq, Bell, Take}
use Rattle.queue_model.specs.declared.deeds.Deed.{Deed}
use Rattle.queue_model.specs.declared.queues.Bell as ring
use Rattle.queue_model.specs.declared.queues.Queue.{Queue}
use Rattle.queue_model.specs.declared.queues.Reservation.{Reservation}
use Rattle.queue_model.specs.declared.rows.Row.{Row}
use Rattle.queue_model.specs.declared.rows.RowState.TheVariants.{Available, Locked, Unlocked, Dequeued, Deleted}
use Rattle.queue_model.specs.History.{after, Legal}
use Rattle.queue_model.specs.Keyed.{Apart}
use Rattle.queue_model.specs.Laws.{KeepsDepth}
use Rattle.queue_model.specs.Sound.{Sound, RowFits, IsSized, RingsIn, IsOpening, same_number, same_holder, same_bell}
use Rattle.queue_model.specs.State.{is_row, row_at, list_at, place_at, size_at, is_holder, nothing, reserved_by, is_bell, counts, row_entries, entries}
use Rattle.queue_model.specs.Table.{FitsQueue, CanGive, Can, in_state, left_in, changed, more, less, with_more, with_less, reserving, giving_back, appending, earlier, ringing, acted, most_bytes, most_entries}
use Rattle.queue_model.proofs.KeyedLemmas.{find_passes, all-find, all-alter, all-push, all-filter, apart-alter, apart-push, apart-filter}
use Rattle.queue_model.proofs.RowFacts.{changed_number, reserved_holder, more_holder, less_some}
use Rattle.queue_model.proofs.Depths.{depth_kept, depth_dequeued, depth_reserving, depth_giving, size_found}

-- Keys

-- rows of two numbers are apart
number_splits : (r : ℕ) (x y : Row) → is_row r x ≡ false → is_row r y ≡ true → same_number x y ≡ false
number_splits r x y out here = ne_eqb y.number x.number (λ e. eqb-false x.number r out (sym e ∙ eqb-true y.number r here))

-- a row of the same number is apart from the same rows
number_joins : (r : ℕ) (x y z : Row) → is_row r x ≡ true → is_row r y ≡ true → same_number x z ≡ false → same_number y z ≡ false
number_joins r x y z here also out = ap (λ (n : ℕ). z.number == n) (eqb-true y.number r also ∙ sym (eqb-true x.number r here)) ∙ out

-- reservations of two callers are apart
holder_splits : (h : ℕ) (u v : Reservation) → is_holder h u ≡ false → is_holder h v ≡ true → same_holder u v ≡ false
holder_splits h u v out here = ne_eqb v.holder u.holder (λ e. eqb-false u.holder h out (sym e ∙ eqb-true v.holder h here))

-- a reservation of the same caller is apart from the same ones
holder_joins : (h : ℕ) (u v w : Reservation) → is_holder h u ≡ true → is_holder h v ≡ true → same_holder u w ≡ false → same_holder v w ≡ false
holder_joins h u v w here also out = ap (λ (n : ℕ). w.holder == n) (eqb-true v.holder h also ∙ sym (eqb-true u.holder h here)) ∙ out

-- a bell that passes has that consumer and that list
pub bell_key : (c l : ℕ) (b : ring.Bell) → is_bell c l b ≡ true → (b.consumer ≡ c) × (b.list ≡ l)
bell_key c l b e = let p = and_parts (b.consumer == c) (b.list == l) e in (eqb-true b.consumer c p.0, eqb-true b.list l p.1)

-- and the other way round
pub bell_from_key : (c l : ℕ) (b : ring.Bell) → b.consumer ≡ c → b.list ≡ l → is_bell c l b ≡ true
bell_from_key c l b e f = and_from (b.consumer == c) (b.list == l) (eq-eqb b.consumer c e) (eq-eqb b.list l f)

-- bells of two places are apart
bell_splits : (c l : ℕ) (a b : ring.Bell) → is_bell c l a ≡ false → is_bell c l b ≡ true → same_bell a b ≡ false
bell_splits c l a b out here = ⊎_elim
    (λ (same : same_bell a b ≡ true).
    let k = bell_key a.consumer a.list b same in
    let t = bell_key c l b here in
    let passes : is_bell c l a ≡ true = bell_from_key c l a (sym k.0 ∙ t.0) (sym k.1 ∙ t.1) in
    absurd (cc))
    (λ (apart : same_bell a b ≡ false). apart)
    (cases_Bool (same_bell a b))

-- a bell of the same place is apart from the same ones
bell_joins : (c l : ℕ) (a b z : ring.Bell) → is_bell c l a ≡ true → is_bell c l b ≡ true → same_bell a z ≡ false → same_bell b z ≡ false
bell_joins c l a b z here also out =
    let s = bell_key c l a here in
    let t = bell_key c l b also in
    ap (λ (n : ℕ). is_bell n b.list z) (t.0 ∙ sym s.0) ∙ ap (λ (n : ℕ). is_bell a.consumer n z) (t.1 ∙ sym s.1) ∙ out

-- Rows

-- what a change of a row makes comes from a row
mapped : (f : Row → Row) (o : Option Row) (y : Row) → option_map f o ≡ Some y → (x : Row) × (o ≡ Some x) × (f x ≡ y)
mapped f None y e = absurd (cc)
mapped f (Some x) y e = (x, refl, cc)

-- a row of the same slip fits
fit_same : (l c : ℕ) (x y : Row) → RowFits l c x → y.slip ≡ x.slip → RowFits l c y
fit_same l c x y fit same = subst (FitsQueue l c) (sym same) fit

-- a change that keeps the number and the slip
pub sound_changed : (q : Queue) (r : ℕ) (f : Row → Row) → Sound q → ((x : Row) → (f x).number ≡ x.number) → ((x : Row) → (f x).slip ≡ x.slip) → entries (changed q r f) ≤ most_entries → Sound (changed q r f)
sound_changed q r f sound number slip few = record {
  rows_apart = apart-alter same_number (is_row r) (option_map f) q.rows (number_splits r) (number_joins r) (λ y e. eq-eqb y.number r (changed_number q r f number y e)) sound.rows_apart;
  rows_fit = all-alter (RowFits q.lists q.consumers) (is_row r) (option_map f) q.rows sound.rows_fit
      (λ y e. let m = mapped f (row_at q r) y e in
      fit_same q.lists q.consumers m.0 y (all-find (RowFits q.lists q.consumers) (is_row r) q.rows m.0 sound.rows_fit m.1) (ap (λ (z : Row). z.slip) (sym m.2) ∙ slip m.0));
  reserved_apart = sound.reserved_apart;
  reserved_sized = sound.reserved_sized;
  bells_apart = sound.bells_apart;
  bells_fit = sound.bells_fit;
  small = few;
}

-- a new row of a new number that fits
pub sound_appending : (q : Queue) (x : Row) → Sound q → row_at q x.number ≡ None → RowFits q.lists q.consumers x → entries (appending q x) ≤ most_entries → Sound (appending q x)
sound_appending q x sound new fit few = record {
  rows_apart = apart-push same_number (is_row x.number) q.rows x (λ z out. number_splits x.number z x out (eq-eqb x.number x.number refl)) new sound.rows_apart;
  rows_fit = all-push (RowFits q.lists q.consumers) q.rows x sound.rows_fit fit;
  reserved_apart = sound.reserved_apart;
  reserved_sized = sound.reserved_sized;
  bells_apart = sound.bells_apart;
  bells_fit = sound.bells_fit;
  small = few;
}

-- a row that is found fits
pub row_fits : (q : Queue) (r : ℕ) (x : Row) → Sound q → row_at q r ≡ Some x → RowFits q.lists q.consumers x
row_fits q r x sound found = all-find (RowFits q.lists q.consumers) (is_row r) q.rows x sound.rows_fit found

-- Reservations

-- one entry more is within its limits
more_sized : (h size : ℕ) (o : Option Reservation) (v : Reservation) → size ≤ most_bytes → ((u : Reservation) → o ≡ Some u → IsSized u) → more h size o ≡ Some v → IsSized v
more_sized h size None v small sized e =
    let same : with_more (nothing h) size ≡ v = cc in
    record { entry = omega (arith, ap (λ (u : Reservation). u.entries) same); bytes = omega (arith, ap (λ (u : Reservation). u.entries) same, ap (λ (u : Reservation). u.bytes) same) }
more_sized h size (Some u) v small sized e =
    let same : with_more u size ≡ v = cc in
    let old : IsSized u = sized u refl in
    record { entry = omega (arith, ap (λ (w : Reservation). w.entries) same); bytes = omega (arith, old.bytes, ap (λ (w : Reservation). w.entries) same, ap (λ (w : Reservation). w.bytes) same) }

-- a caller's reservation with one entry more
pub sound_reserving : (q : Queue) (h size : ℕ) → Sound q → size ≤ most_bytes → entries (reserving q h size) ≤ most_entries → Sound (reserving q h size)
sound_reserving q h size sound small few = record {
  rows_apart = sound.rows_apart;
  rows_fit = sound.rows_fit;
  reserved_apart = apart-alter same_holder (is_holder h) (more h size) q.reserved (holder_splits h) (holder_joins h)
      (λ v e. eq-eqb v.holder h (more_holder h size (find (is_holder h) q.reserved) v (reserved_holder q h) e)) sound.reserved_apart;
  reserved_sized = all-alter IsSized (is_holder h) (more h size) q.reserved sound.reserved_sized
      (λ v e. more_sized h size (find (is_holder h) q.reserved) v small (λ u found. all-find IsSized (is_holder h) q.reserved u sound.reserved_sized found) e);
  bells_apart = sound.bells_apart;
  bells_fit = sound.bells_fit;
  small = few;
}

-- what a caller has reserved, where something is found
pub reserved_found : (q : Queue) (h : ℕ) (v : Reservation) → find (is_holder h) q.reserved ≡ Some v → reserved_by q h ≡ v
reserved_found q h v found = ap (λ (o : Option Reservation). unwrap_or o (nothing h)) found

-- what is left is within its limits
less_sized : (u v : Reservation) (size : ℕ) → CanGive u size → u.entries ≢ 1 → v ≡ with_less u size → IsSized v
less_sized u v size can many same =
    let number : v.entries ≡ u.entries - 1 = ap (λ (w : Reservation). w.entries) same in
    let volume : v.bytes ≡ u.bytes - size = ap (λ (w : Reservation). w.bytes) same in
    record { entry = omega (arith, can.entry, number); bytes = omega (arith, can.bytes, can.rest, can.entry, number, volume) }

-- a caller's reservation with one entry less
pub sound_giving : (q : Queue) (h size : ℕ) → Sound q → CanGive (reserved_by q h) size → entries (giving_back q h size) ≤ most_entries → Sound (giving_back q h size)
sound_giving q h size sound can few = record {
  rows_apart = sound.rows_apart;
  rows_fit = sound.rows_fit;
  reserved_apart = apart-alter same_holder (is_holder h) (less size) q.reserved (holder_splits h) (holder_joins h)
      (λ v e. let u = less_some size (find (is_holder h) q.reserved) v e in eq-eqb v.holder h (ap (λ (w : Reservation). w.holder) u.3 ∙ reserved_holder q h u.0 u.1))
      sound.reserved_apart;
  reserved_sized = all-alter IsSized (is_holder h) (less size) q.reserved sound.reserved_sized
      (λ v e. let u = less_some size (find (is_holder h) q.reserved) v e in
      less_sized u.0 v size (subst (λ (w : Reservation). CanGive w size) (reserved_found q h u.0 u.1) can) u.2 u.3);
  bells_apart = sound.bells_apart;
  bells_fit = sound.bells_fit;
  small = few;
}

-- Bells

-- the earlier of two bells is one of them
pub earlier_is : (b : ring.Bell) (o : Option ring.Bell) (d : ring.Bell) → earlier b o ≡ Some d → (d ≡ b) ⊎ (o ≡ Some d)
earlier_is b None d e = inl (cc)
earlier_is b (Some a) d e = ⊎_elim
    (λ (first : nat_lt b.place a.place ≡ true).
    let new : Some b ≡ Some d = sym (cond-true (nat_lt b.place a.place) (Some b) (Some a) first) ∙ e in
    inl (cc))
    (λ (second : nat_lt b.place a.place ≡ false). inr (sym (cond-false (nat_lt b.place a.place) (Some b) (Some a) second) ∙ e))
    (cases_Bool (nat_lt b.place a.place))

-- a bell of a consumer and a list that the queue has
pub sound_ringing : (q : Queue) (b : ring.Bell) → Sound q → b.consumer < q.consumers → b.list < q.lists → Sound (ringing q b)
sound_ringing q b sound consumer list = record {
  rows_apart = sound.rows_apart;
  rows_fit = sound.rows_fit;
  reserved_apart = sound.reserved_apart;
  reserved_sized = sound.reserved_sized;
  bells_apart = apart-alter same_bell (is_bell b.consumer b.list) (earlier b) q.bells (bell_splits b.consumer b.list) (bell_joins b.consumer b.list)
      (λ d e. ⊎_elim
      (λ (new : d ≡ b). bell_from_key b.consumer b.list d (ap (λ (a : ring.Bell). a.consumer) new) (ap (λ (a : ring.Bell). a.list) new))
      (λ (old : find (is_bell b.consumer b.list) q.bells ≡ Some d). find_passes (is_bell b.consumer b.list) q.bells d old)
      (earlier_is b (find (is_bell b.consumer b.list) q.bells) d e))
      sound.bells_apart;
  bells_fit = all-alter (RingsIn q.lists q.consumers) (is_bell b.consumer b.list) (earlier b) q.bells sound.bells_fit
      (λ d e. ⊎_elim
      (λ (new : d ≡ b). subst (RingsIn q.lists q.consumers) (sym new) (record { consumer = consumer; list = list }))
      (λ (old : find (is_bell b.consumer b.list) q.bells ≡ Some d). all-find (RingsIn q.lists q.consumers) (is_bell b.consumer b.list) q.bells d sound.bells_fit old)
      (earlier_is b (find (is_bell b.consumer b.list) q.bells) d e));
  small = sound.small;
}

-- without some bells
pub sound_taking : (q : Queue) (t : ring.Bell → Bool) → Sound q → Sound (record q { bells = filter t q.bells })
sound_taking q t sound = record {
  rows_apart = sound.rows_apart;
  rows_fit = sound.rows_fit;
  reserved_apart = sound.reserved_apart;
  reserved_sized = sound.reserved_sized;
  bells_apart = apart-filter same_bell t q.bells sound.bells_apart;
  bells_fit = all-filter (RingsIn q.lists q.consumers) t q.bells sound.bells_fit;
  small = sound.small;
}

-- Steps

-- the list of a row that is found
pub list_found : (q : Queue) (r : ℕ) (x : Row) → row_at q r ≡ Some x → list_at q r ≡ x.slip.list
list_found q r x found = ap (λ (o : Option Row). option_map_or (λ (y : Row). y.slip.list) o 0) found

-- an act that keeps the depth keeps it small
few_kept : (q : Queue) (h : ℕ) (a : Act) → Can q h a → KeepsDepth a → Sound q → entries (acted q h a) ≤ most_entries
few_kept q h a can keeps sound = le_trans (le_of_eq (depth_kept q h a can keeps).0) sound.small

-- each step leaves a sound state sound
pub sound_step : (q : Queue) (h : ℕ) (a : Act) → Can q h a → Sound q → Sound (acted q h a)
sound_step q h (Acq r) can sound = sound_changed q r (in_state (Locked h)) sound (λ x. refl) (λ x. refl) (few_kept q h (Acq r) can tt sound)
sound_step q h (Lock r) can sound = sound_changed q r (in_state (Locked h)) sound (λ x. refl) (λ x. refl) (few_kept q h (Lock r) can tt sound)
sound_step q h (Unlock r n) can sound = sound_changed q r (left_in (Unlocked h) n) sound (λ x. refl) (λ x. refl) (few_kept q h (Unlock r n) can tt sound)
sound_step q h (Steal r) can sound = sound_changed q r (in_state (Locked h)) sound (λ x. refl) (λ x. refl) (few_kept q h (Steal r) can tt sound)
sound_step q h (Rel r n) can sound = sound_changed q r (left_in Available n) sound (λ x. refl) (λ x. refl) (few_kept q h (Rel r n) can tt sound)
sound_step q h (Deq r) can sound =
    let out = (depth_dequeued q r can.0 can.1 (ap counts can.2)).0 in
    let mid : Sound (changed q r (in_state Dequeued)) = sound_changed q r (in_state Dequeued) sound (λ x. refl) (λ x. refl) (omega (arith, out, sound.small)) in
    let size : size_at q r ≤ most_bytes = omega (arith, size_found q r can.0 can.1, (row_fits q r can.0 sound can.1).size) in
    sound_reserving (changed q r (in_state Dequeued)) h (size_at q r) mid size (few_kept q h (Deq r) can tt sound)
sound_step q h (Del r) can sound = sound_changed q r (in_state Deleted) sound (λ x. refl) (λ x. refl) (few_kept q h (Del r) can tt sound)
sound_step q h (Reserve size) can sound = sound_reserving q h size sound can.0 (omega (arith, (depth_reserving q h size).0, can.1))
sound_step q h (GiveBack size) can sound = sound_giving q h size sound can (omega (arith, (depth_giving q h size can).0, sound.small))
sound_step q h (Enq r slip content origin n) can sound =
    let mid : Sound (giving_back q h slip.size) = sound_giving q h slip.size sound can.reserved (omega (arith, (depth_giving q h slip.size can.reserved).0, sound.small)) in
    sound_appending (giving_back q h slip.size) (record { number = r; slip = slip; state = Available; content = content; origin = origin; count = n }) mid can.new
    (can.fits) (few_kept q h (Enq r slip content origin n) can tt sound)
sound_step q h (Bell r c) can sound =
    let list : list_at q r < q.lists = subst (λ (l : ℕ). l < q.lists) (sym (list_found q r can.0.0 can.0.1)) (row_fits q r can.0.0 sound can.0.1).list in
    sound_ringing q (record { consumer = c; list = list_at q r; place = place_at q r; row = r }) sound can.1 list
sound_step q h (Take c l) can sound = sound_taking q (λ b. not (is_bell c l b)) sound

-- all steps of a legal history do
pub sound_after : (q : Queue) (ds : List Deed) → Sound q → Legal q ds → Sound (after q ds)
sound_after q [] sound legal = sound
sound_after q (d ∷ ds) sound legal = sound_after (acted q d.caller d.act) ds (sound_step q d.caller d.act legal.0 sound) legal.1

-- Openings

-- a row is at most one entry
row_entries-le-one : (x : Row) → row_entries x ≤ 1
row_entries-le-one x = elim (counts x.state) as (λ b. (if b then 1 else 0) ≤ 1) [ true ↦ omega arith | false ↦ omega arith ]

-- all rows are at most as many entries as rows
sum_entries : (xs : List Row) → sum_by row_entries xs ≤ length xs
sum_entries [] = omega arith
sum_entries (x ∷ xs) = omega (arith, sum_by-cons row_entries x xs, row_entries-le-one x, sum_entries xs)

-- what a queue may begin with is sound
pub sound_opening : (q : Queue) → IsOpening q → Sound q
sound_opening q opening = record {
  rows_apart = opening.rows_apart;
  rows_fit = opening.rows_fit;
  reserved_apart = subst (Apart same_holder) (sym opening.reserved) tt;
  reserved_sized = subst (AllByRecursion IsSized) (sym opening.reserved) tt;
  bells_apart = subst (Apart same_bell) (sym opening.bells) tt;
  bells_fit = subst (AllByRecursion (RingsIn q.lists q.consumers)) (sym opening.bells) tt;
  small = omega (arith, sum_entries q.rows, opening.few, ap (λ (vs : List Reservation). sum_by (λ (v : Reservation). v.entries) vs) opening.reserved);
}
