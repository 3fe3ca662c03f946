-- what a caller's own acts do
use Rattle.std.proofs.Common.{◌≡◌, ◌≢◌, ℕ, ◌+◌, ◌==◌, Option, Some, None, List, [], ◌∷◌, ◌++◌, length, filter, find, refl, sym, ap, ◌∙◌, subst, ⊎_elim, eq-eqb, eqb-true, arith}
use Rattle.std.proofs.lemmas.Bool.{cases_eq, cond-true}
use Rattle.std.proofs.lemmas.List.Elements.{filter-append}
use Rattle.std.specs.List.{position_or_len, AllByRecursion}
use Rattle.std.specs.Option.{unwrap_or}
use mathlib.Core.List.{IsPrefix, append_cancel_left}
use Rattle.queue_model.specs.declared.deeds.Act.{Act}
use Rattle.queue_model.specs.declared.deeds.Act.TheVariants.{Acq, Lock, Unlock, Steal, Rel, Deq, Del, Reserve, GiveBack, Enq, Bell, Take}
use Rattle.queue_model.specs.declared.deeds.Deed.{Deed}
use Rattle.queue_model.specs.declared.queues.Queue.{Queue}
use Rattle.queue_model.specs.declared.queues.Reservation.{Reservation}
use Rattle.queue_model.specs.declared.rows.Row.{Row}
use Rattle.queue_model.specs.declared.rows.RowState.{RowState}
use Rattle.queue_model.specs.declared.rows.RowState.TheVariants.{Available, Locked, Unlocked, Dequeued, Deleted}
use Rattle.queue_model.specs.declared.rows.Slip.{Slip}
use Rattle.queue_model.specs.History.{after, Legal, own, deed, deeds_of}
use Rattle.queue_model.specs.Laws.{KeepsLock, GainsLock}
use Rattle.queue_model.specs.Sound.{Sound, same_holder}
use Rattle.queue_model.specs.State.{is_row, row_at, IsIn, is_of_list, rows_of, place_at, size_at, is_holder, nothing, reserved_by}
use Rattle.queue_model.specs.Table.{CanGive, Can, in_state, left_in, changed, more, less, with_more, with_less, reserving, giving_back, acted}
use Rattle.queue_model.proofs.KeyedLemmas.{find-append, find-alter_gone, find_none-filter, position-push}
use Rattle.queue_model.proofs.RowFacts.{row_number, row_here, row_push, reserved_alter, reserved_holder, less_last, less_more}
use Rattle.queue_model.proofs.SoundSteps.{list_found}
use Rattle.queue_model.proofs.Stable.{same_state, untouched, apart_rows, held_step, held_stays}
use Rattle.queue_model.proofs.Histories.{after-append, legal_rest, own-append, own-cons_mine, own-cons_other}

-- The row of an act

-- the changed row is in its new state
pub changed_in : (q : Queue) (r : ℕ) (f : Row → Row) (x : Row) (s : RowState) → row_at q r ≡ Some x → (f x).number ≡ x.number → (f x).state ≡ s → IsIn (changed q r f) r s
changed_in q r f x s found number state = (f x, row_here q r f x found (number ∙ row_number q r x found), state)

-- an acquired row is held
pub own_acquired : (q : Queue) (h r : ℕ) → Can q h (Acq r) → IsIn (acted q h (Acq r)) r (Locked h)
own_acquired q h r can = changed_in q r (in_state (Locked h)) can.0 (Locked h) can.1 refl refl

-- a row that was left and is locked again is held
pub own_locked : (q : Queue) (h r : ℕ) → Can q h (Lock r) → IsIn (acted q h (Lock r)) r (Locked h)
own_locked q h r can = changed_in q r (in_state (Locked h)) can.0 (Locked h) can.1 refl refl

-- a stolen row is held
pub own_stolen : (q : Queue) (h r : ℕ) → Can q h (Steal r) → IsIn (acted q h (Steal r)) r (Locked h)
own_stolen q h r can = changed_in q r (in_state (Locked h)) can.1.0 (Locked h) can.1.1 refl refl

-- a row that is left is the caller's to lock
pub own_unlocked : (q : Queue) (h r n : ℕ) → Can q h (Unlock r n) → IsIn (acted q h (Unlock r n)) r (Unlocked h)
own_unlocked q h r n can = changed_in q r (left_in (Unlocked h) n) can.0 (Unlocked h) can.1 refl refl

-- a released row is available
pub own_released : (q : Queue) (h r n : ℕ) → Can q h (Rel r n) → IsIn (acted q h (Rel r n)) r Available
own_released q h r n can = changed_in q r (left_in Available n) can.0 Available can.1 refl refl

-- a dequeued row is out of the queue
pub own_dequeued : (q : Queue) (h r : ℕ) → Can q h (Deq r) → IsIn (acted q h (Deq r)) r Dequeued
own_dequeued q h r can = changed_in q r (in_state Dequeued) can.0 Dequeued can.1 refl refl

-- a deleted row is gone
pub own_deleted : (q : Queue) (h r : ℕ) → Can q h (Del r) → IsIn (acted q h (Del r)) r Deleted
own_deleted q h r can = changed_in q r (in_state Deleted) can.0 Deleted can.1 refl refl

-- Reservations

-- two reservations with the same three numbers are one
same_reservation : (u v : Reservation) → u.holder ≡ v.holder → u.entries ≡ v.entries → u.bytes ≡ v.bytes → u ≡ v
same_reservation u v a b c =
    ap (λ (n : ℕ). let w : Reservation = record { holder = n; entries = u.entries; bytes = u.bytes } in w) a
    ∙ ap (λ (n : ℕ). let w : Reservation = record { holder = v.holder; entries = n; bytes = u.bytes } in w) b
    ∙ ap (λ (n : ℕ). let w : Reservation = record { holder = v.holder; entries = v.entries; bytes = n } in w) c

-- a holder, where something is found or not
holder_or : (h : ℕ) (o : Option Reservation) → ((v : Reservation) → o ≡ Some v → v.holder ≡ h) → (unwrap_or o (nothing h)).holder ≡ h
holder_or h None holder = refl
holder_or h (Some v) holder = holder v refl

-- what a caller has reserved is its own
pub reserved_by_holder : (q : Queue) (h : ℕ) → (reserved_by q h).holder ≡ h
reserved_by_holder q h = holder_or h (find (is_holder h) q.reserved) (reserved_holder q h)

-- one entry more, and its bytes
pub own_reserving : (q : Queue) (h size : ℕ) → reserved_by (reserving q h size) h ≡ with_more (reserved_by q h) size
own_reserving q h size =
    ap (λ (o : Option Reservation). unwrap_or o (nothing h))
    (reserved_alter h (more h size) q.reserved (with_more (reserved_by q h) size) refl (reserved_by_holder q h))

-- what is left, by what is found
giving_by : (q : Queue) (h size : ℕ) (o : Option Reservation) → Sound q → find (is_holder h) q.reserved ≡ o → CanGive (unwrap_or o (nothing h)) size
    → reserved_by (giving_back q h size) h ≡ with_less (unwrap_or o (nothing h)) size
giving_by q h size None sound found can = absurd (omega (arith, can.entry))
giving_by q h size (Some v) sound found can = ⊎_elim
    (λ (last : v.entries ≡ 1).
    let gone : find (is_holder h) (giving_back q h size).reserved ≡ None =
    find-alter_gone same_holder (is_holder h) (less size) q.reserved (λ x z here out. ap (λ (n : ℕ). z.holder == n) (sym (eqb-true x.holder h here)) ∙ out) sound.reserved_apart (ap (less size) found ∙ less_last size v last) in
    ap (λ (o : Option Reservation). unwrap_or o (nothing h)) gone
    ∙ same_reservation (nothing h) (with_less v size) (sym (reserved_holder q h v found)) (omega arith) (omega (arith, can.bytes, can.rest)))
    (λ (many : v.entries ≢ 1).
    ap (λ (o : Option Reservation). unwrap_or o (nothing h))
    (reserved_alter h (less size) q.reserved (with_less v size) (ap (less size) found ∙ less_more size v many) (reserved_holder q h v found)))
    (cases_eq v.entries 1)

-- one entry less, and its bytes
pub own_giving : (q : Queue) (h size : ℕ) → Sound q → CanGive (reserved_by q h) size → reserved_by (giving_back q h size) h ≡ with_less (reserved_by q h) size
own_giving q h size sound can = giving_by q h size (find (is_holder h) q.reserved) sound refl can

-- a dequeued row becomes reserved
pub own_dequeue_reserves : (q : Queue) (h r : ℕ) → reserved_by (acted q h (Deq r)) h ≡ record (reserved_by q h) { entries = (reserved_by q h).entries + 1; bytes = (reserved_by q h).bytes + size_at q r }
own_dequeue_reserves q h r = own_reserving (changed q r (in_state Dequeued)) h (size_at q r)

-- New rows

-- the new row is there
pub own_enqueued : (q : Queue) (h r : ℕ) (slip : Slip) (content origin : List ℕ) (n : ℕ) → Can q h (Enq r slip content origin n)
    → row_at (acted q h (Enq r slip content origin n)) r ≡ Some (record { number = r; slip = slip; state = Available; content = content; origin = origin; count = n })
own_enqueued q h r slip content origin n can = row_push r q.rows (record { number = r; slip = slip; state = Available; content = content; origin = origin; count = n }) can.new refl

-- a new row has the last place of its list
last_place : (q : Queue) (r l : ℕ) (y : Row) → row_at q r ≡ None → y.number ≡ r → y.slip.list ≡ l → position_or_len (is_row r) (filter (is_of_list l) (q.rows ++ y ∷ [])) ≡ length (rows_of q l)
last_place q r l y new number list =
    ap (position_or_len (is_row r)) (filter-append (is_of_list l) q.rows (y ∷ []) ∙ ap (λ (zs : List Row). rows_of q l ++ zs) (cond-true (is_of_list l y) (y ∷ []) [] (eq-eqb y.slip.list l list)))
    ∙ position-push (is_row r) (rows_of q l) y (find_none-filter (is_row r) (is_of_list l) q.rows new) (eq-eqb y.number r number)

-- and it is the last of its list
pub own_enqueued_last : (q : Queue) (h r : ℕ) (slip : Slip) (content origin : List ℕ) (n : ℕ) → Can q h (Enq r slip content origin n) → place_at (acted q h (Enq r slip content origin n)) r ≡ length (rows_of q slip.list)
own_enqueued_last q h r slip content origin n can =
    let y : Row = record { number = r; slip = slip; state = Available; content = content; origin = origin; count = n } in
    ap (λ (l : ℕ). position_or_len (is_row r) (filter (is_of_list l) (q.rows ++ y ∷ []))) (list_found (acted q h (Enq r slip content origin n)) r y (own_enqueued q h r slip content origin n can))
    ∙ last_place q r slip.list y can.new refl refl

-- Locks that stay

-- a row that h holds is held after an own act that keeps it
held_mine : (q : Queue) (h : ℕ) (a : Act) (r : ℕ) → Can q h a → KeepsLock r a → IsIn q r (Locked h) → IsIn (acted q h a) r (Locked h)
held_mine q h (Acq s) r can keeps held = (held.0, untouched q s r (in_state (Locked h)) held.0 (apart_rows q s r held.0 Available held.1 can (λ e. cc)) (λ z. refl) held.1, held.2)
held_mine q h (Lock s) r can keeps held = (held.0, untouched q s r (in_state (Locked h)) held.0 (apart_rows q s r held.0 (Unlocked h) held.1 can (λ e. cc)) (λ z. refl) held.1, held.2)
held_mine q h (Unlock s n) r can keeps held = (held.0, untouched q s r (left_in (Unlocked h) n) held.0 keeps (λ z. refl) held.1, held.2)
held_mine q h (Steal s) r can keeps held = (held.0, untouched q s r (in_state (Locked h)) held.0 (apart_rows q s r held.0 (Unlocked can.0) held.1 can.1 (λ e. cc)) (λ z. refl) held.1, held.2)
held_mine q h (Rel s n) r can keeps held = (held.0, untouched q s r (left_in Available n) held.0 keeps (λ z. refl) held.1, held.2)
held_mine q h (Deq s) r can keeps held = (held.0, untouched q s r (in_state Dequeued) held.0 keeps (λ z. refl) held.1, held.2)
held_mine q h (Del s) r can keeps held = (held.0, untouched q s r (in_state Deleted) held.0 (apart_rows q s r held.0 Dequeued held.1 can (λ e. cc)) (λ z. refl) held.1, held.2)
held_mine q h (Reserve size) r can keeps held = (held.0, held.1, held.2)
held_mine q h (GiveBack size) r can keeps held = (held.0, held.1, held.2)
held_mine q h (Enq s slip content origin n) r can keeps held = (held.0, find-append (is_row r) q.rows (record { number = s; slip = slip; state = Available; content = content; origin = origin; count = n } ∷ []) held.0 held.1, held.2)
held_mine q h (Bell s c) r can keeps held = (held.0, held.1, held.2)
held_mine q h (Take c l) r can keeps held = (held.0, held.1, held.2)

-- the first own deed
mine_first : (h : ℕ) (d : Deed) (ds es : List Deed) (a : Act) → d.caller ≡ h → own h (d ∷ ds) ≡ deed h a ∷ es → (d ≡ deed h a) × (own h ds ≡ es)
mine_first h d ds es a mine all =
    let e : d ∷ own h ds ≡ deed h a ∷ es = subst (λ (k : ℕ). d ∷ own k ds ≡ own k (d ∷ ds)) mine (sym (own-cons_mine d ds)) ∙ all in
    (cc, cc)

-- a row that h holds stays held over own acts that keep it, whatever others do
pub lock_kept : (q : Queue) (ds : List Deed) (h r : ℕ) (acts : List Act) → Legal q ds → own h ds ≡ deeds_of h acts → AllByRecursion (KeepsLock r) acts → IsIn q r (Locked h) → IsIn (after q ds) r (Locked h)
lock_kept q [] h r acts legal mine keep held = held
lock_kept q (d ∷ ds) h r [] legal mine keep held = held_stays q (d ∷ ds) h r mine legal held
lock_kept q (d ∷ ds) h r (a ∷ acts) legal mine keep held = ⊎_elim
    (λ (me : d.caller ≡ h).
    let m = mine_first h d ds (deeds_of h acts) a me mine in
    let can : Can q h a = subst (λ (e : Deed). Can q e.caller e.act) m.0 legal.0 in
    let next : IsIn (acted q d.caller d.act) r (Locked h) = subst (λ (e : Deed). IsIn (acted q e.caller e.act) r (Locked h)) (sym m.0) (held_mine q h a r can keep.0 held) in
    lock_kept (acted q d.caller d.act) ds h r acts legal.1 m.1 keep.1 next)
    (λ (other : d.caller ≢ h).
    lock_kept (acted q d.caller d.act) ds h r (a ∷ acts) legal.1 (sym (own-cons_other h d ds other) ∙ mine) keep (held_step q d.caller h d.act r other legal.0 held))
    (cases_eq d.caller h)

-- the own deeds behind a prefix
pub own_rest : (h : ℕ) (ds es fs : List Deed) (p : IsPrefix ds es) → own h es ≡ own h ds ++ fs → own h p.0 ≡ fs
own_rest h ds es fs p more = append_cancel_left (own h ds) (own h p.0) fs (sym (own-append h ds p.0) ∙ ap (own h) p.1 ∙ more)

-- the state at the end of a history is that after the rest of it
after_rest : (o : Queue) (ds es : List Deed) (p : IsPrefix ds es) → after (after o ds) p.0 ≡ after o es
after_rest o ds es p = sym (after-append o ds p.0) ∙ ap (after o) p.1

-- the same from one history to a longer one
pub lock_stays : (o : Queue) (s0 s1 : List Deed) (h r : ℕ) (acts : List Act) → IsPrefix s0 s1 → Legal o s1 → own h s1 ≡ own h s0 ++ deeds_of h acts → AllByRecursion (KeepsLock r) acts → IsIn (after o s0) r (Locked h) → IsIn (after o s1) r (Locked h)
lock_stays o s0 s1 h r acts p legal more keep held =
    let whole : Legal o (s0 ++ p.0) = subst (Legal o) (sym p.1) legal in
    subst (λ (q : Queue). IsIn q r (Locked h)) (after_rest o s0 s1 p)
    (lock_kept (after o s0) p.0 h r acts (legal_rest o s0 p.0 whole) (own_rest h s0 s1 (deeds_of h acts) p more) keep held)

-- Locks that are gained

-- a row that is taken is held, and was not held before
gained : (q : Queue) (h s r : ℕ) (t : RowState) → t ≢ Locked h → s ≡ r → IsIn q s t → IsIn (changed q s (in_state (Locked h))) r (Locked h) × ((x : ℕ) → IsIn q x (Locked h) → x ≢ r)
gained q h s r t differ e can = (
  subst (λ (n : ℕ). IsIn (changed q s (in_state (Locked h))) n (Locked h)) e (changed_in q s (in_state (Locked h)) can.0 (Locked h) can.1 refl refl),
  λ x held f. differ (same_state q s t (Locked h) can (subst (λ (n : ℕ). IsIn q n (Locked h)) (f ∙ sym e) held)),
)

-- an act that gains a row makes it held, and it was not held before
gains_step : (q : Queue) (h : ℕ) (a : Act) (r : ℕ) → Can q h a → GainsLock r a → IsIn (acted q h a) r (Locked h) × ((x : ℕ) → IsIn q x (Locked h) → x ≢ r)
gains_step q h (Acq s) r can gains = gained q h s r Available (λ e. cc) gains can
gains_step q h (Lock s) r can gains = gained q h s r (Unlocked h) (λ e. cc) gains can
gains_step q h (Unlock s n) r can gains = absurd gains
gains_step q h (Steal s) r can gains = gained q h s r (Unlocked can.0) (λ e. cc) gains can.1
gains_step q h (Rel s n) r can gains = absurd gains
gains_step q h (Deq s) r can gains = absurd gains
gains_step q h (Del s) r can gains = absurd gains
gains_step q h (Reserve size) r can gains = absurd gains
gains_step q h (GiveBack size) r can gains = absurd gains
gains_step q h (Enq s slip content origin n) r can gains = absurd gains
gains_step q h (Bell s c) r can gains = absurd gains
gains_step q h (Take c l) r can gains = absurd gains

-- the same over deeds of others
pub lock_gained : (q : Queue) (ds : List Deed) (h r : ℕ) (a : Act) → Legal q ds → own h ds ≡ deed h a ∷ [] → GainsLock r a → IsIn (after q ds) r (Locked h) × ((x : ℕ) → IsIn q x (Locked h) → x ≢ r)
lock_gained q [] h r a legal mine gains = absurd (cc)
lock_gained q (d ∷ ds) h r a legal mine gains = ⊎_elim
    (λ (me : d.caller ≡ h).
    let m = mine_first h d ds [] a me mine in
    let can : Can q h a = subst (λ (e : Deed). Can q e.caller e.act) m.0 legal.0 in
    let g = gains_step q h a r can gains in
    let next : IsIn (acted q d.caller d.act) r (Locked h) = subst (λ (e : Deed). IsIn (acted q e.caller e.act) r (Locked h)) (sym m.0) g.0 in
    (held_stays (acted q d.caller d.act) ds h r m.1 legal.1 next, g.1))
    (λ (other : d.caller ≢ h).
    let t = lock_gained (acted q d.caller d.act) ds h r a legal.1 (sym (own-cons_other h d ds other) ∙ mine) gains in
    (t.0, λ x held. t.1 x (held_step q d.caller h d.act x other legal.0 held)))
    (cases_eq d.caller h)

-- a caller whose only new act gains a row holds it, and held it not before
pub gains : (o : Queue) (s0 s1 : List Deed) (h r : ℕ) (a : Act) → IsPrefix s0 s1 → Legal o s1 → own h s1 ≡ own h s0 ++ deeds_of h (a ∷ []) → GainsLock r a → IsIn (after o s1) r (Locked h) × ((x : ℕ) → IsIn (after o s0) x (Locked h) → x ≢ r)
gains o s0 s1 h r a p legal more gain =
    let whole : Legal o (s0 ++ p.0) = subst (Legal o) (sym p.1) legal in
    let t = lock_gained (after o s0) p.0 h r a (legal_rest o s0 p.0 whole) (own_rest h s0 s1 (deed h a ∷ []) p more) gain in
    (subst (λ (q : Queue). IsIn q r (Locked h)) (after_rest o s0 s1 p) t.0, t.1)
