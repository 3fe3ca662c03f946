-- what steps leave as it is
use Rattle.std.proofs.Common.{◌≡◌, ◌≢◌, ◌⊎◌, inl, inr, ℕ, ◌==◌, Option, Some, None, List, [], ◌∷◌, ◌++◌, filter, find, refl, sym, ap, ◌∙◌, subst, ⊎_elim, eq-eqb}
use Rattle.std.proofs.lemmas.Bool.{cases_eq}
use Rattle.std.proofs.lemmas.List.Elements.{filter-append}
use Rattle.std.specs.List.{position_or_len}
use Rattle.std.specs.Option.{unwrap_or}
use Rattle.queue_model.specs.declared.deeds.Act.{Act}
use Rattle.queue_model.specs.declared.deeds.Act.TheVariants.{Acq, Lock, Unlock, Steal, Rel, Deq, Del, Reserve, GiveBack, Enq, Bell, Take}
use Rattle.queue_model.specs.declared.deeds.Deed.{Deed}
use Rattle.queue_model.specs.declared.queues.Queue.{Queue}
use Rattle.queue_model.specs.declared.queues.Reservation.{Reservation}
use Rattle.queue_model.specs.declared.rows.Row.{Row}
use Rattle.queue_model.specs.declared.rows.RowState.{RowState}
use Rattle.queue_model.specs.declared.rows.RowState.TheVariants.{Available, Locked, Unlocked, Dequeued, Deleted}
use Rattle.queue_model.specs.declared.rows.Slip.{Slip}
use Rattle.queue_model.specs.History.{after, Legal, own}
use Rattle.queue_model.specs.Laws.{SameGoods}
use Rattle.queue_model.specs.State.{is_row, row_at, IsIn, is_of_list, rows_of, list_at, place_at, size_at, is_holder, nothing, reserved_by}
use Rattle.queue_model.specs.Table.{Can, in_state, left_in, changed, more, less, reserving, giving_back, acted}
use Rattle.queue_model.proofs.KeyedLemmas.{find-append, find-filter, position-append, position-filter_alter}
use Rattle.queue_model.proofs.RowFacts.{row_number, row_here, row_elsewhere, reserved_alter_other, reserved_holder, more_holder, less_some}
use Rattle.queue_model.proofs.SoundSteps.{list_found}
use Rattle.queue_model.proofs.Histories.{own-cons_mine, own-cons_other}

-- No own deed

-- where a caller has no deed the first is another's
pub first_other : (h : ℕ) (d : Deed) (ds : List Deed) → own h (d ∷ ds) ≡ [] → d.caller ≢ h
first_other h d ds none mine =
    let e : own d.caller (d ∷ ds) ≡ [] = subst (λ (k : ℕ). own k (d ∷ ds) ≡ []) (sym mine) none in
    let f : d ∷ own d.caller ds ≡ [] = sym (own-cons_mine d ds) ∙ e in
    absurd (cc)

-- and so are the others
pub rest_other : (h : ℕ) (d : Deed) (ds : List Deed) → own h (d ∷ ds) ≡ [] → own h ds ≡ []
rest_other h d ds none = sym (own-cons_other h d ds (first_other h d ds none)) ∙ none

-- Rows stay

-- goods that are the same as the same ones are the same
same_goods_trans : (x y z : Row) → SameGoods x y → SameGoods y z → SameGoods x z
same_goods_trans x y z p r = record { number = r.number ∙ p.number; slip = r.slip ∙ p.slip; content = r.content ∙ p.content; origin = r.origin ∙ p.origin }

-- a row has its own goods
same_goods_self : (x : Row) → SameGoods x x
same_goods_self x = record { number = refl; slip = refl; content = refl; origin = refl }

-- a change that keeps the goods leaves each row its own
row_changed : (q : Queue) (s r : ℕ) (f : Row → Row) (x : Row) → ((z : Row) → SameGoods z (f z)) → row_at q r ≡ Some x → (y : Row) × (row_at (changed q s f) r ≡ Some y) × SameGoods x y
row_changed q s r f x kept found = ⊎_elim
    (λ (e : s ≡ r).
    let here : row_at q s ≡ Some x = ap (row_at q) e ∙ found in
    let number : (f x).number ≡ s = (kept x).number ∙ row_number q s x here in
    (f x, subst (λ (n : ℕ). row_at (changed q s f) n ≡ Some (f x)) e (row_here q s f x here number), kept x))
    (λ (other : s ≢ r). (x, row_elsewhere q s r f other (λ z. (kept z).number) ∙ found, same_goods_self x))
    (cases_eq s r)

-- a row keeps its number, slip, content and origin in each step
pub row_step : (q : Queue) (h : ℕ) (a : Act) (r : ℕ) (x : Row) → row_at q r ≡ Some x → (y : Row) × (row_at (acted q h a) r ≡ Some y) × SameGoods x y
row_step q h (Acq s) r x found = row_changed q s r (in_state (Locked h)) x (λ z. record { number = refl; slip = refl; content = refl; origin = refl }) found
row_step q h (Lock s) r x found = row_changed q s r (in_state (Locked h)) x (λ z. record { number = refl; slip = refl; content = refl; origin = refl }) found
row_step q h (Unlock s n) r x found = row_changed q s r (left_in (Unlocked h) n) x (λ z. record { number = refl; slip = refl; content = refl; origin = refl }) found
row_step q h (Steal s) r x found = row_changed q s r (in_state (Locked h)) x (λ z. record { number = refl; slip = refl; content = refl; origin = refl }) found
row_step q h (Rel s n) r x found = row_changed q s r (left_in Available n) x (λ z. record { number = refl; slip = refl; content = refl; origin = refl }) found
row_step q h (Deq s) r x found = row_changed q s r (in_state Dequeued) x (λ z. record { number = refl; slip = refl; content = refl; origin = refl }) found
row_step q h (Del s) r x found = row_changed q s r (in_state Deleted) x (λ z. record { number = refl; slip = refl; content = refl; origin = refl }) found
row_step q h (Reserve size) r x found = (x, found, same_goods_self x)
row_step q h (GiveBack size) r x found = (x, found, same_goods_self x)
row_step q h (Enq s slip content origin n) r x found = (x, find-append (is_row r) q.rows (record { number = s; slip = slip; state = Available; content = content; origin = origin; count = n } ∷ []) x found, same_goods_self x)
row_step q h (Bell s c) r x found = (x, found, same_goods_self x)
row_step q h (Take c l) r x found = (x, found, same_goods_self x)

-- and in all of them
pub row_stays : (q : Queue) (ds : List Deed) (r : ℕ) (x : Row) → row_at q r ≡ Some x → (y : Row) × (row_at (after q ds) r ≡ Some y) × SameGoods x y
row_stays q [] r x found = (x, found, same_goods_self x)
row_stays q (d ∷ ds) r x found =
    let s = row_step q d.caller d.act r x found in
    let t = row_stays (acted q d.caller d.act) ds r s.0 s.1 in
    (t.0, t.1, same_goods_trans x s.0 t.0 s.2 t.2)

-- by what was found before
new_step_by : (q : Queue) (h : ℕ) (a : Act) (r : ℕ) (o : Option Row) → row_at q r ≡ o → row_at (acted q h a) r ≡ None → row_at q r ≡ None
new_step_by q h a r None e none = e
new_step_by q h a r (Some x) e none = let t = row_step q h a r x e in let bad : None ≡ Some t.0 = sym none ∙ t.1 in absurd (cc)

-- a row number that the state after a step has not the state before had not
pub new_step : (q : Queue) (h : ℕ) (a : Act) (r : ℕ) → row_at (acted q h a) r ≡ None → row_at q r ≡ None
new_step q h a r none = new_step_by q h a r (row_at q r) refl none

-- by what was found before
new_stays_by : (q : Queue) (ds : List Deed) (r : ℕ) (o : Option Row) → row_at q r ≡ o → row_at (after q ds) r ≡ None → row_at q r ≡ None
new_stays_by q ds r None e none = e
new_stays_by q ds r (Some x) e none = let t = row_stays q ds r x e in let bad : None ≡ Some t.0 = sym none ∙ t.1 in absurd (cc)

-- the same of a history
pub new_stays : (q : Queue) (ds : List Deed) (r : ℕ) → row_at (after q ds) r ≡ None → row_at q r ≡ None
new_stays q ds r none = new_stays_by q ds r (row_at q r) refl none

-- Lists and places

-- a row keeps its list
pub list_stays : (q : Queue) (ds : List Deed) (r : ℕ) (x : Row) → row_at q r ≡ Some x → list_at (after q ds) r ≡ list_at q r
list_stays q ds r x found =
    let t = row_stays q ds r x found in
    list_found (after q ds) r t.0 t.1 ∙ ap (λ (s : Slip). s.list) t.2.slip ∙ sym (list_found q r x found)

-- and in each step
pub list_step : (q : Queue) (h : ℕ) (a : Act) (r : ℕ) (x : Row) → row_at q r ≡ Some x → list_at (acted q h a) r ≡ list_at q r
list_step q h a r x found =
    let t = row_step q h a r x found in
    list_found (acted q h a) r t.0 t.1 ∙ ap (λ (s : Slip). s.list) t.2.slip ∙ sym (list_found q r x found)

-- a row is found among the rows of its list
pub found_in_list : (q : Queue) (r : ℕ) (x : Row) → row_at q r ≡ Some x → find (is_row r) (rows_of q (list_at q r)) ≡ Some x
found_in_list q r x found = find-filter (is_row r) (is_of_list (list_at q r)) q.rows x found (eq-eqb x.slip.list (list_at q r) (sym (list_found q r x found)))

-- a change that keeps the goods moves no row
place_changed : (q : Queue) (s r l : ℕ) (f : Row → Row) → ((z : Row) → SameGoods z (f z)) → position_or_len (is_row r) (rows_of (changed q s f) l) ≡ position_or_len (is_row r) (rows_of q l)
place_changed q s r l f kept =
    position-filter_alter (is_row s) (is_row r) (is_of_list l) f q.rows (λ z. ap (λ (n : ℕ). n == r) (kept z).number) (λ z. ap (λ (t : Slip). t.list == l) (kept z).slip)

-- nor does a new row at the end
place_appended : (q : Queue) (r : ℕ) (x y : Row) → row_at q r ≡ Some x → position_or_len (is_row r) (filter (is_of_list (list_at q r)) (q.rows ++ y ∷ [])) ≡ position_or_len (is_row r) (rows_of q (list_at q r))
place_appended q r x y found =
    ap (position_or_len (is_row r)) (filter-append (is_of_list (list_at q r)) q.rows (y ∷ []))
    ∙ position-append (is_row r) (rows_of q (list_at q r)) (filter (is_of_list (list_at q r)) (y ∷ [])) x (found_in_list q r x found)

-- a row's place in its list is not moved by a step
place_in_step : (q : Queue) (h : ℕ) (a : Act) (r : ℕ) (x : Row) → row_at q r ≡ Some x → position_or_len (is_row r) (rows_of (acted q h a) (list_at q r)) ≡ place_at q r
place_in_step q h (Acq s) r x found = place_changed q s r (list_at q r) (in_state (Locked h)) (λ z. record { number = refl; slip = refl; content = refl; origin = refl })
place_in_step q h (Lock s) r x found = place_changed q s r (list_at q r) (in_state (Locked h)) (λ z. record { number = refl; slip = refl; content = refl; origin = refl })
place_in_step q h (Unlock s n) r x found = place_changed q s r (list_at q r) (left_in (Unlocked h) n) (λ z. record { number = refl; slip = refl; content = refl; origin = refl })
place_in_step q h (Steal s) r x found = place_changed q s r (list_at q r) (in_state (Locked h)) (λ z. record { number = refl; slip = refl; content = refl; origin = refl })
place_in_step q h (Rel s n) r x found = place_changed q s r (list_at q r) (left_in Available n) (λ z. record { number = refl; slip = refl; content = refl; origin = refl })
place_in_step q h (Deq s) r x found = place_changed q s r (list_at q r) (in_state Dequeued) (λ z. record { number = refl; slip = refl; content = refl; origin = refl })
place_in_step q h (Del s) r x found = place_changed q s r (list_at q r) (in_state Deleted) (λ z. record { number = refl; slip = refl; content = refl; origin = refl })
place_in_step q h (Reserve size) r x found = refl
place_in_step q h (GiveBack size) r x found = refl
place_in_step q h (Enq s slip content origin n) r x found = place_appended q r x (record { number = s; slip = slip; state = Available; content = content; origin = origin; count = n }) found
place_in_step q h (Bell s c) r x found = refl
place_in_step q h (Take c l) r x found = refl

-- a row keeps its place in each step
pub place_step : (q : Queue) (h : ℕ) (a : Act) (r : ℕ) (x : Row) → row_at q r ≡ Some x → place_at (acted q h a) r ≡ place_at q r
place_step q h a r x found =
    ap (λ (l : ℕ). position_or_len (is_row r) (rows_of (acted q h a) l)) (list_step q h a r x found) ∙ place_in_step q h a r x found

-- and in all of them
pub place_stays : (q : Queue) (ds : List Deed) (r : ℕ) (x : Row) → row_at q r ≡ Some x → place_at (after q ds) r ≡ place_at q r
place_stays q [] r x found = refl
place_stays q (d ∷ ds) r x found =
    let s = row_step q d.caller d.act r x found in
    place_stays (acted q d.caller d.act) ds r s.0 s.1 ∙ place_step q d.caller d.act r x found

-- Rows that are held

-- a row is in one state
pub same_state : (q : Queue) (r : ℕ) (s t : RowState) → IsIn q r s → IsIn q r t → s ≡ t
same_state q r s t a b =
    let e : Some a.0 ≡ Some b.0 = sym a.1 ∙ b.1 in
    let same : a.0 ≡ b.0 = cc in
    sym a.2 ∙ ap (λ (x : Row). x.state) same ∙ b.2

-- what is done to another row does not touch this one
pub untouched : (q : Queue) (s r : ℕ) (f : Row → Row) (x : Row) → s ≢ r → ((z : Row) → (f z).number ≡ z.number) → row_at q r ≡ Some x → row_at (changed q s f) r ≡ Some x
untouched q s r f x other kept found = row_elsewhere q s r f other kept ∙ found

-- a row in another state is another row
pub apart_rows : (q : Queue) (s r : ℕ) (x : Row) (t : RowState) → row_at q r ≡ Some x → IsIn q s t → t ≢ x.state → s ≢ r
apart_rows q s r x t found can differ e =
    let here : Some can.0 ≡ Some x = sym can.1 ∙ ap (row_at q) e ∙ found in
    let same : can.0 ≡ x = cc in
    differ (sym can.2 ∙ ap (λ (z : Row). z.state) same)

-- a row that h holds is left as it is by each step of another
pub held_row_step : (q : Queue) (k h : ℕ) (a : Act) (r : ℕ) (x : Row) → k ≢ h → Can q k a → row_at q r ≡ Some x → x.state ≡ Locked h → row_at (acted q k a) r ≡ Some x
held_row_step q k h (Acq s) r x other can found held = untouched q s r (in_state (Locked k)) x (apart_rows q s r x Available found can (λ e. cc)) (λ z. refl) found
held_row_step q k h (Lock s) r x other can found held = untouched q s r (in_state (Locked k)) x (apart_rows q s r x (Unlocked k) found can (λ e. cc)) (λ z. refl) found
held_row_step q k h (Unlock s n) r x other can found held = untouched q s r (left_in (Unlocked k) n) x (apart_rows q s r x (Locked k) found can (λ e. other (cc))) (λ z. refl) found
held_row_step q k h (Steal s) r x other can found held = untouched q s r (in_state (Locked k)) x (apart_rows q s r x (Unlocked can.0) found can.1 (λ e. cc)) (λ z. refl) found
held_row_step q k h (Rel s n) r x other can found held = untouched q s r (left_in Available n) x (apart_rows q s r x (Locked k) found can (λ e. other (cc))) (λ z. refl) found
held_row_step q k h (Deq s) r x other can found held = untouched q s r (in_state Dequeued) x (apart_rows q s r x (Locked k) found can (λ e. other (cc))) (λ z. refl) found
held_row_step q k h (Del s) r x other can found held = untouched q s r (in_state Deleted) x (apart_rows q s r x Dequeued found can (λ e. cc)) (λ z. refl) found
held_row_step q k h (Reserve size) r x other can found held = found
held_row_step q k h (GiveBack size) r x other can found held = found
held_row_step q k h (Enq s slip content origin n) r x other can found held = find-append (is_row r) q.rows (record { number = s; slip = slip; state = Available; content = content; origin = origin; count = n } ∷ []) x found
held_row_step q k h (Bell s c) r x other can found held = found
held_row_step q k h (Take c l) r x other can found held = found

-- and by all deeds of others: its state and its count too
pub held_row_stays : (q : Queue) (ds : List Deed) (h r : ℕ) (x : Row) → own h ds ≡ [] → Legal q ds → row_at q r ≡ Some x → x.state ≡ Locked h → row_at (after q ds) r ≡ Some x
held_row_stays q [] h r x none legal found held = found
held_row_stays q (d ∷ ds) h r x none legal found held =
    held_row_stays (acted q d.caller d.act) ds h r x (rest_other h d ds none) legal.1 (held_row_step q d.caller h d.act r x (first_other h d ds none) legal.0 found held) held

-- it stays held
pub held_step : (q : Queue) (k h : ℕ) (a : Act) (r : ℕ) → k ≢ h → Can q k a → IsIn q r (Locked h) → IsIn (acted q k a) r (Locked h)
held_step q k h a r other can held = (held.0, held_row_step q k h a r held.0 other can held.1 held.2, held.2)

-- and in a history of others
pub held_stays : (q : Queue) (ds : List Deed) (h r : ℕ) → own h ds ≡ [] → Legal q ds → IsIn q r (Locked h) → IsIn (after q ds) r (Locked h)
held_stays q ds h r none legal held = (held.0, held_row_stays q ds h r held.0 none legal held.1 held.2, held.2)

-- Reservations

-- a reservation of another leaves it
reserving_other : (q : Queue) (k h size : ℕ) → k ≢ h → reserved_by (reserving q k size) h ≡ reserved_by q h
reserving_other q k h size other =
    ap (λ (o : Option Reservation). unwrap_or o (nothing h))
    (reserved_alter_other k h (more k size) q.reserved other (λ v e. more_holder k size (find (is_holder k) q.reserved) v (reserved_holder q k) e))

-- and so does what another gives back
giving_other : (q : Queue) (k h size : ℕ) → k ≢ h → reserved_by (giving_back q k size) h ≡ reserved_by q h
giving_other q k h size other =
    ap (λ (o : Option Reservation). unwrap_or o (nothing h))
    (reserved_alter_other k h (less size) q.reserved other
    (λ v e. let u = less_some size (find (is_holder k) q.reserved) v e in ap (λ (w : Reservation). w.holder) u.3 ∙ reserved_holder q k u.0 u.1))

-- what a caller has reserved is left as it is by each step of another
pub reserved_step : (q : Queue) (k h : ℕ) (a : Act) → k ≢ h → reserved_by (acted q k a) h ≡ reserved_by q h
reserved_step q k h (Acq s) other = refl
reserved_step q k h (Lock s) other = refl
reserved_step q k h (Unlock s n) other = refl
reserved_step q k h (Steal s) other = refl
reserved_step q k h (Rel s n) other = refl
reserved_step q k h (Deq s) other = reserving_other (changed q s (in_state Dequeued)) k h (size_at q s) other
reserved_step q k h (Del s) other = refl
reserved_step q k h (Reserve size) other = reserving_other q k h size other
reserved_step q k h (GiveBack size) other = giving_other q k h size other
reserved_step q k h (Enq s slip content origin n) other = giving_other q k h slip.size other
reserved_step q k h (Bell s c) other = refl
reserved_step q k h (Take c l) other = refl

-- the same of a history of others
pub reserved_stays : (q : Queue) (ds : List Deed) (h : ℕ) → own h ds ≡ [] → reserved_by (after q ds) h ≡ reserved_by q h
reserved_stays q [] h none = refl
reserved_stays q (d ∷ ds) h none =
    reserved_stays (acted q d.caller d.act) ds h (rest_other h d ds none) ∙ reserved_step q d.caller h d.act (first_other h d ds none)

-- Rows that are gone

-- a deleted row is left as it is by each step
deleted_row_step : (q : Queue) (h : ℕ) (a : Act) (r : ℕ) (x : Row) → Can q h a → row_at q r ≡ Some x → x.state ≡ Deleted → row_at (acted q h a) r ≡ Some x
deleted_row_step q h (Acq s) r x can found gone = untouched q s r (in_state (Locked h)) x (apart_rows q s r x Available found can (λ e. cc)) (λ z. refl) found
deleted_row_step q h (Lock s) r x can found gone = untouched q s r (in_state (Locked h)) x (apart_rows q s r x (Unlocked h) found can (λ e. cc)) (λ z. refl) found
deleted_row_step q h (Unlock s n) r x can found gone = untouched q s r (left_in (Unlocked h) n) x (apart_rows q s r x (Locked h) found can (λ e. cc)) (λ z. refl) found
deleted_row_step q h (Steal s) r x can found gone = untouched q s r (in_state (Locked h)) x (apart_rows q s r x (Unlocked can.0) found can.1 (λ e. cc)) (λ z. refl) found
deleted_row_step q h (Rel s n) r x can found gone = untouched q s r (left_in Available n) x (apart_rows q s r x (Locked h) found can (λ e. cc)) (λ z. refl) found
deleted_row_step q h (Deq s) r x can found gone = untouched q s r (in_state Dequeued) x (apart_rows q s r x (Locked h) found can (λ e. cc)) (λ z. refl) found
deleted_row_step q h (Del s) r x can found gone = untouched q s r (in_state Deleted) x (apart_rows q s r x Dequeued found can (λ e. cc)) (λ z. refl) found
deleted_row_step q h (Reserve size) r x can found gone = found
deleted_row_step q h (GiveBack size) r x can found gone = found
deleted_row_step q h (Enq s slip content origin n) r x can found gone = find-append (is_row r) q.rows (record { number = s; slip = slip; state = Available; content = content; origin = origin; count = n } ∷ []) x found
deleted_row_step q h (Bell s c) r x can found gone = found
deleted_row_step q h (Take c l) r x can found gone = found

-- a deleted row stays deleted
pub deleted_step : (q : Queue) (h : ℕ) (a : Act) (r : ℕ) → Can q h a → IsIn q r Deleted → IsIn (acted q h a) r Deleted
deleted_step q h a r can gone = (gone.0, deleted_row_step q h a r gone.0 can gone.1 gone.2, gone.2)

-- the same of a history
pub deleted_stays : (q : Queue) (ds : List Deed) (r : ℕ) → Legal q ds → IsIn q r Deleted → IsIn (after q ds) r Deleted
deleted_stays q [] r legal gone = gone
deleted_stays q (d ∷ ds) r legal gone = deleted_stays (acted q d.caller d.act) ds r legal.1 (deleted_step q d.caller d.act r legal.0 gone)

-- a dequeued row stays so but for a deletion
dequeued_del : (q : Queue) (s r : ℕ) (x : Row) → row_at q r ≡ Some x → x.state ≡ Dequeued → IsIn (changed q s (in_state Deleted)) r Dequeued ⊎ IsIn (changed q s (in_state Deleted)) r Deleted
dequeued_del q s r x found out = ⊎_elim
    (λ (e : s ≡ r).
    let here : row_at q s ≡ Some x = ap (row_at q) e ∙ found in
    inr (in_state Deleted x, subst (λ (n : ℕ). row_at (changed q s (in_state Deleted)) n ≡ Some (in_state Deleted x)) e (row_here q s (in_state Deleted) x here (row_number q s x here)), refl))
    (λ (other : s ≢ r). inl (x, untouched q s r (in_state Deleted) x other (λ z. refl) found, out))
    (cases_eq s r)

-- in each step
dequeued_step : (q : Queue) (h : ℕ) (a : Act) (r : ℕ) (x : Row) → Can q h a → row_at q r ≡ Some x → x.state ≡ Dequeued → IsIn (acted q h a) r Dequeued ⊎ IsIn (acted q h a) r Deleted
dequeued_step q h (Acq s) r x can found out = inl (x, untouched q s r (in_state (Locked h)) x (apart_rows q s r x Available found can (λ e. cc)) (λ z. refl) found, out)
dequeued_step q h (Lock s) r x can found out = inl (x, untouched q s r (in_state (Locked h)) x (apart_rows q s r x (Unlocked h) found can (λ e. cc)) (λ z. refl) found, out)
dequeued_step q h (Unlock s n) r x can found out = inl (x, untouched q s r (left_in (Unlocked h) n) x (apart_rows q s r x (Locked h) found can (λ e. cc)) (λ z. refl) found, out)
dequeued_step q h (Steal s) r x can found out = inl (x, untouched q s r (in_state (Locked h)) x (apart_rows q s r x (Unlocked can.0) found can.1 (λ e. cc)) (λ z. refl) found, out)
dequeued_step q h (Rel s n) r x can found out = inl (x, untouched q s r (left_in Available n) x (apart_rows q s r x (Locked h) found can (λ e. cc)) (λ z. refl) found, out)
dequeued_step q h (Deq s) r x can found out = inl (x, untouched q s r (in_state Dequeued) x (apart_rows q s r x (Locked h) found can (λ e. cc)) (λ z. refl) found, out)
dequeued_step q h (Del s) r x can found out = dequeued_del q s r x found out
dequeued_step q h (Reserve size) r x can found out = inl (x, found, out)
dequeued_step q h (GiveBack size) r x can found out = inl (x, found, out)
dequeued_step q h (Enq s slip content origin n) r x can found out = inl (x, find-append (is_row r) q.rows (record { number = s; slip = slip; state = Available; content = content; origin = origin; count = n } ∷ []) x found, out)
dequeued_step q h (Bell s c) r x can found out = inl (x, found, out)
dequeued_step q h (Take c l) r x can found out = inl (x, found, out)

-- a row that is dequeued or deleted stays dequeued or deleted
pub gone_step : (q : Queue) (h : ℕ) (a : Act) (r : ℕ) → Can q h a → IsIn q r Dequeued ⊎ IsIn q r Deleted → IsIn (acted q h a) r Dequeued ⊎ IsIn (acted q h a) r Deleted
gone_step q h a r can gone = ⊎_elim
    (λ (out : IsIn q r Dequeued). dequeued_step q h a r out.0 can out.1 out.2)
    (λ (gone : IsIn q r Deleted). inr (deleted_step q h a r can gone))
    gone

-- the same of a history
pub gone_stays : (q : Queue) (ds : List Deed) (r : ℕ) → Legal q ds → IsIn q r Dequeued ⊎ IsIn q r Deleted → IsIn (after q ds) r Dequeued ⊎ IsIn (after q ds) r Deleted
gone_stays q [] r legal gone = gone
gone_stays q (d ∷ ds) r legal gone = gone_stays (acted q d.caller d.act) ds r legal.1 (gone_step q d.caller d.act r legal.0 gone)
