-- rows, reservations and bells by their keys
use Rattle.std.proofs.Common.{◌≡◌, ◌≢◌, ℕ, ◌==◌, false, Option, Some, None, List, [], ◌∷◌, ◌++◌, find, option_map, refl, sym, ap, ◌∙◌, ⊎_elim, eq-eqb, ne_eqb, eqb-true, zero-add}
use Rattle.std.proofs.lemmas.Bool.{cases_eq, cond-true, cond-false}
use Rattle.queue_model.specs.declared.queues.Queue.{Queue}
use Rattle.queue_model.specs.declared.queues.Reservation.{Reservation}
use Rattle.queue_model.specs.declared.rows.Row.{Row}
use Rattle.queue_model.specs.Keyed.{alter}
use Rattle.queue_model.specs.State.{is_row, row_at, is_holder, nothing}
use Rattle.queue_model.specs.Table.{changed, more, less, with_more, with_less}
use Rattle.queue_model.proofs.KeyedLemmas.{find_passes, find-push, find-push_other, find-alter, find-alter_other}

-- Rows

-- what a change makes of a row stands in its place
pub row_alter : (r : ℕ) (f : Option Row → Option Row) (xs : List Row) (y : Row) → f (find (is_row r) xs) ≡ Some y → y.number ≡ r → find (is_row r) (alter (is_row r) f xs) ≡ Some y
row_alter r f xs y e number = find-alter (is_row r) f xs y e (eq-eqb y.number r number)

-- a row of one number is none of another
pub other_row : (r s : ℕ) (x : Row) → r ≢ s → x.number ≡ r → is_row s x ≡ false
other_row r s x other number = ne_eqb x.number s (λ e. other (sym number ∙ e))

-- a change of one row leaves another
pub row_alter_other : (r s : ℕ) (f : Option Row → Option Row) (xs : List Row) → r ≢ s → ((y : Row) → f (find (is_row r) xs) ≡ Some y → y.number ≡ r) → find (is_row s) (alter (is_row r) f xs) ≡ find (is_row s) xs
row_alter_other r s f xs other number =
    find-alter_other (is_row r) (is_row s) f xs (λ x e. other_row r s x other (eqb-true x.number r e)) (λ y e. other_row r s y other (number y e))

-- a new row at the end is found by its number
pub row_push : (r : ℕ) (xs : List Row) (y : Row) → find (is_row r) xs ≡ None → y.number ≡ r → find (is_row r) (xs ++ y ∷ []) ≡ Some y
row_push r xs y none number = find-push (is_row r) xs y none (eq-eqb y.number r number)

-- and by no other
pub row_push_other : (r : ℕ) (xs : List Row) (y : Row) → y.number ≢ r → find (is_row r) (xs ++ y ∷ []) ≡ find (is_row r) xs
row_push_other r xs y other = find-push_other (is_row r) xs y (ne_eqb y.number r other)

-- a row that is found by a number has that number
pub row_number : (q : Queue) (r : ℕ) (x : Row) → row_at q r ≡ Some x → x.number ≡ r
row_number q r x e = eqb-true x.number r (find_passes (is_row r) q.rows x e)

-- the changed row
pub row_here : (q : Queue) (r : ℕ) (f : Row → Row) (x : Row) → row_at q r ≡ Some x → (f x).number ≡ r → row_at (changed q r f) r ≡ Some (f x)
row_here q r f x e number = row_alter r (option_map f) q.rows (f x) (ap (option_map f) e) number

-- what a change of a row makes has the number that each changed row has
mapped_number : (f : Row → Row) (o : Option Row) (y : Row) (r : ℕ) → ((x : Row) → o ≡ Some x → (f x).number ≡ r) → option_map f o ≡ Some y → y.number ≡ r
mapped_number f None y r kept e = absurd (cc)
mapped_number f (Some x) y r kept e = let here : (f x).number ≡ r = kept x refl in let same : f x ≡ y = cc in ap (λ (z : Row). z.number) (sym same) ∙ here

-- a change that keeps numbers makes a row of the same number
pub changed_number : (q : Queue) (r : ℕ) (f : Row → Row) → ((x : Row) → (f x).number ≡ x.number) → (y : Row) → option_map f (row_at q r) ≡ Some y → y.number ≡ r
changed_number q r f kept y e = mapped_number f (row_at q r) y r (λ x found. kept x ∙ row_number q r x found) e

-- the other rows
pub row_elsewhere : (q : Queue) (r s : ℕ) (f : Row → Row) → r ≢ s → ((x : Row) → (f x).number ≡ x.number) → row_at (changed q r f) s ≡ row_at q s
row_elsewhere q r s f other kept = row_alter_other r s (option_map f) q.rows other (changed_number q r f kept)

-- Reservations

-- what a change makes of a reservation stands in its place
pub reserved_alter : (h : ℕ) (f : Option Reservation → Option Reservation) (xs : List Reservation) (v : Reservation) → f (find (is_holder h) xs) ≡ Some v → v.holder ≡ h → find (is_holder h) (alter (is_holder h) f xs) ≡ Some v
reserved_alter h f xs v e holder = find-alter (is_holder h) f xs v e (eq-eqb v.holder h holder)

-- a new reservation at the end is found by its holder
pub reserved_push : (h : ℕ) (xs : List Reservation) (v : Reservation) → find (is_holder h) xs ≡ None → v.holder ≡ h → find (is_holder h) (xs ++ v ∷ []) ≡ Some v
reserved_push h xs v none holder = find-push (is_holder h) xs v none (eq-eqb v.holder h holder)

-- and by no other
pub reserved_push_other : (h : ℕ) (xs : List Reservation) (v : Reservation) → v.holder ≢ h → find (is_holder h) (xs ++ v ∷ []) ≡ find (is_holder h) xs
reserved_push_other h xs v other = find-push_other (is_holder h) xs v (ne_eqb v.holder h other)

-- a reservation of one caller is none of another
pub other_holder : (h k : ℕ) (v : Reservation) → h ≢ k → v.holder ≡ h → is_holder k v ≡ false
other_holder h k v other holder = ne_eqb v.holder k (λ e. other (sym holder ∙ e))

-- a change of one caller's reservation leaves another's
pub reserved_alter_other : (h k : ℕ) (f : Option Reservation → Option Reservation) (xs : List Reservation) → h ≢ k → ((v : Reservation) → f (find (is_holder h) xs) ≡ Some v → v.holder ≡ h) → find (is_holder k) (alter (is_holder h) f xs) ≡ find (is_holder k) xs
reserved_alter_other h k f xs other holder =
    find-alter_other (is_holder h) (is_holder k) f xs (λ v e. other_holder h k v other (eqb-true v.holder h e)) (λ v e. other_holder h k v other (holder v e))

-- a reservation that is found by a caller is that caller's
pub reserved_holder : (q : Queue) (h : ℕ) (v : Reservation) → find (is_holder h) q.reserved ≡ Some v → v.holder ≡ h
reserved_holder q h v e = eqb-true v.holder h (find_passes (is_holder h) q.reserved v e)

-- one entry more than nothing is one entry
pub first_entry : (h size : ℕ) → record { holder = h; entries = 1; bytes = size } ≡ with_more (nothing h) size
first_entry h size = ap (λ (n : ℕ). let v : Reservation = record { holder = h; entries = 1; bytes = n } in v) (sym (zero-add size))

-- with one entry more it still is
pub more_holder : (h size : ℕ) (o : Option Reservation) (v : Reservation) → ((u : Reservation) → o ≡ Some u → u.holder ≡ h) → more h size o ≡ Some v → v.holder ≡ h
more_holder h size None v holder e = let same : with_more (nothing h) size ≡ v = cc in ap (λ (u : Reservation). u.holder) (sym same)
more_holder h size (Some u) v holder e =
    let same : with_more u size ≡ v = cc in
    ap (λ (w : Reservation). w.holder) (sym same) ∙ holder u refl

-- of the last entry nothing stays
pub less_last : (size : ℕ) (v : Reservation) → v.entries ≡ 1 → less size (Some v) ≡ None
less_last size v last = cond-true (v.entries == 1) None (Some (with_less v size)) (eq-eqb v.entries 1 last)

-- of more than one something stays
pub less_more : (size : ℕ) (v : Reservation) → v.entries ≢ 1 → less size (Some v) ≡ Some (with_less v size)
less_more size v many = cond-false (v.entries == 1) None (Some (with_less v size)) (ne_eqb v.entries 1 many)

-- what is left of a reservation, if anything is
pub less_some : (size : ℕ) (o : Option Reservation) (v : Reservation) → less size o ≡ Some v → (u : Reservation) × (o ≡ Some u) × (u.entries ≢ 1) × (v ≡ with_less u size)
less_some size None v e = absurd (cc)
less_some size (Some u) v e = ⊎_elim
    (λ (last : u.entries ≡ 1). let bad : None ≡ Some v = sym (less_last size u last) ∙ e in absurd (cc))
    (λ (many : u.entries ≢ 1).
    let both : Some (with_less u size) ≡ Some v = sym (less_more size u many) ∙ e in
    let same : v ≡ with_less u size = cc in
    (u, refl, many, same))
    (cases_eq u.entries 1)
