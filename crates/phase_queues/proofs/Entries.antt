-- the rows that are left of a queue are its entries, in queue order
use Rattle.std.proofs.Common.{◌≡◌, ◌≢◌, ℕ, zero, suc, Bool, true, false, cond, List, [], ◌∷◌, ◌++◌, filter, find, Option, Some, None, refl, sym, ap, ◌∙◌, subst, ⊎_elim, eq-eqb, ne_eqb, eqb-true}
use Rattle.std.specs.List.{AllByRecursion}
use Rattle.std.proofs.lemmas.Bool.{cases_Bool, cases_eq, cond-true}
use mathlib.Core.HLevel.{⊥_prop}
use mathlib.Core.Logic.Or
use mathlib.Core.List.{Mem, mem-cons, not-mem-nil}
use Rattle.queue_model.specs.declared.queues.Queue.{Queue}
use Rattle.queue_model.specs.declared.rows.Row.{Row}
use Rattle.queue_model.specs.declared.rows.RowState.{RowState}
use Rattle.queue_model.specs.declared.rows.RowState.TheVariants.{Available, Locked, Unlocked, Dequeued, Deleted}
use Rattle.queue_model.specs.Order.{Precedes}
use Rattle.queue_model.specs.Sound.{Sound}
use Rattle.queue_model.specs.State.{is_row, row_at, rows_of}
use Rattle.queue_model.proofs.KeyedLemmas.{all-find, find-here, find-past, find_passes}
use Rattle.queue_model.proofs.Orders.{precedes_not, precedes_trans}
use Rattle.queue_model.proofs.SoundSteps.{row_fits}
use Rattle.acts_core.specs.Moments.{IsRow}
use Rattle.acts_core.specs.Rest.{InOrder, IsLive}
use Rattle.acts_core.specs.Sight.{Kind, Listed, Sorted, LastValue, order_of}
use Rattle.entry_table.specs.Resting.{is_live, live, rests}
use Rattle.entry_table.proofs.Remaining.{rests_live, rests_ordered, rests_whole}
use Rattle.account_core.specs.Carry.{entries_of, from_highest, stays}
use Rattle.phase_queues.proofs.Arriving.{keyed_live, keyed_order, keyed_whole, stay_live, stay_order, stay_whole}

-- Members

-- a row that passes is not one of a list where none does
absent : (p : Row → Bool) (xs : List Row) (x : Row) → p x ≡ true → find p xs ≡ None → Mem x xs → ⊥
absent p [] x hit none m = not-mem-nil m
absent p (y ∷ ys) x hit none m = ⊎_elim
    (λ (here : p y ≡ true). let bad : Some y ≡ None = sym (cond-true (p y) (Some y) (find p ys) here) ∙ none in absurd (cc))
    (λ (past : p y ≡ false). Or.elim ⊥_prop (mem-cons.0 m)
    (λ same. let bad : true ≡ false = sym hit ∙ ap p same ∙ past in absurd (cc))
    (λ tail. absent p ys x hit (sym (find-past p y ys past) ∙ none) tail))
    (cases_Bool (p y))

module _ (kind : Kind) (q : Queue) where
  -- rows of one number are one
  one_row : (x y : Row) → IsRow q x → IsRow q y → x.number ≡ y.number → x ≡ y
  one_row x y a b e = let same : Some x ≡ Some y = sym a ∙ ap (row_at q) e ∙ b in cc

  is_found : (P : Row → Type 0) (xs : List Row) (x : Row) → AllByRecursion P xs → ((y : Row) → P y → IsRow q y) → IsRow q x → Mem x xs → find (is_row x.number) xs ≡ Some x
  is_found P xs x all rows here m = by_find (find (is_row x.number) xs) refl where
    by_find : (o : Option Row) → find (is_row x.number) xs ≡ o → find (is_row x.number) xs ≡ Some x
    by_find None e = absurd (absent (is_row x.number) xs x (eq-eqb x.number x.number refl) e m)
    by_find (Some y) e =
        let number : y.number ≡ x.number = eqb-true y.number x.number (find_passes (is_row x.number) xs y e) in
        e ∙ ap Some (one_row y x (rows y (all-find P (is_row x.number) xs y all e)) here number)

  -- Two lists in order that have the same rows are one.

  abbrev Finds : List Row → List Row → Type 0
  Finds xs ys = (n : ℕ) (z : Row) → find (is_row n) xs ≡ Some z → find (is_row n) ys ≡ Some z

  -- what is found behind the first of a list in order isn't the first
  behind : (x z : Row) (xs : List Row) (n : ℕ) → InOrder kind q (x ∷ xs) → AllByRecursion (IsRow q) (x ∷ xs) → find (is_row n) xs ≡ Some z → x.number ≢ n
  behind x z xs n order all e same =
      let number : z.number ≡ n = eqb-true z.number n (find_passes (is_row n) xs z e) in
      let is : x ≡ z = one_row x z all.0 (all-find (IsRow q) (is_row n) xs z all.1 e) (same ∙ sym number) in
      let before : Precedes (order_of kind) q x z = all-find (λ y. Precedes (order_of kind) q x y) (is_row n) xs z order.0 e in
      precedes_not (order_of kind) q x (subst (Precedes (order_of kind) q x) (sym is) before)

  tails : (x : Row) (xs ys : List Row) → InOrder kind q (x ∷ xs) → AllByRecursion (IsRow q) (x ∷ xs) → Finds (x ∷ xs) (x ∷ ys) → Finds xs ys
  tails x xs ys order all go n z e =
      let past = ne_eqb x.number n (behind x z xs n order all e) in
      sym (find-past (is_row n) x ys past) ∙ go n z (find-past (is_row n) x xs past ∙ e)

  one_list : (xs ys : List Row) → AllByRecursion (IsRow q) xs → AllByRecursion (IsRow q) ys → InOrder kind q xs → InOrder kind q ys → Finds xs ys → Finds ys xs → xs ≡ ys
  one_list [] [] a b o p to back = refl
  one_list [] (y ∷ ys) a b o p to back = let bad : None ≡ Some y = back y.number y (find-here (is_row y.number) y ys (eq-eqb y.number y.number refl)) in absurd (cc)
  one_list (x ∷ xs) [] a b o p to back = let bad : None ≡ Some x = to x.number x (find-here (is_row x.number) x xs (eq-eqb x.number x.number refl)) in absurd (cc)
  one_list (x ∷ xs) (y ∷ ys) a b o p to back = ⊎_elim
      (λ (e : x.number ≡ y.number).
      let is : x ≡ y = one_row x y a.0 b.0 e in
      let go : Finds (x ∷ xs) (x ∷ ys) = subst (λ (z : Row). Finds (x ∷ xs) (z ∷ ys)) (sym is) to in
      let home : Finds (x ∷ ys) (x ∷ xs) = subst (λ (z : Row). Finds (z ∷ ys) (x ∷ xs)) (sym is) back in
      let rows : AllByRecursion (IsRow q) (x ∷ ys) = (a.0, b.1) in
      let order : InOrder kind q (x ∷ ys) = subst (λ (z : Row). InOrder kind q (z ∷ ys)) (sym is) p in
      let rest : xs ≡ ys = one_list xs ys a.1 b.1 o.1 p.1 (tails x xs ys o a go) (tails x ys xs order rows home) in
      λ i. is i ∷ rest i)
      (λ (ne : x.number ≢ y.number).
      let later : find (is_row y.number) xs ≡ Some y = sym (find-past (is_row y.number) x xs (ne_eqb x.number y.number ne)) ∙ back y.number y (find-here (is_row y.number) y ys (eq-eqb y.number y.number refl)) in
      let also : find (is_row x.number) ys ≡ Some x = sym (find-past (is_row x.number) y ys (ne_eqb y.number x.number (λ e. ne (sym e)))) ∙ to x.number x (find-here (is_row x.number) x xs (eq-eqb x.number x.number refl)) in
      let before : Precedes (order_of kind) q x y = all-find (λ z. Precedes (order_of kind) q x z) (is_row y.number) xs y o.0 later in
      let after : Precedes (order_of kind) q y x = all-find (λ z. Precedes (order_of kind) q y z) (is_row x.number) ys x p.0 also in
      absurd (precedes_not (order_of kind) q x (precedes_trans (order_of kind) q x y x before after)))
      (cases_eq x.number y.number)

  all_rows : (xs : List Row) → AllByRecursion (IsLive q) xs → AllByRecursion (IsRow q) xs
  all_rows [] all = tt
  all_rows (x ∷ xs) all = (all.0.there, all_rows xs all.1)

  -- each row of a list of live rows is found in a list that has all of them
  finds : (xs ys : List Row) → AllByRecursion (IsLive q) xs → AllByRecursion (IsLive q) ys → ((x : Row) → IsLive q x → Mem x ys) → Finds xs ys
  finds xs ys live_xs live_ys whole n z e =
      let lives : IsLive q z = all-find (IsLive q) (is_row n) xs z live_xs e in
      let number : z.number ≡ n = eqb-true z.number n (find_passes (is_row n) xs z e) in
      subst (λ (k : ℕ). find (is_row k) ys ≡ Some z) number (is_found (IsLive q) ys z live_ys (λ y l. l.there) lives.there (whole z lives))

  -- all rows that aren't deleted, in queue order, are one list
  pub one_rest : (xs ys : List Row) → AllByRecursion (IsLive q) xs → AllByRecursion (IsLive q) ys → ((x : Row) → IsLive q x → Mem x xs) → ((x : Row) → IsLive q x → Mem x ys) → InOrder kind q xs → InOrder kind q ys → xs ≡ ys
  one_rest xs ys live_xs live_ys whole_xs whole_ys order_xs order_ys =
      one_list xs ys (all_rows xs live_xs) (all_rows ys live_ys) order_xs order_ys (finds xs ys live_xs live_ys whole_ys) (finds ys xs live_ys live_xs whole_xs)

-- Entries

is_stays : (s : RowState) → is_live s ≡ stays s
is_stays Available = refl
is_stays (Locked h) = refl
is_stays (Unlocked h) = refl
is_stays Dequeued = refl
is_stays Deleted = refl

live_append : (xs ys : List Row) → filter (λ x. stays x.state) (xs ++ ys) ≡ live xs ++ filter (λ x. stays x.state) ys
live_append [] ys = refl
live_append (x ∷ xs) ys =
    let rest = live_append xs ys in
    ap (λ (b : Bool). cond b (x ∷ filter (λ y. stays y.state) (xs ++ ys)) (filter (λ y. stays y.state) (xs ++ ys))) (sym (is_stays x.state))
    ∙ by_test (is_live x.state) rest where
      by_test : (b : Bool) → filter (λ y. stays y.state) (xs ++ ys) ≡ live xs ++ filter (λ y. stays y.state) ys → cond b (x ∷ filter (λ y. stays y.state) (xs ++ ys)) (filter (λ y. stays y.state) (xs ++ ys)) ≡ cond b (x ∷ live xs) (live xs) ++ filter (λ y. stays y.state) ys
      by_test true e = ap (λ (l : List Row). x ∷ l) e
      by_test false e = e

entries_below : (q : Queue) (n : ℕ) → filter (λ x. stays x.state) (from_highest q n) ≡ rests n q
entries_below q zero = refl
entries_below q (suc n) = live_append (rows_of q n) (from_highest q n) ∙ ap (λ (l : List Row). live (rows_of q n) ++ l) (entries_below q n)

listed_entries : (q : Queue) (rows : List Row) → Sound q → AllByRecursion (IsLive q) rows → ((x : Row) → IsLive q x → Mem x rows) → InOrder Listed q rows → rows ≡ entries_of Listed q
listed_entries q rows sound lives whole order =
    let load : ℕ → _ = λ n. record { id = 0; size = 0; count = 0; content = []; origin = [] } in
    one_rest Listed q rows (rests q.lists q) lives (rests_live load q sound.rows_apart q.lists) whole
    (rests_whole load q sound.rows_apart q.lists (λ x found. (row_fits q x.number x sound found).list))
    order (rests_ordered load q sound.rows_apart q.lists)
    ∙ sym (entries_below q q.lists)

-- all rows that are not deleted, in queue order, are the entries
pub rest_entries : (kind : Kind) (q : Queue) (rows : List Row) → Sound q → AllByRecursion (IsLive q) rows → ((x : Row) → IsLive q x → Mem x rows) → InOrder kind q rows → rows ≡ entries_of kind q
rest_entries Listed q rows sound lives whole order = listed_entries q rows sound lives whole order
rest_entries Sorted q rows sound lives whole order =
    one_rest Sorted q rows (entries_of Sorted q) lives (keyed_live q sound.rows_apart) whole (keyed_whole q sound.rows_apart) order (keyed_order q sound.rows_apart)
rest_entries LastValue q rows sound lives whole order =
    one_rest LastValue q rows (entries_of LastValue q) lives (stay_live q sound.rows_apart) whole (stay_whole q) order (stay_order q sound.rows_apart)
