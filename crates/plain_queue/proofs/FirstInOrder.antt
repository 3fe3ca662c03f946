-- the first available row comes before each other available row
use Rattle.std.proofs.Common.{◌≡◌, ◌≢◌, inr, ℕ, ◌<◌, Bool, true, false, cond, Some, None, List, [], ◌∷◌, filter, find, refl, sym, ap, subst, ◌∙◌, ⊎_elim, arith, eq-eqb, ne_eqb}
use Rattle.std.proofs.lemmas.Bool.{cases_Bool}
use Rattle.std.specs.List.{position_or_len, AllByRecursion}
use Rattle.queue_model.specs.declared.queues.Queue.{Queue}
use Rattle.queue_model.specs.declared.rows.Row.{Row}
use Rattle.queue_model.specs.declared.rows.RowState.TheVariants.{Available}
use Rattle.queue_model.specs.Keyed.{Apart}
use Rattle.queue_model.specs.Order.{ByList, Precedes}
use Rattle.queue_model.specs.Sound.{Sound, RowFits, same_number}
use Rattle.queue_model.specs.State.{is_row, is_of_list, row_at, rows_of, place_at}
use Rattle.queue_model.proofs.KeyedLemmas.{find-here, find-past, find_passes, position-here, position-past}
use Rattle.queue_model.proofs.SoundSteps.{list_found, row_fits}
use Rattle.plain_queue.specs.Calls.{is_available, first_available}
use Rattle.plain_queue.proofs.Answered.{available_row}
use Rattle.plain_queue.proofs.Doings.{available_is}

-- a list in which a row is found has the row's number
found_number : (p : Row → Bool) (xs : List Row) (x : Row) → find p xs ≡ Some x → find (is_row x.number) xs ≡ None → ⊥
found_number p [] x found none = absurd (cc)
found_number p (z ∷ zs) x found none = ⊎_elim
    (λ (here : is_row x.number z ≡ true). let bad : Some z ≡ None = sym (find-here (is_row x.number) z zs here) ∙ none in absurd (cc))
    (λ (past : is_row x.number z ≡ false). ⊎_elim
    (λ (hit : p z ≡ true).
    let e : Some z ≡ Some x = sym (find-here p z zs hit) ∙ found in
    let same : z ≡ x = cc in
    let here : is_row x.number z ≡ true = eq-eqb z.number x.number (ap (λ (y : Row). y.number) same) in
    let bad : true ≡ false = sym here ∙ past in
    absurd (cc))
    (λ (miss : p z ≡ false). found_number p zs x (sym (find-past p z zs miss) ∙ found) (sym (find-past (is_row x.number) z zs past) ∙ none))
    (cases_Bool (p z)))
    (cases_Bool (is_row x.number z))

-- a row that stands behind another has another number
behind : (p : Row → Bool) (z : Row) (zs : List Row) (x : Row) → Apart same_number (z ∷ zs) → find p zs ≡ Some x → is_row x.number z ≡ false
behind p z zs x apart rest =
    ne_eqb z.number x.number (λ (k : z.number ≡ x.number). found_number p zs x rest (subst (λ (n : ℕ). find (is_row n) zs ≡ None) k apart.0))

-- what a test finds is found by its number
found_itself : (p : Row → Bool) (xs : List Row) (x : Row) → Apart same_number xs → find p xs ≡ Some x → find (is_row x.number) xs ≡ Some x
found_itself p [] x apart found = absurd (cc)
found_itself p (z ∷ zs) x apart found = ⊎_elim
    (λ (hit : p z ≡ true).
    let e : Some z ≡ Some x = sym (find-here p z zs hit) ∙ found in
    let same : z ≡ x = cc in
    find-here (is_row x.number) z zs (eq-eqb z.number x.number (ap (λ (y : Row). y.number) same)) ∙ e)
    (λ (miss : p z ≡ false).
    let rest : find p zs ≡ Some x = sym (find-past p z zs miss) ∙ found in
    find-past (is_row x.number) z zs (behind p z zs x apart rest) ∙ found_itself p zs x apart.1 rest)
    (cases_Bool (p z))

-- what a test finds first stands before what else passes it
first_before : (p : Row → Bool) (xs : List Row) (x y : Row) → Apart same_number xs → find p xs ≡ Some x → find (is_row y.number) xs ≡ Some y → p y ≡ true → y.number ≢ x.number → position_or_len (is_row x.number) xs < position_or_len (is_row y.number) xs
first_before p [] x y apart found also passes other = absurd (cc)
first_before p (z ∷ zs) x y apart found also passes other = ⊎_elim
    (λ (hit : p z ≡ true).
    let e : Some z ≡ Some x = sym (find-here p z zs hit) ∙ found in
    let same : z ≡ x = cc in
    let number : z.number ≡ x.number = ap (λ (w : Row). w.number) same in
    let here : is_row x.number z ≡ true = eq-eqb z.number x.number number in
    let past : is_row y.number z ≡ false = ne_eqb z.number y.number (λ (k : z.number ≡ y.number). other (sym k ∙ number)) in
    omega (arith, position-here (is_row x.number) z zs here, position-past (is_row y.number) z zs past))
    (λ (miss : p z ≡ false).
    let rest : find p zs ≡ Some x = sym (find-past p z zs miss) ∙ found in
    let past : is_row y.number z ≡ false = ⊎_elim
    (λ (hit : is_row y.number z ≡ true).
    let e : Some z ≡ Some y = sym (find-here (is_row y.number) z zs hit) ∙ also in
    let same : z ≡ y = cc in
    let bad : true ≡ false = sym passes ∙ sym (ap p same) ∙ miss in
    absurd (cc))
    (λ (m : is_row y.number z ≡ false). m)
    (cases_Bool (is_row y.number z)) in
    let less : position_or_len (is_row x.number) zs < position_or_len (is_row y.number) zs = first_before p zs x y apart.1 rest (sym (find-past (is_row y.number) z zs past) ∙ also) passes other in
    omega (arith, less, position-past (is_row x.number) z zs (behind p z zs x apart rest), position-past (is_row y.number) z zs past))
    (cases_Bool (p z))

-- where there is one list, all rows are of it
all_of_list : (c : ℕ) (xs : List Row) → AllByRecursion (RowFits 1 c) xs → filter (is_of_list 0) xs ≡ xs
all_of_list c [] all = refl
all_of_list c (z ∷ zs) all =
    let l : z.slip.list < 1 = all.0.list in
    ap (λ (b : Bool). cond b (z ∷ filter (is_of_list 0) zs) (filter (is_of_list 0) zs)) (eq-eqb z.slip.list 0 (omega (arith, l)))
    ∙ ap (λ (ys : List Row). z ∷ ys) (all_of_list c zs all.1)

-- each row of a queue of one list is of the list 0
list_zero : (q : Queue) (x : Row) → Sound q → q.lists ≡ 1 → row_at q x.number ≡ Some x → x.slip.list ≡ 0
list_zero q x sound one found = let l : x.slip.list < q.lists = (row_fits q x.number x sound found).list in omega (arith, l, one)

-- and its place is its place among all rows
place_of_all : (q : Queue) (x : Row) → Sound q → q.lists ≡ 1 → row_at q x.number ≡ Some x → place_at q x.number ≡ position_or_len (is_row x.number) q.rows
place_of_all q x sound one found =
    ap (λ (l : ℕ). position_or_len (is_row x.number) (rows_of q l)) (list_found q x.number x found ∙ list_zero q x sound one found)
    ∙ ap (position_or_len (is_row x.number)) (all_of_list q.consumers q.rows (subst (λ (n : ℕ). AllByRecursion (RowFits n q.consumers) q.rows) one sound.rows_fit))

pub first_in_order : (q : Queue) (x : Row) → Sound q → q.lists ≡ 1 → first_available q ≡ Some x
    → (row_at q x.number ≡ Some x) × (x.state ≡ Available) × ((y : Row) → row_at q y.number ≡ Some y → y.state ≡ Available → y.number ≢ x.number → Precedes ByList q x y)
first_in_order q x sound one first =
    let found : row_at q x.number ≡ Some x = found_itself available_row q.rows x sound.rows_apart first in (
      found,
      available_is x.state (find_passes available_row q.rows x first),
      λ (y : Row) also available other.
          inr (
            list_zero q x sound one found ∙ sym (list_zero q y sound one also),
            let less : position_or_len (is_row x.number) q.rows < position_or_len (is_row y.number) q.rows = first_before available_row q.rows x y sound.rows_apart first also (ap is_available available) other in
                omega (arith, less, place_of_all q x sound one found, place_of_all q y sound one also),
          ),
    )
