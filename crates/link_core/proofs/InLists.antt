-- rows of the queue among the rows of their lists
use Rattle.std.proofs.Common.{◌≡◌, ℕ, true, false, Some, None, List, [], ◌∷◌, filter, find, sym, ap, ◌∙◌, subst, ⊎_elim, eqb-true}
use Rattle.std.proofs.lemmas.Bool.{cases_Bool, cond-true, cond-false}
use Rattle.std.specs.List.{position_or_len}
use Rattle.queue_model.specs.declared.queues.Queue.{Queue}
use Rattle.queue_model.specs.declared.rows.Row.{Row}
use Rattle.queue_model.specs.Keyed.{Apart}
use Rattle.queue_model.specs.Sound.{same_number}
use Rattle.queue_model.specs.State.{is_row, row_at, is_of_list, rows_of, list_at, place_at}
use Rattle.queue_model.proofs.KeyedLemmas.{find-here, find-past, find_none-filter}
use Rattle.queue_model.proofs.SoundSteps.{list_found}
use Rattle.queue_model.proofs.Stable.{found_in_list}

-- a row that is found in a list of the queue is the queue's, and of that list
pub row_of_list : (l n : ℕ) (xs : List Row) (y : Row) → Apart same_number xs → find (is_row n) (filter (is_of_list l) xs) ≡ Some y → (find (is_row n) xs ≡ Some y) × (y.slip.list ≡ l)
row_of_list l n [] y apart e = absurd (cc)
row_of_list l n (x ∷ xs) y apart e = ⊎_elim
    (λ (mine : is_of_list l x ≡ true).
    let kept : find (is_row n) (x ∷ filter (is_of_list l) xs) ≡ Some y = ap (find (is_row n)) (sym (cond-true (is_of_list l x) (x ∷ filter (is_of_list l) xs) (filter (is_of_list l) xs) mine)) ∙ e in
    ⊎_elim
    (λ (hit : is_row n x ≡ true).
    let one : Some x ≡ Some y = sym (find-here (is_row n) x (filter (is_of_list l) xs) hit) ∙ kept in
    let same : x ≡ y = cc in
    (find-here (is_row n) x xs hit ∙ one, ap (λ (z : Row). z.slip.list) (sym same) ∙ eqb-true x.slip.list l mine))
    (λ (miss : is_row n x ≡ false).
    let t = row_of_list l n xs y apart.1 (sym (find-past (is_row n) x (filter (is_of_list l) xs) miss) ∙ kept) in
    (find-past (is_row n) x xs miss ∙ t.0, t.1))
    (cases_Bool (is_row n x)))
    (λ (other : is_of_list l x ≡ false).
    let rest : find (is_row n) (filter (is_of_list l) xs) ≡ Some y = ap (find (is_row n)) (sym (cond-false (is_of_list l x) (x ∷ filter (is_of_list l) xs) (filter (is_of_list l) xs) other)) ∙ e in
    ⊎_elim
    (λ (hit : is_row n x ≡ true).
    let number : x.number ≡ n = eqb-true x.number n hit in
    let none : find (is_row n) xs ≡ None = subst (λ (k : ℕ). find (is_row k) xs ≡ None) number apart.0 in
    absurd (let bad : None ≡ Some y = sym (find_none-filter (is_row n) (is_of_list l) xs none) ∙ rest in cc))
    (λ (miss : is_row n x ≡ false).
    let t = row_of_list l n xs y apart.1 rest in
    (find-past (is_row n) x xs miss ∙ t.0, t.1))
    (cases_Bool (is_row n x)))
    (cases_Bool (is_of_list l x))

-- a row of a list is found there, at its place
pub found_there : (q : Queue) (l e : ℕ) (x : Row) → row_at q e ≡ Some x → x.slip.list ≡ l → (find (is_row e) (rows_of q l) ≡ Some x) × (place_at q e ≡ position_or_len (is_row e) (rows_of q l))
found_there q l e x found list =
    let same : list_at q e ≡ l = list_found q e x found ∙ list in
    (subst (λ (m : ℕ). find (is_row e) (rows_of q m) ≡ Some x) same (found_in_list q e x found), ap (λ (m : ℕ). position_or_len (is_row e) (rows_of q m)) same)
