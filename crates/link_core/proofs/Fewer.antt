-- a queue has no more rows than its table, and no row has a place as high
use Rattle.std.proofs.Common.{◌≡◌, ℕ, zero, suc, ◌+◌, ◌<◌, ◌≤◌, Bool, true, false, not, Some, None, List, [], ◌∷◌, filter, find, length, cond, refl, sym, ap, ◌∙◌, subst, ⊎_elim, arith, eqb-true}
use Rattle.std.specs.List.{AllByRecursion, position_or_len}
use Rattle.std.proofs.lemmas.Bool.{cases_Bool, cond-true, cond-false, eqb-false}
use Rattle.queue_model.specs.declared.queues.Queue.{Queue}
use Rattle.queue_model.specs.declared.rows.Row.{Row}
use Rattle.queue_model.specs.Keyed.{Apart}
use Rattle.queue_model.specs.Sound.{same_number}
use Rattle.queue_model.specs.State.{is_row, is_of_list, row_at, rows_of, place_at}
use Rattle.queue_model.proofs.KeyedLemmas.{find-past, find_none-head, find_none-tail, apart-filter, position-here, position-past}
use Rattle.link_core.proofs.Frames.{AreLow, all_low}
use Rattle.link_core.proofs.InLists.{found_there}

-- what is found is within its list
module _ {X : Type 0} where
  pub position_in : (p : X → Bool) (xs : List X) (y : X) → find p xs ≡ Some y → position_or_len p xs < length xs
  position_in p [] y e = absurd (cc)
  position_in p (x ∷ xs) y e = ⊎_elim
      (λ (hit : p x ≡ true). omega (arith, position-here p x xs hit))
      (λ (miss : p x ≡ false). let t = position_in p xs y (sym (find-past p x xs miss) ∙ e) in omega (arith, t, position-past p x xs miss))
      (cases_Bool (p x))

abbrev others : ℕ → Row → Bool
others n x = not (is_row n x)

-- where no row has the number, all are others
all_others : (n : ℕ) (xs : List Row) → find (is_row n) xs ≡ None → filter (others n) xs ≡ xs
all_others n [] e = refl
all_others n (x ∷ xs) e =
    cond-true (others n x) (x ∷ filter (others n) xs) (filter (others n) xs) (ap not (find_none-head (is_row n) x xs e))
    ∙ ap (λ (l : List Row). x ∷ l) (all_others n xs (find_none-tail (is_row n) x xs e))

-- one row at most has the number
one_less : (n : ℕ) (xs : List Row) → Apart same_number xs → length xs ≤ length (filter (others n) xs) + 1
one_less n [] apart = omega arith
one_less n (x ∷ xs) apart = ⊎_elim
    (λ (hit : is_row n x ≡ true).
    let none : find (is_row n) xs ≡ None = subst (λ (k : ℕ). find (is_row k) xs ≡ None) (eqb-true x.number n hit) apart.0 in
    let out = ap length (cond-false (others n x) (x ∷ filter (others n) xs) (filter (others n) xs) (ap not hit)) in
    let same = ap length (all_others n xs none) in omega (arith, out, same))
    (λ (miss : is_row n x ≡ false).
    let in_it = ap length (cond-true (others n x) (x ∷ filter (others n) xs) (filter (others n) xs) (ap not miss)) in
    let rest = one_less n xs apart.1 in omega (arith, in_it, rest))
    (cases_Bool (is_row n x))

-- the others are below
lower : (n : ℕ) (xs : List Row) → AllByRecursion (λ x. x.number < suc n) xs → AllByRecursion (λ x. x.number < n) (filter (others n) xs)
lower n [] all = tt
lower n (x ∷ xs) all = ⊎_elim
    (λ (hit : is_row n x ≡ true). subst (AllByRecursion (λ x. x.number < n)) (sym (cond-false (others n x) (x ∷ filter (others n) xs) (filter (others n) xs) (ap not hit))) (lower n xs all.1))
    (λ (miss : is_row n x ≡ false). subst (AllByRecursion (λ x. x.number < n)) (sym (cond-true (others n x) (x ∷ filter (others n) xs) (filter (others n) xs) (ap not miss)))
    ((let ne = eqb-false x.number n miss in let low = all.0 in omega (arith, ne, low)), lower n xs all.1))
    (cases_Bool (is_row n x))

pub few : (n : ℕ) (xs : List Row) → Apart same_number xs → AllByRecursion (λ x. x.number < n) xs → length xs ≤ n
few zero [] apart all = omega arith
few zero (x ∷ xs) apart all = absurd (let low = all.0 in omega (arith, low))
few (suc n) xs apart all =
    let rest = few n (filter (others n) xs) (apart-filter same_number (others n) xs apart) (lower n xs all) in
    let one = one_less n xs apart in omega (arith, rest, one)

-- where all rows have low numbers there are few
pub few_rows : (rows : ℕ) (q : Queue) → Apart same_number q.rows → AreLow rows q → length q.rows ≤ rows
few_rows rows q apart low = few rows q.rows apart (all_low rows q.rows low)

filter_short : (p : Row → Bool) (xs : List Row) → length (filter p xs) ≤ length xs
filter_short p [] = omega arith
filter_short p (y ∷ ys) =
    let rest = filter_short p ys in
    elim (p y) as (λ b. length (cond b (y ∷ filter p ys) (filter p ys)) ≤ suc (length ys)) [ true ↦ omega (arith, rest) | false ↦ omega (arith, rest) ]

-- and the place of a row is below their number
pub place_low : (rows : ℕ) (q : Queue) (r : ℕ) (x : Row) → Apart same_number q.rows → AreLow rows q → row_at q r ≡ Some x → place_at q r < rows
place_low rows q r x apart low found =
    let t = found_there q x.slip.list r x found refl in
    let within = position_in (is_row r) (rows_of q x.slip.list) x t.0 in
    let few = few_rows rows q apart low in
    let part = filter_short (is_of_list x.slip.list) q.rows in
    omega (arith, t.1, within, few, part)
