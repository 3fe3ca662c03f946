-- the lines that put something, part by part and in order
use Rattle.std.proofs.Common.{◌≡◌, ℕ, zero, suc, ◌+◌, ◌<◌, ◌≤◌, Bool, true, false, arith, nat_le, cond, List, [], ◌∷◌, ◌++◌, filter, length, map, refl, sym, ap, ◌∙◌, subst}
use Rattle.std.specs.List.{count_by}
use Rattle.std.specs.List.Sorted.{IsPermutation, IsSorted}
use Rattle.std.specs.Ordering.{nat_cmp}
use Rattle.std.proofs.Math.ListN.{get_or}
use Rattle.std.proofs.lemmas.Bool.{leb-false, leb-true}
use Rattle.std.proofs.lemmas.List.Sums.{sum_by-cons}
use Rattle.std.proofs.lemmas.List.Sorted.{IsNonDecreasingBy-from_sort, length_permutation, sum_by-IsPermutation}
use Rattle.queue_model.specs.Table.{most_entries}
use Rattle.script_read.specs.declared.lines.Op.{Op}
use Rattle.broker_top.specs.Puts.{PassesAt, is_put, put_lines}

pub put_append : (xs ys : List Op) → put_lines (xs ++ ys) ≡ put_lines xs ++ put_lines ys
put_append [] ys = refl
put_append (x ∷ xs) ys = by_test (is_put x.what) (put_append xs ys) where
  by_test : (b : Bool) → put_lines (xs ++ ys) ≡ put_lines xs ++ put_lines ys → map (λ (op : Op). op.line) (cond b (x ∷ filter (λ (op : Op). is_put op.what) (xs ++ ys)) (filter (λ (op : Op). is_put op.what) (xs ++ ys))) ≡ map (λ (op : Op). op.line) (cond b (x ∷ filter (λ (op : Op). is_put op.what) xs) (filter (λ (op : Op). is_put op.what) xs)) ++ put_lines ys
  by_test true h = ap (λ (ns : List ℕ). x.line ∷ ns) h
  by_test false h = h

-- Numbers in order

-- none of these is less
abbrev above : ℕ → List ℕ → Type 0
above n [] = Unit {0}
above n (x ∷ xs) = (n ≤ x) × above n xs

abbrev rises : List ℕ → Type 0
rises [] = Unit {0}
rises (x ∷ xs) = above x xs × rises xs

abbrev up_to : ℕ → List ℕ → ℕ
up_to n xs = count_by (λ x. nat_le x n) xs

one_more : (x m : ℕ) (xs : List ℕ) → up_to m (x ∷ xs) ≡ cond (nat_le x m) 1 0 + up_to m xs
one_more x m xs = sum_by-cons (λ (y : ℕ). cond (nat_le y m) 1 0) x xs

le_of : (a b : ℕ) → nat_le a b ≡ true → a ≤ b
le_of a b e = leb-true a b e

not_le_of : (a b : ℕ) → nat_le a b ≡ false → b < a
not_le_of a b e = leb-false a b e

none_below : (n m : ℕ) (xs : List ℕ) → above n xs → m < n → up_to m xs ≡ 0
none_below n m [] all less = refl
none_below n m (x ∷ xs) all less = one_more x m xs ∙ by_test (nat_le x m) refl (none_below n m xs all.1 less) where
  by_test : (b : Bool) → nat_le x m ≡ b → up_to m xs ≡ 0 → cond b 1 0 + up_to m xs ≡ 0
  by_test true e h = absurd (omega (arith, le_of x m e, all.0, less))
  by_test false e h = omega (arith, h)

few_below : (xs : List ℕ) (k m : ℕ) → rises xs → k < length xs → m < get_or xs k 0 → up_to m xs ≤ k
few_below [] k m r low less = absurd (omega (arith, low))
few_below (x ∷ xs) zero m r low less = subst (λ (n : ℕ). n ≤ 0) (sym (one_more x m xs)) (by_test (nat_le x m) refl (none_below x m xs r.0 less)) where
  by_test : (b : Bool) → nat_le x m ≡ b → up_to m xs ≡ 0 → cond b 1 0 + up_to m xs ≤ 0
  by_test true e h = absurd (omega (arith, le_of x m e, less))
  by_test false e h = omega (arith, h)
few_below (x ∷ xs) (suc k) m r low less = subst (λ (n : ℕ). n ≤ suc k) (sym (one_more x m xs)) (by_test (nat_le x m) (few_below xs k m r.1 (omega (arith, low)) less)) where
  by_test : (b : Bool) → up_to m xs ≤ k → cond b 1 0 + up_to m xs ≤ suc k
  by_test true h = omega (arith, h)
  by_test false h = omega (arith, h)

at_least : (n : ℕ) (xs : List ℕ) (k : ℕ) → above n xs → k < length xs → n ≤ get_or xs k 0
at_least n [] k all low = absurd (omega (arith, low))
at_least n (x ∷ xs) zero all low = all.0
at_least n (x ∷ xs) (suc k) all low = at_least n xs k all.1 (omega (arith, low))

many_up_to : (xs : List ℕ) (k : ℕ) → rises xs → k < length xs → k < up_to (get_or xs k 0) xs
many_up_to [] k r low = absurd (omega (arith, low))
many_up_to (x ∷ xs) zero r low = subst (λ (n : ℕ). 0 < n) (sym (one_more x x xs)) (by_test (nat_le x x) refl) where
  by_test : (b : Bool) → nat_le x x ≡ b → 0 < cond b 1 0 + up_to x xs
  by_test true e = omega arith
  by_test false e = absurd (omega (arith, not_le_of x x e))
many_up_to (x ∷ xs) (suc k) r low = subst (λ (n : ℕ). suc k < n) (sym (one_more x (get_or xs k 0) xs)) (by_test (nat_le x (get_or xs k 0)) refl (at_least x xs k r.0 (omega (arith, low))) (many_up_to xs k r.1 (omega (arith, low)))) where
  by_test : (b : Bool) → nat_le x (get_or xs k 0) ≡ b → x ≤ get_or xs k 0 → k < up_to (get_or xs k 0) xs → suc k < cond b 1 0 + up_to (get_or xs k 0) xs
  by_test true e le h = omega (arith, h)
  by_test false e le h = absurd (omega (arith, not_le_of x (get_or xs k 0) e, le))

above_of : (n : ℕ) (xs : List ℕ) → ((i : ℕ) → i < length xs → n ≤ get_or xs i 0) → above n xs
above_of n [] h = tt
above_of n (x ∷ xs) h = (h 0 (omega arith), above_of n xs (λ i low. h (suc i) (omega (arith, low))))

rises_of : (xs : List ℕ) → ((i j : ℕ) → i ≤ j → j < length xs → get_or xs i 0 ≤ get_or xs j 0) → rises xs
rises_of [] h = tt
rises_of (x ∷ xs) h = (above_of x xs (λ i low. h 0 (suc i) (omega arith) (omega (arith, low))), rises_of xs (λ i j le low. h (suc i) (suc j) (omega (arith, le)) (omega (arith, low))))

-- behind the first most_entries lines, in order, stands the put that makes too many
pub passes_at : (ops : List Op) (xs : List ℕ) → IsPermutation (put_lines ops) xs → IsSorted nat_cmp xs → most_entries < length xs → PassesAt (get_or xs most_entries 0) ops
passes_at ops xs permuted sorted long =
    let in_order : rises xs = rises_of xs (λ i j le low. IsNonDecreasingBy-from_sort (λ x. x) xs sorted i j 0 le low) in
    let same : (n : ℕ) → up_to n xs ≡ up_to n (put_lines ops) = λ n. sum_by-IsPermutation (λ (x : ℕ). cond (nat_le x n) 1 0) (put_lines ops) xs permuted in
    record {
      many = omega (arith, same (get_or xs most_entries 0), many_up_to xs most_entries in_order long);
      first = λ m less. omega (arith, same m, few_below xs most_entries m in_order long less);
    }

pub most_is : most_entries ≡ 524288
most_is = refl
