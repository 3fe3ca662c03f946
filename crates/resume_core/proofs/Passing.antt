-- the lines that put something, part by part and in order, and the one with which there are too many
use Rattle.std.proofs.Common.{◌≡◌, ℕ, zero, suc, ◌+◌, ◌-◌, ◌<◌, ◌≤◌, Bool, true, false, arith, max, nat_le, nat_lt, cond, Option, Some, None, List, [], ◌∷◌, ◌++◌, filter, length, map, refl, sym, ap, ◌∙◌, subst, ⊎_elim}
use Rattle.std.specs.List.{AllByRecursion, count_by}
use Rattle.std.specs.List.Sorted.{IsPermutation, IsSorted}
use Rattle.std.specs.Ordering.{nat_cmp}
use Rattle.std.proofs.Math.ListN.{get_or}
use Rattle.std.proofs.Math.Nat.{eq-or-lt_of_le}
use Rattle.std.proofs.lemmas.Bool.{cases_lt, le-leb, le-ltb, leb-false, leb-true, lt-leb, lt-ltb, ltb-false}
use Rattle.std.proofs.lemmas.List.Sums.{count_by-le-length, sum_by-cons}
use Rattle.std.proofs.lemmas.List.Sorted.{IsNonDecreasingBy-from_sort, sum_by-IsPermutation}
use Rattle.queue_model.specs.Table.{most_entries}
use Rattle.script_read.specs.declared.lines.Op.{Op}
use Rattle.resume_core.specs.Lines.{all_puts, are_many, is_put, least, passing_line, put_lines, puts_by, sooner}
use Rattle.resume_core.proofs.Firsts.{filter_none, least_none}

pub put_append : (xs ys : List Op) → put_lines (xs ++ ys) ≡ put_lines xs ++ put_lines ys
put_append [] ys = refl
put_append (x ∷ xs) ys = by_test (is_put x.what) (put_append xs ys) where
  by_test : (b : Bool) → put_lines (xs ++ ys) ≡ put_lines xs ++ put_lines ys → map (λ (op : Op). op.line) (cond b (x ∷ filter (λ (op : Op). is_put op.what) (xs ++ ys)) (filter (λ (op : Op). is_put op.what) (xs ++ ys))) ≡ map (λ (op : Op). op.line) (cond b (x ∷ filter (λ (op : Op). is_put op.what) xs) (filter (λ (op : Op). is_put op.what) xs)) ++ put_lines ys
  by_test true h = ap (λ (ns : List ℕ). x.line ∷ ns) h
  by_test false h = h

-- Numbers in order

-- none of these is less
abbrev above : ℕ → List ℕ → Type 0
above n [] = Unit {0}
above n (x ∷ xs) = (n ≤ x) × above n xs

abbrev rises : List ℕ → Type 0
rises [] = Unit {0}
rises (x ∷ xs) = above x xs × rises xs

abbrev up_to : ℕ → List ℕ → ℕ
up_to n xs = count_by (λ x. nat_le x n) xs

one_more : (x m : ℕ) (xs : List ℕ) → up_to m (x ∷ xs) ≡ cond (nat_le x m) 1 0 + up_to m xs
one_more x m xs = sum_by-cons (λ (y : ℕ). cond (nat_le y m) 1 0) x xs

le_of : (a b : ℕ) → nat_le a b ≡ true → a ≤ b
le_of a b e = leb-true a b e

not_le_of : (a b : ℕ) → nat_le a b ≡ false → b < a
not_le_of a b e = leb-false a b e

none_below : (n m : ℕ) (xs : List ℕ) → above n xs → m < n → up_to m xs ≡ 0
none_below n m [] all less = refl
none_below n m (x ∷ xs) all less = one_more x m xs ∙ by_test (nat_le x m) refl (none_below n m xs all.1 less) where
  by_test : (b : Bool) → nat_le x m ≡ b → up_to m xs ≡ 0 → cond b 1 0 + up_to m xs ≡ 0
  by_test true e h = absurd (omega (arith, le_of x m e, all.0, less))
  by_test false e h = omega (arith, h)

few_below : (xs : List ℕ) (k m : ℕ) → rises xs → k < length xs → m < get_or xs k 0 → up_to m xs ≤ k
few_below [] k m r low less = absurd (omega (arith, low))
few_below (x ∷ xs) zero m r low less = subst (λ (n : ℕ). n ≤ 0) (sym (one_more x m xs)) (by_test (nat_le x m) refl (none_below x m xs r.0 less)) where
  by_test : (b : Bool) → nat_le x m ≡ b → up_to m xs ≡ 0 → cond b 1 0 + up_to m xs ≤ 0
  by_test true e h = absurd (omega (arith, le_of x m e, less))
  by_test false e h = omega (arith, h)
few_below (x ∷ xs) (suc k) m r low less = subst (λ (n : ℕ). n ≤ suc k) (sym (one_more x m xs)) (by_test (nat_le x m) (few_below xs k m r.1 (omega (arith, low)) less)) where
  by_test : (b : Bool) → up_to m xs ≤ k → cond b 1 0 + up_to m xs ≤ suc k
  by_test true h = omega (arith, h)
  by_test false h = omega (arith, h)

at_least : (n : ℕ) (xs : List ℕ) (k : ℕ) → above n xs → k < length xs → n ≤ get_or xs k 0
at_least n [] k all low = absurd (omega (arith, low))
at_least n (x ∷ xs) zero all low = all.0
at_least n (x ∷ xs) (suc k) all low = at_least n xs k all.1 (omega (arith, low))

many_up_to : (xs : List ℕ) (k : ℕ) → rises xs → k < length xs → k < up_to (get_or xs k 0) xs
many_up_to [] k r low = absurd (omega (arith, low))
many_up_to (x ∷ xs) zero r low = subst (λ (n : ℕ). 0 < n) (sym (one_more x x xs)) (by_test (nat_le x x) refl) where
  by_test : (b : Bool) → nat_le x x ≡ b → 0 < cond b 1 0 + up_to x xs
  by_test true e = omega arith
  by_test false e = absurd (omega (arith, not_le_of x x e))
many_up_to (x ∷ xs) (suc k) r low = subst (λ (n : ℕ). suc k < n) (sym (one_more x (get_or xs k 0) xs)) (by_test (nat_le x (get_or xs k 0)) refl (at_least x xs k r.0 (omega (arith, low))) (many_up_to xs k r.1 (omega (arith, low)))) where
  by_test : (b : Bool) → nat_le x (get_or xs k 0) ≡ b → x ≤ get_or xs k 0 → k < up_to (get_or xs k 0) xs → suc k < cond b 1 0 + up_to (get_or xs k 0) xs
  by_test true e le h = omega (arith, h)
  by_test false e le h = absurd (omega (arith, not_le_of x (get_or xs k 0) e, le))

above_of : (n : ℕ) (xs : List ℕ) → ((i : ℕ) → i < length xs → n ≤ get_or xs i 0) → above n xs
above_of n [] h = tt
above_of n (x ∷ xs) h = (h 0 (omega arith), above_of n xs (λ i low. h (suc i) (omega (arith, low))))

rises_of : (xs : List ℕ) → ((i j : ℕ) → i ≤ j → j < length xs → get_or xs i 0 ≤ get_or xs j 0) → rises xs
rises_of [] h = tt
rises_of (x ∷ xs) h = (above_of x xs (λ i low. h 0 (suc i) (omega arith) (omega (arith, low))), rises_of xs (λ i j le low. h (suc i) (suc j) (omega (arith, le)) (omega (arith, low))))

-- The least of numbers

-- the number, if there is one, is not below n
abbrev IsAbove : ℕ → Option ℕ → Type 0
IsAbove n None = Unit {0}
IsAbove n (Some m) = n ≤ m

above_both : (n x : ℕ) (o : Option ℕ) → n ≤ x → IsAbove n o → IsAbove n (sooner (Some x) o)
above_both n x None le h = le
above_both n x (Some m) le h = omega (arith, le, h)

least_above : (n : ℕ) (ns : List ℕ) → IsAbove n (least (filter (nat_le n) ns))
least_above n [] = tt
least_above n (x ∷ xs) = by_test (nat_le n x) refl (least_above n xs) where
  by_test : (b : Bool) → nat_le n x ≡ b → IsAbove n (least (filter (nat_le n) xs)) → IsAbove n (least (cond b (x ∷ filter (nat_le n) xs) (filter (nat_le n) xs)))
  by_test true e h = above_both n x (least (filter (nat_le n) xs)) (le_of n x e) h
  by_test false e h = h

sooner_above : (n : ℕ) (o : Option ℕ) → IsAbove n o → sooner (Some n) o ≡ Some n
sooner_above n None h = refl
sooner_above n (Some m) h = ap (λ (k : ℕ). Some k) (omega (arith, h))

-- how many of these are below n
abbrev below : ℕ → List ℕ → ℕ
below n xs = count_by (λ x. nat_lt x n) xs

below_more : (x n : ℕ) (xs : List ℕ) → below n (x ∷ xs) ≡ cond (nat_lt x n) 1 0 + below n xs
below_more x n xs = sum_by-cons (λ (y : ℕ). cond (nat_lt y n) 1 0) x xs

-- where more are at most n than are below it, n is the least of those that are not below it
least_reached : (n : ℕ) (ns : List ℕ) → below n ns < up_to n ns → least (filter (nat_le n) ns) ≡ Some n
least_reached n [] few = absurd (omega (arith, few))
least_reached n (x ∷ xs) few = ⊎_elim
    (λ less. lesser (least_reached n xs) less)
    (λ le. ⊎_elim (λ same. equal same) (λ more. greater (least_reached n xs) more) (eq-or-lt_of_le le))
    (cases_lt x n)
  where
    counts : cond (nat_lt x n) 1 0 + below n xs < cond (nat_le x n) 1 0 + up_to n xs
    counts = subst (λ (k : ℕ). k < cond (nat_le x n) 1 0 + up_to n xs) (below_more x n xs) (subst (λ (k : ℕ). below n (x ∷ xs) < k) (one_more x n xs) few)

    lesser : (below n xs < up_to n xs → least (filter (nat_le n) xs) ≡ Some n) → x < n → least (filter (nat_le n) (x ∷ xs)) ≡ Some n
    lesser later less =
        let a = lt-ltb x n less in
        let b = le-leb x n (omega (arith, less)) in
        let c = lt-leb n x less in
        let both = subst (λ (z : Bool × Bool). cond z.0 1 0 + below n xs < cond z.1 1 0 + up_to n xs) (λ i. (a i, b i)) counts in
        ap (λ (z : Bool). least (cond z (x ∷ filter (nat_le n) xs) (filter (nat_le n) xs))) c ∙ later (omega (arith, both))

    equal : n ≡ x → least (filter (nat_le n) (x ∷ xs)) ≡ Some n
    equal same =
        ap (λ (z : Bool). least (cond z (x ∷ filter (nat_le n) xs) (filter (nat_le n) xs))) (le-leb n x (omega (arith, same)))
        ∙ ap (λ (k : ℕ). sooner (Some k) (least (filter (nat_le n) xs))) (sym same)
        ∙ sooner_above n (least (filter (nat_le n) xs)) (least_above n xs)

    greater : (below n xs < up_to n xs → least (filter (nat_le n) xs) ≡ Some n) → n < x → least (filter (nat_le n) (x ∷ xs)) ≡ Some n
    greater later more =
        let a = le-ltb x n (omega (arith, more)) in
        let b = lt-leb x n more in
        let both = subst (λ (z : Bool × Bool). cond z.0 1 0 + below n xs < cond z.1 1 0 + up_to n xs) (λ i. (a i, b i)) counts in
        ap (λ (z : Bool). least (cond z (x ∷ filter (nat_le n) xs) (filter (nat_le n) xs))) (le-leb n x (omega (arith, more)))
        ∙ ap (sooner (Some x)) (later (omega (arith, both)))
        ∙ ap (λ (k : ℕ). Some k) (omega (arith, more))

below_none : (ns : List ℕ) → below 0 ns ≡ 0
below_none [] = refl
below_none (x ∷ xs) =
    let more = below_more x 0 xs ∙ ap (λ (z : Bool). cond z 1 0 + below 0 xs) (le-ltb x 0 (omega arith)) in
    let rest = below_none xs in
    omega (arith, more, rest)

-- fewer than n are those that are at most the number before it
below_before : (k : ℕ) (ns : List ℕ) → below (suc k) ns ≡ up_to k ns
below_before k [] = refl
below_before k (x ∷ xs) = below_more x (suc k) xs ∙ (λ i. cond (same i) 1 0 + below_before k xs i) ∙ sym (one_more x k xs) where
  by_test : (b : Bool) → nat_le x k ≡ b → nat_lt x (suc k) ≡ b
  by_test true e = lt-ltb x (suc k) (omega (arith, le_of x k e))
  by_test false e = le-ltb x (suc k) (omega (arith, not_le_of x k e))

  same : nat_lt x (suc k) ≡ nat_le x k
  same = by_test (nat_le x k) refl

-- where at most r are at most any number below n, at most r are below n
below_few : (r n : ℕ) (ns : List ℕ) → ((m : ℕ) → m < n → up_to m ns ≤ r) → below n ns ≤ r
below_few r zero ns first = omega (arith, below_none ns)
below_few r (suc k) ns first = omega (arith, below_before k ns, first k (omega arith))

up_to_rises : (n m : ℕ) (ns : List ℕ) → n ≤ m → up_to n ns ≤ up_to m ns
up_to_rises n m [] le = omega arith
up_to_rises n m (x ∷ xs) le = subst (λ (k : ℕ). k ≤ up_to m (x ∷ xs)) (sym (one_more x n xs)) (subst (λ (k : ℕ). cond (nat_le x n) 1 0 + up_to n xs ≤ k) (sym (one_more x m xs)) (by_test (nat_le x n) (nat_le x m) (up_to_rises n m xs le) refl refl)) where
  by_test : (b c : Bool) → up_to n xs ≤ up_to m xs → nat_le x n ≡ b → nat_le x m ≡ c → cond b 1 0 + up_to n xs ≤ cond c 1 0 + up_to m xs
  by_test true true rest e f = omega (arith, rest)
  by_test true false rest e f = absurd (omega (arith, le_of x n e, not_le_of x m f, le))
  by_test false true rest e f = omega (arith, rest)
  by_test false false rest e f = omega (arith, rest)

-- The put with which there are too many

-- a number that is not below n, where n is the first up to which there are too many
many_from : (live : ℕ) (ops : List Op) (n : ℕ) → most_entries < live + puts_by n ops → ((m : ℕ) → m < n → live + puts_by m ops ≤ most_entries)
    → (m : ℕ) → are_many live ops m ≡ nat_le n m
many_from live ops n many first m = by_test (nat_le n m) refl where
  by_test : (b : Bool) → nat_le n m ≡ b → are_many live ops m ≡ b
  by_test true e = lt-ltb most_entries (live + puts_by m ops) (omega (arith, many, up_to_rises n m (put_lines ops) (le_of n m e)))
  by_test false e = le-ltb most_entries (live + puts_by m ops) (first m (not_le_of n m e))

pub passes_first : (live : ℕ) (ops : List Op) (n : ℕ) → most_entries < live + puts_by n ops → ((m : ℕ) → m < n → live + puts_by m ops ≤ most_entries) → live ≤ most_entries
    → passing_line live ops ≡ Some n
passes_first live ops n many first fits =
    let few : below n (put_lines ops) + live ≤ most_entries = few_below_n in
    ap (λ (test : ℕ → Bool). least (filter test (put_lines ops))) (λ i m. many_from live ops n many first m i)
    ∙ least_reached n (put_lines ops) (omega (arith, few, many))
  where
    few_below_n : below n (put_lines ops) + live ≤ most_entries
    few_below_n = (let rest = below_few (most_entries - live) n (put_lines ops) (λ m less. let h = first m less in omega (arith, h)) in omega (arith, rest, fits))

-- behind as many puts as there is room for, in order, stands the put that makes too many
pub passes : (live room : ℕ) (ops : List Op) (xs : List ℕ) → room + live ≡ most_entries → IsPermutation (put_lines ops) xs → IsSorted nat_cmp xs → room < length xs
    → passing_line live ops ≡ Some (get_or xs room 0)
passes live room ops xs fits permuted sorted long =
    let in_order : rises xs = rises_of xs (λ i j le low. IsNonDecreasingBy-from_sort (λ x. x) xs sorted i j 0 le low) in
    let same : (n : ℕ) → up_to n xs ≡ up_to n (put_lines ops) = λ n. sum_by-IsPermutation (λ (x : ℕ). cond (nat_le x n) 1 0) (put_lines ops) xs permuted in
    passes_first live ops (get_or xs room 0)
    (omega (arith, fits, same (get_or xs room 0), many_up_to xs room in_order long))
    (λ m less. omega (arith, fits, same m, few_below xs room m in_order long less))
    (omega (arith, fits))

keeps_none : (ns : List ℕ) → filter (λ (n : ℕ). false) ns ≡ []
keeps_none [] = refl
keeps_none (n ∷ ns) = keeps_none ns

-- where there are few in all, there are never too many
pub none_passes : (live : ℕ) (ops : List Op) → live + all_puts ops ≤ most_entries → passing_line live ops ≡ None
none_passes live ops few =
    ap (λ (test : ℕ → Bool). least (filter test (put_lines ops))) (λ i m. le-ltb most_entries (live + puts_by m ops) (omega (arith, few, count_by-le-length (λ (x : ℕ). nat_le x m) (put_lines ops))) i)
    ∙ ap least (keeps_none (put_lines ops))

-- and the other way round

abbrev greatest : List ℕ → ℕ
greatest [] = 0
greatest (n ∷ ns) = max n (greatest ns)

all_up_to : (n : ℕ) (ns : List ℕ) → greatest ns ≤ n → up_to n ns ≡ length ns
all_up_to n [] le = refl
all_up_to n (x ∷ xs) le =
    let more = one_more x n xs ∙ ap (λ (z : Bool). cond z 1 0 + up_to n xs) (le-leb x n (omega (arith, le))) in
    let rest = all_up_to n xs (omega (arith, le)) in
    omega (arith, more, rest)

at_greatest : (P : ℕ → Type 0) (n : ℕ) (ns : List ℕ) → AllByRecursion P (n ∷ ns) → P (greatest (n ∷ ns))
at_greatest P n [] all = subst P (let e : n ≡ max n 0 = omega arith in e) all.0
at_greatest P n (m ∷ ns) all = ⊎_elim
    (λ less. subst P (let e : greatest (m ∷ ns) ≡ max n (greatest (m ∷ ns)) = omega (arith, less) in e) (at_greatest P m ns all.1))
    (λ le. subst P (let e : n ≡ max n (greatest (m ∷ ns)) = omega (arith, le) in e) all.0)
    (cases_lt n (greatest (m ∷ ns)))

few_where : (live : ℕ) (ops : List Op) (ns : List ℕ) → put_lines ops ≡ ns → live ≤ most_entries → AllByRecursion (λ n. are_many live ops n ≡ false) ns → live + length ns ≤ most_entries
few_where live ops [] is fits all = omega (arith, fits)
few_where live ops (n ∷ ns) is fits all =
    let last = at_greatest (λ m. are_many live ops m ≡ false) n ns all in
    let few = ltb-false most_entries (live + puts_by (greatest (n ∷ ns)) ops) last in
    let same = ap (up_to (greatest (n ∷ ns))) is in
    let whole = all_up_to (greatest (n ∷ ns)) (n ∷ ns) (omega arith) in
    omega (arith, few, same, whole)

-- where no put makes too many, there are few
pub few_unless : (live : ℕ) (ops : List Op) → live ≤ most_entries → passing_line live ops ≡ None → live + all_puts ops ≤ most_entries
few_unless live ops fits none = few_where live ops (put_lines ops) refl fits (filter_none (are_many live ops) (put_lines ops) (least_none (filter (are_many live ops) (put_lines ops)) none))

pub most_is : most_entries ≡ 524288
most_is = refl
