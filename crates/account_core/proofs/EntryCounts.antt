-- sums over the entries of a queue, and over the rows that it began with
use Rattle.std.proofs.Common.{◌≡◌, ℕ, zero, suc, ◌+◌, ◌≤◌, ◌==◌, nat_lt, Bool, true, false, cond, not, List, [], ◌∷◌, ◌++◌, filter, map, sum_by, refl, sym, ap, ◌∙◌, eqb-true, arith}
use Rattle.std.proofs.lemmas.Bool.{ltb-true, ltb-false}
use Rattle.std.proofs.lemmas.List.Filters.{sum_by-filter_both}
use Rattle.std.proofs.lemmas.List.Sums.{sum_by-append, sum_by-cons, sum_by-le-sum_by}
use Rattle.std.specs.List.{AllByRecursion}
use Rattle.queue_model.specs.declared.queues.Queue.{Queue}
use Rattle.queue_model.specs.declared.rows.Row.{Row}
use Rattle.queue_model.specs.State.{is_of_list, rows_of}
use Rattle.queue_model.proofs.KeyedLemmas.{all-filter}
use Rattle.acts_core.specs.Sight.{Kind, Listed, Sorted, LastValue}
use Rattle.defs_read.specs.Defined.{Defined}
use Rattle.account_core.specs.Carry.{Opens, by_key, carried, entries_of, from_highest, handed_on, is_before, is_outdated, lasting, stays, unnumbered, with_row}
use Rattle.account_core.specs.Counting.{with_ids}
use Rattle.account_core.specs.Played.{Played, rest_of}

-- Sums

-- sums of lists that are changed or of which a part is taken
pub sum_map : {X Y : Type 0} (w : Y → ℕ) (f : X → Y) (xs : List X) → sum_by w (map f xs) ≡ sum_by (λ x. w (f x)) xs
sum_map w f [] = refl
sum_map w f (x ∷ xs) = omega (arith, sum_by-cons w (f x) (map f xs), sum_by-cons (λ y. w (f y)) x xs, sum_map w f xs)

filter_le : {X : Type 0} (w : X → ℕ) (t : X → Bool) (xs : List X) → sum_by w (filter t xs) ≤ sum_by w xs
filter_le w t xs = omega (arith, sum_by-filter_both t (λ x. not (t x)) (λ x. refl) w xs)

-- the weight of a row of the lists below n
abbrev below : (Row → ℕ) → ℕ → Row → ℕ
below w n x = cond (nat_lt x.slip.list n) (w x) 0

-- a row is in one list
one_list : (w : Row → ℕ) (n : ℕ) (x : Row) → cond (is_of_list n x) (w x) 0 + below w n x ≤ below w (suc n) x
one_list w n x = by_tests (x.slip.list == n) (nat_lt x.slip.list n) (nat_lt x.slip.list (suc n)) refl refl refl where
  by_tests : (a b c : Bool) → (x.slip.list == n) ≡ a → nat_lt x.slip.list n ≡ b → nat_lt x.slip.list (suc n) ≡ c → cond a (w x) 0 + cond b (w x) 0 ≤ cond c (w x) 0
  by_tests true true c e f g = absurd (omega (arith, eqb-true x.slip.list n e, ltb-true x.slip.list n f))
  by_tests true false true e f g = omega arith
  by_tests true false false e f g = absurd (omega (arith, eqb-true x.slip.list n e, ltb-false x.slip.list (suc n) g))
  by_tests false true true e f g = omega arith
  by_tests false true false e f g = absurd (omega (arith, ltb-true x.slip.list n f, ltb-false x.slip.list (suc n) g))
  by_tests false false c e f g = omega arith

-- the rows of a list, and those of the lists below it, are of the lists up to it
list_le : (w : Row → ℕ) (n : ℕ) (xs : List Row) → sum_by w (filter (is_of_list n) xs) + sum_by (below w n) xs ≤ sum_by (below w (suc n)) xs
list_le w n [] = omega arith
list_le w n (x ∷ xs) =
    let rest = list_le w n xs in
    let one = one_list w n x in
    omega (arith, kept (is_of_list n x), sum_by-cons (below w n) x xs, sum_by-cons (below w (suc n)) x xs, one, rest)
  where
    kept : (b : Bool) → sum_by w (cond b (x ∷ filter (is_of_list n) xs) (filter (is_of_list n) xs)) ≡ cond b (w x) 0 + sum_by w (filter (is_of_list n) xs)
    kept true = sum_by-cons w x (filter (is_of_list n) xs)
    kept false = omega arith

-- the lists from the highest on have each row once
highest_below : (w : Row → ℕ) (q : Queue) (n : ℕ) → sum_by w (from_highest q n) ≤ sum_by (below w n) q.rows
highest_below w q zero = omega arith
highest_below w q (suc n) = omega (arith, sum_by-append w (rows_of q n) (from_highest q n), highest_below w q n, list_le w n q.rows)

-- the entries of a listed queue weigh no more than all rows
listed_le : (w : Row → ℕ) (q : Queue) → sum_by w (entries_of Listed q) ≤ sum_by w q.rows
listed_le w q =
    let all = sum_by-le-sum_by (below w q.lists) w q.rows (λ x. part x (nat_lt x.slip.list q.lists)) in
    omega (arith, filter_le w (λ x. stays x.state) (from_highest q q.lists), highest_below w q q.lists, all)
  where
    part : (x : Row) (b : Bool) → cond b (w x) 0 ≤ w x
    part x true = omega arith
    part x false = omega arith

-- rows by key weigh what they weigh
with_weight : (w : Row → ℕ) (x : Row) (ys : List Row) → sum_by w (with_row x ys) ≡ w x + sum_by w ys
with_weight w x [] = sum_by-cons w x []
with_weight w x (y ∷ ys) = by_test (is_before y.slip.key x.slip.key) (with_weight w x ys) where
  by_test : (b : Bool) → sum_by w (with_row x ys) ≡ w x + sum_by w ys → sum_by w (cond b (y ∷ with_row x ys) (x ∷ y ∷ ys)) ≡ w x + sum_by w (y ∷ ys)
  by_test true rest = omega (arith, sum_by-cons w y (with_row x ys), sum_by-cons w y ys, rest)
  by_test false rest = sum_by-cons w x (y ∷ ys)

key_weight : (w : Row → ℕ) (xs : List Row) → sum_by w (by_key xs) ≡ sum_by w xs
key_weight w [] = refl
key_weight w (x ∷ xs) = omega (arith, with_weight w x (by_key xs), key_weight w xs, sum_by-cons w x xs)

-- the entries weigh no more than all rows
pub entries_le : (w : Row → ℕ) (kind : Kind) (q : Queue) → sum_by w (entries_of kind q) ≤ sum_by w q.rows
entries_le w Listed q = listed_le w q
entries_le w Sorted q = omega (arith, key_weight w (filter (λ x. stays x.state) q.rows), filter_le w (λ x. stays x.state) q.rows)
entries_le w LastValue q = filter_le w (λ x. stays x.state) q.rows

-- and so do those that are not outdated
pub lasting_le : (w : Row → ℕ) (kind : Kind) (q : Queue) → sum_by w (lasting kind q) ≤ sum_by w q.rows
lasting_le w kind q = omega (arith, filter_le w (λ x. not (is_outdated kind q x)) (entries_of kind q), entries_le w kind q)

-- Ids

-- what a queue opens with
pub opens_count : (def : Defined) (rows : List Row) (p : Played) (test : ℕ → Bool) → Opens def rows p.plan → with_ids test p.plan.opening.rows ≡ with_ids test rows
opens_count def rows p test opens =
    sym (sum_map (λ (x : Row). cond (test x.slip.id) 1 0) unnumbered p.plan.opening.rows) ∙ ap (with_ids test) opens.kept

-- what it hands on
pub hands_on_count : (p : Played) (test : ℕ → Bool) → with_ids test (handed_on p) ≤ with_ids test (rest_of p).rows
hands_on_count p test =
    omega (arith, sum_map (λ (x : Row). cond (test x.slip.id) 1 0) carried (lasting p.plan.kind (rest_of p)), lasting_le (λ x. cond (test x.slip.id) 1 0) p.plan.kind (rest_of p))

-- Facts of each entry

-- what holds of each row holds of those of all lists
all_lists : (P : Row → Type 0) (q : Queue) (n : ℕ) → AllByRecursion P q.rows → AllByRecursion P (from_highest q n)
all_lists P q zero all = tt
all_lists P q (suc n) all = append (rows_of q n) (all-filter P (is_of_list n) q.rows all) (all_lists P q n all) where
  append : (xs : List Row) → AllByRecursion P xs → AllByRecursion P (from_highest q n) → AllByRecursion P (xs ++ from_highest q n)
  append [] here rest = rest
  append (x ∷ xs) here rest = (here.0, append xs here.1 rest)

-- of the rows that stay each is not deleted
pub staying : (P : Row → Type 0) (xs : List Row) → AllByRecursion P xs → AllByRecursion (λ x. P x × (stays x.state ≡ true)) (filter (λ x. stays x.state) xs)
staying P [] each = tt
staying P (x ∷ xs) each = by_test (stays x.state) refl (staying P xs each.1) where
  by_test : (b : Bool) → stays x.state ≡ b → AllByRecursion (λ y. P y × (stays y.state ≡ true)) (filter (λ y. stays y.state) xs)
      → AllByRecursion (λ y. P y × (stays y.state ≡ true)) (cond b (x ∷ filter (λ y. stays y.state) xs) (filter (λ y. stays y.state) xs))
  by_test true e rest = ((each.0, e), rest)
  by_test false e rest = rest

-- what holds of each row holds of each by key
pub all_with : (P : Row → Type 0) (x : Row) (ys : List Row) → P x → AllByRecursion P ys → AllByRecursion P (with_row x ys)
all_with P x [] here all = (here, tt)
all_with P x (y ∷ ys) here all = by_test (is_before y.slip.key x.slip.key) (all_with P x ys here all.1) where
  by_test : (b : Bool) → AllByRecursion P (with_row x ys) → AllByRecursion P (cond b (y ∷ with_row x ys) (x ∷ y ∷ ys))
  by_test true rest = (all.0, rest)
  by_test false rest = (here, all)

pub all_keyed : (P : Row → Type 0) (xs : List Row) → AllByRecursion P xs → AllByRecursion P (by_key xs)
all_keyed P [] all = tt
all_keyed P (x ∷ xs) all = all_with P x (by_key xs) all.0 (all_keyed P xs all.1)

-- what holds of each row holds of each entry, which is not deleted
pub all_entries : (P : Row → Type 0) (kind : Kind) (q : Queue) → AllByRecursion P q.rows → AllByRecursion (λ x. P x × (stays x.state ≡ true)) (entries_of kind q)
all_entries P Listed q all = staying P (from_highest q q.lists) (all_lists P q q.lists all)
all_entries P Sorted q all = all_keyed (λ x. P x × (stays x.state ≡ true)) (filter (λ x. stays x.state) q.rows) (staying P q.rows all)
all_entries P LastValue q all = staying P q.rows all
