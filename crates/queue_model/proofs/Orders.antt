-- the order of rows: of two rows one comes first, none before itself, and what is before the second is before the third
use Rattle.std.proofs.Common.{◌≡◌, ◌≢◌, ◌⊎◌, inl, inr, ℕ, ◌<◌, Option, Some, None, List, [], ◌∷◌, find, Ordering, Less, Equal, Greater, refl, sym, ap, ap₂, ◌∙◌, subst, ⊎_elim, arith}
use Rattle.std.proofs.lemmas.Bool.{cases_order}
use Rattle.std.proofs.lemmas.Cmp.{ranked, tied_itself, nat_list_cmp_total}
use Rattle.std.specs.Cmp.Lexicographic.{slice_cmp}
use Rattle.std.specs.List.{position_or_len}
use Rattle.std.specs.Ordering.{nat_cmp, MatchOrdering, ordering_then, ordering_reverse}
use Rattle.queue_model.specs.declared.queues.Queue.{Queue}
use Rattle.queue_model.specs.declared.rows.Row.{Row}
use Rattle.queue_model.specs.Order.{Order, ByList, ByKey, ByArrival, arrival, KeyBefore, Precedes, IsOlder}
use Rattle.queue_model.specs.State.{is_row, row_at, rows_of, list_at, place_at}
use Rattle.queue_model.proofs.KeyedLemmas.{position-same}
use Rattle.queue_model.proofs.SoundSteps.{list_found}
use Rattle.queue_model.proofs.Stable.{found_in_list}

-- Places

-- two rows of one list have different places
pub place_same : (q : Queue) (r s : ℕ) (x y : Row) → row_at q r ≡ Some x → row_at q s ≡ Some y → x.slip.list ≡ y.slip.list → place_at q r ≡ place_at q s → x ≡ y
place_same q r s x y found also list same =
    let l : list_at q s ≡ list_at q r = list_found q s y also ∙ sym list ∙ sym (list_found q r x found) in
    position-same (is_row r) (is_row s) (rows_of q (list_at q r)) x y (found_in_list q r x found)
    (subst (λ (n : ℕ). find (is_row s) (rows_of q n) ≡ Some y) l (found_in_list q s y also))
    (same ∙ ap (λ (n : ℕ). position_or_len (is_row s) (rows_of q n)) l)

-- two rows arrived one after the other
pub arrival_same : (q : Queue) (x y : Row) → row_at q x.number ≡ Some x → row_at q y.number ≡ Some y → arrival q x ≡ arrival q y → x ≡ y
arrival_same q x y found also same = position-same (is_row x.number) (is_row y.number) q.rows x y found also same

-- Keys

-- what a comparison says where it finds two equal
rank_equal : (P Q R : Type 0) (o : Ordering) → o ≡ Equal → MatchOrdering o P Q R → Q
rank_equal P Q R Less e m = absurd (cc)
rank_equal P Q R Equal e m = m
rank_equal P Q R Greater e m = absurd (cc)

-- two comparisons in a row find equal where each does
then_equal : (o p : Ordering) → ordering_then o p ≡ Equal → (o ≡ Equal) × (p ≡ Equal)
then_equal Less p e = absurd (cc)
then_equal Equal p e = (refl, e)
then_equal Greater p e = absurd (cc)

-- lists of which none is before the other are equal
pub same_key : (a b : List ℕ) → slice_cmp nat_cmp a b ≡ Equal → a ≡ b
same_key [] [] e = refl
same_key [] (y ∷ b) e = absurd (cc)
same_key (x ∷ a) [] e = absurd (cc)
same_key (x ∷ a) (y ∷ b) e =
    let t = then_equal (nat_cmp x y) (slice_cmp nat_cmp a b) e in
    ap₂ (λ (n : ℕ) (c : List ℕ). n ∷ c) (rank_equal (x < y) (x ≡ y) (y < x) (nat_cmp x y) t.0 (ranked x y (nat_cmp x y) refl)) (same_key a b t.1)

-- two keys by what their comparison finds
by_cmp : (a b : List ℕ) (o : Ordering) → slice_cmp nat_cmp a b ≡ o → (Some a ≡ Some b) ⊎ (KeyBefore (Some a) (Some b) ⊎ KeyBefore (Some b) (Some a))
by_cmp a b Less e = inr (inl e)
by_cmp a b Equal e = inl (ap (λ (c : List ℕ). Some c) (same_key a b e))
by_cmp a b Greater e = inr (inr (nat_list_cmp_total.antisymm b a ∙ ap ordering_reverse e))

-- two keys are equal, or one is before the other
pub key_cases : (j k : Option (List ℕ)) → (j ≡ k) ⊎ (KeyBefore j k ⊎ KeyBefore k j)
key_cases None None = inl refl
key_cases None (Some b) = inr (inr tt)
key_cases (Some a) None = inr (inl tt)
key_cases (Some a) (Some b) = by_cmp a b (slice_cmp nat_cmp a b) refl

-- no key is before itself
key_not : (k : Option (List ℕ)) → KeyBefore k k → ⊥
key_not None before = before
key_not (Some a) before = let t : slice_cmp nat_cmp a a ≡ Equal = tied_itself nat_list_cmp_total a in let bad : Equal ≡ Less = sym t ∙ before in absurd (cc)

-- what is before the second is before the third
key_trans : (i j k : Option (List ℕ)) → KeyBefore i j → KeyBefore j k → KeyBefore i k
key_trans None j k p r = absurd p
key_trans (Some a) None k p r = absurd r
key_trans (Some a) (Some b) None p r = tt
key_trans (Some a) (Some b) (Some c) p r = nat_list_cmp_total.trans a b c p r

-- Queue order

-- of two rows of a list one has the earlier place
list_total : (q : Queue) (x y : Row) → row_at q x.number ≡ Some x → row_at q y.number ≡ Some y → x.number ≢ y.number → x.slip.list ≡ y.slip.list → (place_at q x.number < place_at q y.number) ⊎ (place_at q y.number < place_at q x.number)
list_total q x y found also other list = ⊎_elim
    (λ (same : place_at q x.number ≡ place_at q y.number). absurd (other (ap (λ (z : Row). z.number) (place_same q x.number y.number x y found also list same))))
    (λ (s : (place_at q x.number < place_at q y.number) ⊎ (place_at q y.number < place_at q x.number)). s)
    (cases_order (place_at q x.number) (place_at q y.number))

-- of two rows one came first
arrival_total : (q : Queue) (x y : Row) → row_at q x.number ≡ Some x → row_at q y.number ≡ Some y → x.number ≢ y.number → (arrival q x < arrival q y) ⊎ (arrival q y < arrival q x)
arrival_total q x y found also other = ⊎_elim
    (λ (same : arrival q x ≡ arrival q y). absurd (other (ap (λ (z : Row). z.number) (arrival_same q x y found also same))))
    (λ (s : (arrival q x < arrival q y) ⊎ (arrival q y < arrival q x)). s)
    (cases_order (arrival q x) (arrival q y))

-- of two rows of a queue one comes before the other
pub precedes_total : (o : Order) (q : Queue) (x y : Row) → row_at q x.number ≡ Some x → row_at q y.number ≡ Some y → x.number ≢ y.number → Precedes o q x y ⊎ Precedes o q y x
precedes_total ByList q x y found also other = ⊎_elim
    (λ (list : x.slip.list ≡ y.slip.list). ⊎_elim
    (λ (first : place_at q x.number < place_at q y.number). inl (inr (list, first)))
    (λ (second : place_at q y.number < place_at q x.number). inr (inr (sym list, second)))
    (list_total q x y found also other list))
    (λ (s : (x.slip.list < y.slip.list) ⊎ (y.slip.list < x.slip.list)). ⊎_elim
    (λ (low : x.slip.list < y.slip.list). inr (inl low))
    (λ (high : y.slip.list < x.slip.list). inl (inl high))
    s)
    (cases_order x.slip.list y.slip.list)
precedes_total ByKey q x y found also other = ⊎_elim
    (λ (key : x.slip.key ≡ y.slip.key). ⊎_elim
    (λ (first : arrival q x < arrival q y). inl (inr (key, first)))
    (λ (second : arrival q y < arrival q x). inr (inr (sym key, second)))
    (arrival_total q x y found also other))
    (λ (s : KeyBefore x.slip.key y.slip.key ⊎ KeyBefore y.slip.key x.slip.key). ⊎_elim
    (λ (first : KeyBefore x.slip.key y.slip.key). inl (inl first))
    (λ (second : KeyBefore y.slip.key x.slip.key). inr (inl second))
    s)
    (key_cases x.slip.key y.slip.key)
precedes_total ByArrival q x y found also other = arrival_total q x y found also other

-- no row comes before itself
pub precedes_not : (o : Order) (q : Queue) (x : Row) → Precedes o q x x → ⊥
precedes_not ByList q x before = ⊎_elim
    (λ (l : x.slip.list < x.slip.list). omega arith)
    (λ (p : (x.slip.list ≡ x.slip.list) × (place_at q x.number < place_at q x.number)). omega (arith, p.1))
    before
precedes_not ByKey q x before = ⊎_elim
    (λ (k : KeyBefore x.slip.key x.slip.key). key_not x.slip.key k)
    (λ (p : (x.slip.key ≡ x.slip.key) × (arrival q x < arrival q x)). omega (arith, p.1))
    before
precedes_not ByArrival q x before = omega arith

-- what comes before the second comes before the third
pub precedes_trans : (o : Order) (q : Queue) (x y z : Row) → Precedes o q x y → Precedes o q y z → Precedes o q x z
precedes_trans ByList q x y z p r = ⊎_elim
    (λ (a : y.slip.list < x.slip.list). ⊎_elim
    (λ (b : z.slip.list < y.slip.list). inl (omega arith))
    (λ (b : (y.slip.list ≡ z.slip.list) × (place_at q y.number < place_at q z.number)). inl (omega (arith, b.0)))
    r)
    (λ (a : (x.slip.list ≡ y.slip.list) × (place_at q x.number < place_at q y.number)). ⊎_elim
    (λ (b : z.slip.list < y.slip.list). inl (omega (arith, a.0)))
    (λ (b : (y.slip.list ≡ z.slip.list) × (place_at q y.number < place_at q z.number)). inr (a.0 ∙ b.0, omega (arith, a.1, b.1)))
    r)
    p
precedes_trans ByKey q x y z p r = ⊎_elim
    (λ (a : KeyBefore x.slip.key y.slip.key). ⊎_elim
    (λ (b : KeyBefore y.slip.key z.slip.key). inl (key_trans x.slip.key y.slip.key z.slip.key a b))
    (λ (b : (y.slip.key ≡ z.slip.key) × (arrival q y < arrival q z)). inl (subst (λ (k : Option (List ℕ)). KeyBefore x.slip.key k) b.0 a))
    r)
    (λ (a : (x.slip.key ≡ y.slip.key) × (arrival q x < arrival q y)). ⊎_elim
    (λ (b : KeyBefore y.slip.key z.slip.key). inl (subst (λ (k : Option (List ℕ)). KeyBefore k z.slip.key) (sym a.0) b))
    (λ (b : (y.slip.key ≡ z.slip.key) × (arrival q y < arrival q z)). inr (a.0 ∙ b.0, omega (arith, a.1, b.1)))
    r)
    p
precedes_trans ByArrival q x y z p r = omega arith

-- Oldest order

-- of two rows of a queue one is older
pub older_total : (o : Order) (q : Queue) (x y : Row) → row_at q x.number ≡ Some x → row_at q y.number ≡ Some y → x.number ≢ y.number → IsOlder o q x y ⊎ IsOlder o q y x
older_total ByList q x y found also other = ⊎_elim
    (λ (list : x.slip.list ≡ y.slip.list). ⊎_elim
    (λ (first : place_at q x.number < place_at q y.number). inl (inr (list, first)))
    (λ (second : place_at q y.number < place_at q x.number). inr (inr (sym list, second)))
    (list_total q x y found also other list))
    (λ (s : (x.slip.list < y.slip.list) ⊎ (y.slip.list < x.slip.list)). ⊎_elim
    (λ (low : x.slip.list < y.slip.list). inl (inl low))
    (λ (high : y.slip.list < x.slip.list). inr (inl high))
    s)
    (cases_order x.slip.list y.slip.list)
older_total ByKey q x y found also other = arrival_total q x y found also other
older_total ByArrival q x y found also other = arrival_total q x y found also other

-- no row is older than itself
pub older_not : (o : Order) (q : Queue) (x : Row) → IsOlder o q x x → ⊥
older_not ByList q x before = ⊎_elim
    (λ (l : x.slip.list < x.slip.list). omega arith)
    (λ (p : (x.slip.list ≡ x.slip.list) × (place_at q x.number < place_at q x.number)). omega (arith, p.1))
    before
older_not ByKey q x before = omega arith
older_not ByArrival q x before = omega arith

-- what is older than the second is older than the third
pub older_trans : (o : Order) (q : Queue) (x y z : Row) → IsOlder o q x y → IsOlder o q y z → IsOlder o q x z
older_trans ByList q x y z p r = ⊎_elim
    (λ (a : x.slip.list < y.slip.list). ⊎_elim
    (λ (b : y.slip.list < z.slip.list). inl (omega arith))
    (λ (b : (y.slip.list ≡ z.slip.list) × (place_at q y.number < place_at q z.number)). inl (omega (arith, b.0)))
    r)
    (λ (a : (x.slip.list ≡ y.slip.list) × (place_at q x.number < place_at q y.number)). ⊎_elim
    (λ (b : y.slip.list < z.slip.list). inl (omega (arith, a.0)))
    (λ (b : (y.slip.list ≡ z.slip.list) × (place_at q y.number < place_at q z.number)). inr (a.0 ∙ b.0, omega (arith, a.1, b.1)))
    r)
    p
older_trans ByKey q x y z p r = omega arith
older_trans ByArrival q x y z p r = omega arith
