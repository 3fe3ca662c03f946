-- what a closed table leaves, as the contracts of every queue see it
use Rattle.std.proofs.Common.{true, false, ◌≡◌, ◌≢◌, ℕ, zero, suc, ◌<◌, Bool, cond, List, [], ◌∷◌, ◌++◌, length, length-append, find, map, Some, None, refl, sym, ap, ◌∙◌, subst, arith, append_assoc, inl, inr, ⊎_elim, eq-eqb, ne_eqb}
use Rattle.std.specs.List.{AllByRecursion, position_or_len}
use Rattle.std.proofs.lemmas.Bool.{cases_eq, cond-true, cond-false, eqb-false}
use mathlib.Core.List.{Mem, mem-cons_self, mem-cons_of_mem, mem-append_left, mem-append_right}
use Rattle.queue_model.specs.declared.queues.Queue.{Queue}
use Rattle.queue_model.specs.declared.rows.Row.{Row}
use Rattle.queue_model.specs.declared.rows.RowState.{RowState}
use Rattle.queue_model.specs.declared.rows.RowState.TheVariants.{Available, Locked, Unlocked, Dequeued, Deleted}
use Rattle.queue_model.specs.Keyed.{Apart}
use Rattle.queue_model.specs.Order.{Precedes, ByList}
use Rattle.queue_model.specs.Sound.{same_number}
use Rattle.queue_model.specs.State.{row_at, rows_of, list_at, place_at, is_row, is_of_list}
use Rattle.queue_model.proofs.KeyedLemmas.{find_none-head, find_none-tail, find-filter, apart-filter, position-here, position-past}
use Rattle.acts_core.specs.declared.cargoes.RestEntry.{RestEntry}
use Rattle.acts_core.specs.Load.{Load}
use Rattle.acts_core.specs.Rest as kept
use Rattle.acts_core.specs.Sight.{Listed}
use Rattle.link_core.specs.Stands.{Drafts}
use Rattle.entry_table.specs.Resting.{is_live, live, rests, IsRest, AreGathered}
use Rattle.entry_table.proofs.Closing.{all_found, of_list}
use Rattle.entry_table.proofs.Ends.{list_is, place_is}
use Rattle.entry_table.proofs.Leaving.{all_live, all_to}

-- Places

-- what nothing of a list passes one in its midst doesn't pass
none_mid : (p : Row → Bool) (zs ys : List Row) (x : Row) → find p (zs ++ x ∷ ys) ≡ None → p x ≡ false
none_mid p [] ys x e = find_none-head p x ys e
none_mid p (z ∷ zs) ys x e = none_mid p zs ys x (find_none-tail p z (zs ++ x ∷ ys) e)

position_mid : (front : List Row) (x : Row) (ys : List Row) → Apart same_number (front ++ x ∷ ys) → position_or_len (is_row x.number) (front ++ x ∷ ys) ≡ length front
position_mid [] x ys apart = position-here (is_row x.number) x ys (eq-eqb x.number x.number refl)
position_mid (z ∷ zs) x ys apart =
    let off : x.number ≢ z.number = eqb-false x.number z.number (none_mid (same_number z) zs ys x apart.0) in
    let rest = position_mid zs x ys apart.1 in
    let past = position-past (is_row x.number) z (zs ++ x ∷ ys) (ne_eqb z.number x.number (λ e. off (sym e))) in
    omega (arith, past, rest)

module _ {C : Type 0} (load : C → Load) (q : Queue) (apart : Apart same_number q.rows) where
  -- each row that stands there is found
  here : (l : ℕ) → AllByRecursion (λ x. (row_at q x.number ≡ Some x) × (x.slip.list ≡ l)) (rows_of q l)
  here l = of_list load q l q.rows (all_found load q.rows q.rows apart (λ x e. e) apart)

  -- the rows of list l from place n on
  abbrev Rising : ℕ → ℕ → List Row → Type 0
  Rising l n [] = Unit {0}
  Rising l n (x ∷ xs) = (x.slip.list ≡ l) × (place_at q x.number ≡ n) × Rising l (suc n) xs

  rising : (l : ℕ) (front xs : List Row) → rows_of q l ≡ front ++ xs → AllByRecursion (λ x. (row_at q x.number ≡ Some x) × (x.slip.list ≡ l)) xs → Rising l (length front) xs
  rising l front [] whole all = tt
  rising l front (x ∷ xs) whole all =
      let list : list_at q x.number ≡ l = list_is q x.number x all.0.0 ∙ all.0.1 in
      let place : place_at q x.number ≡ length front =
      place_is q x.number l list ∙ (ap (position_or_len (is_row x.number)) whole ∙ position_mid front x xs (subst (Apart same_number) whole (apart-filter same_number (is_of_list l) q.rows apart))) in
      let long : length (front ++ x ∷ []) ≡ suc (length front) = let e = length-append front (x ∷ []) in omega (arith, e) in
      (all.0.1, place, subst (λ (n : ℕ). Rising l n xs) long (rising l (front ++ x ∷ []) xs (whole ∙ sym (append_assoc front (x ∷ []) xs)) all.1))

  -- a row comes before those at later places
  before_rising : (l n : ℕ) (x : Row) (xs : List Row) → x.slip.list ≡ l → place_at q x.number < n → Rising l n xs → AllByRecursion (λ y. Precedes ByList q x y) xs
  before_rising l n x [] list low r = tt
  before_rising l n x (y ∷ ys) list low r = let at = r.1 in (inr (list ∙ sym r.0, omega (arith, low, at)), before_rising l (suc n) x ys list (omega (arith, low)) r.2)

  -- Order

  live_ordered : (l n : ℕ) (xs : List Row) → Rising l n xs → kept.InOrder Listed q (live xs)
  live_ordered l n [] r = tt
  live_ordered l n (x ∷ xs) r =
      let rest = live_ordered l (suc n) xs r.2 in
      let at = r.1 in
      let first = all_live (λ y. Precedes ByList q x y) xs (before_rising l (suc n) x xs r.0 (omega (arith, at)) r.2) in
      elim (is_live x.state) as (λ b. kept.InOrder Listed q (cond b (x ∷ live xs) (live xs))) [ true ↦ (first, rest) | false ↦ rest ]

  all_append : (P : Row → Type 0) (xs ys : List Row) → AllByRecursion P xs → AllByRecursion P ys → AllByRecursion P (xs ++ ys)
  all_append P [] ys a b = b
  all_append P (x ∷ xs) ys a b = (a.0, all_append P xs ys a.1 b)

  ordered_append : (xs ys : List Row) → kept.InOrder Listed q xs → kept.InOrder Listed q ys → AllByRecursion (λ x. AllByRecursion (λ y. Precedes ByList q x y) ys) xs → kept.InOrder Listed q (xs ++ ys)
  ordered_append [] ys a b c = b
  ordered_append (x ∷ xs) ys a b c = (all_append (λ y. Precedes ByList q x y) xs ys a.0 c.0, ordered_append xs ys a.1 b c.1)

  -- the rows of the lists below n are of lists below n
  rests_low : (n : ℕ) → AllByRecursion (λ y. y.slip.list < n) (rests n q)
  rests_low zero = tt
  rests_low (suc l) = all_append (λ y. y.slip.list < suc l) (live (rows_of q l)) (rests l q)
      (all_to (λ y. y.slip.list ≡ l) (λ y. y.slip.list < suc l) (live (rows_of q l)) (λ y e. omega (arith, e))
      (all_live (λ y. y.slip.list ≡ l) (rows_of q l) (all_to (λ x. (row_at q x.number ≡ Some x) × (x.slip.list ≡ l)) (λ y. y.slip.list ≡ l) (rows_of q l) (λ y e. e.1) (here l))))
      (all_to (λ y. y.slip.list < l) (λ y. y.slip.list < suc l) (rests l q) (λ y e. omega (arith, e)) (rests_low l))

  pub rests_ordered : (n : ℕ) → kept.InOrder Listed q (rests n q)
  rests_ordered zero = tt
  rests_ordered (suc l) = ordered_append (live (rows_of q l)) (rests l q) (live_ordered l 0 (rows_of q l) (rising l [] (rows_of q l) refl (here l))) (rests_ordered l)
      (all_to (λ x. x.slip.list ≡ l) (λ x. AllByRecursion (λ y. Precedes ByList q x y) (rests l q)) (live (rows_of q l))
      (λ x e. all_to (λ y. y.slip.list < l) (λ y. Precedes ByList q x y) (rests l q) (λ y low. inl (omega (arith, e, low))) (rests_low l))
      (all_live (λ x. x.slip.list ≡ l) (rows_of q l) (all_to (λ x. (row_at q x.number ≡ Some x) × (x.slip.list ≡ l)) (λ y. y.slip.list ≡ l) (rows_of q l) (λ y e. e.1) (here l))))

  -- Which rows

  not_deleted : (s : RowState) → is_live s ≡ true → s ≢ Deleted
  not_deleted s e gone = let bad : true ≡ false = sym e ∙ ap is_live gone in absurd (cc)

  is_there : (s : RowState) → s ≢ Deleted → is_live s ≡ true
  is_there Available ne = refl
  is_there (Locked h) ne = refl
  is_there (Unlocked h) ne = refl
  is_there Dequeued ne = refl
  is_there Deleted ne = absurd (ne refl)

  live_there : (xs : List Row) → AllByRecursion (λ x. row_at q x.number ≡ Some x) xs → AllByRecursion (kept.IsLive q) (live xs)
  live_there [] all = tt
  live_there (x ∷ xs) all = by_state (live_there xs all.1) (is_live x.state) refl where
    by_state : AllByRecursion (kept.IsLive q) (live xs) → (b : Bool) → is_live x.state ≡ b → AllByRecursion (kept.IsLive q) (live (x ∷ xs))
    by_state rest true e = subst (AllByRecursion (kept.IsLive q)) (sym (cond-true (is_live x.state) (x ∷ live xs) (live xs) e)) (record { there = all.0; live = not_deleted x.state e }, rest)
    by_state rest false e = subst (AllByRecursion (kept.IsLive q)) (sym (cond-false (is_live x.state) (x ∷ live xs) (live xs) e)) rest

  pub rests_live : (n : ℕ) → AllByRecursion (kept.IsLive q) (rests n q)
  rests_live zero = tt
  rests_live (suc l) = all_append (kept.IsLive q) (live (rows_of q l)) (rests l q)
      (live_there (rows_of q l) (all_to (λ x. (row_at q x.number ≡ Some x) × (x.slip.list ≡ l)) (λ y. row_at q y.number ≡ Some y) (rows_of q l) (λ y e. e.0) (here l)))
      (rests_live l)

  mem_found : (p : Row → Bool) (xs : List Row) (x : Row) → find p xs ≡ Some x → Mem x xs
  mem_found p [] x e = absurd (cc)
  mem_found p (y ∷ ys) x e = by_test (λ t. mem_found p ys x t) (p y) refl where
    by_test : (find p ys ≡ Some x → Mem x ys) → (b : Bool) → p y ≡ b → Mem x (y ∷ ys)
    by_test rest true hit = let same : Some y ≡ Some x = sym (cond-true (p y) (Some y) (find p ys) hit) ∙ e in let is : y ≡ x = cc in subst (λ (z : Row). Mem z (y ∷ ys)) is mem-cons_self
    by_test rest false miss = mem-cons_of_mem y (rest (sym (cond-false (p y) (Some y) (find p ys) miss) ∙ e))

  mem_rests : (n : ℕ) (x : Row) → x.slip.list < n → Mem x (live (rows_of q x.slip.list)) → Mem x (rests n q)
  mem_rests zero x low m = absurd (omega (arith, low))
  mem_rests (suc l) x low m = ⊎_elim
      (λ (same : x.slip.list ≡ l). mem-append_left (rests l q) (subst (λ (k : ℕ). Mem x (live (rows_of q k))) same m))
      (λ (other : x.slip.list ≢ l). mem-append_right (live (rows_of q l)) (mem_rests l x (omega (arith, low, other)) m))
      (cases_eq x.slip.list l)

  pub rests_whole : (n : ℕ) → ((x : Row) → row_at q x.number ≡ Some x → x.slip.list < n) → (x : Row) → kept.IsLive q x → Mem x (rests n q)
  rests_whole n low x t =
      let in_list : find (is_row x.number) (rows_of q x.slip.list) ≡ Some x = find-filter (is_row x.number) (is_of_list x.slip.list) q.rows x t.there (eq-eqb x.slip.list x.slip.list refl) in
      let alive : find (is_row x.number) (live (rows_of q x.slip.list)) ≡ Some x = find-filter (is_row x.number) (λ (y : Row). is_live y.state) (rows_of q x.slip.list) x in_list (is_there x.state t.live) in
      mem_rests n x (low x t.there) (mem_found (is_row x.number) (live (rows_of q x.slip.list)) x alive)

-- Entries

module _ {C : Type 0} (load : C → Load) (q : Queue) where
  are_left : (es : List (RestEntry C)) (xs : List Row) → AreGathered load es xs → kept.AreLeft Listed q (map (kept.left_of load) es) xs
  are_left [] [] all = tt
  are_left [] (x ∷ xs) all = absurd all
  are_left (e ∷ es) [] all = absurd all
  are_left (e ∷ es) (x ∷ xs) all =
      let r : IsRest load e x = all.0 in (
        record {
          slip = λ i. record { id = r.id i; size = r.size i; mask = r.mask i; list = r.list i; key = r.key i };
          state = r.state;
          same = record { id = r.carries.id; size = r.carries.size; count = r.carries.count; content = r.carries.content; origin = r.carries.origin };
          marks = r.outdated;
        },
        are_left es xs all.1,
      )

  -- the entries are all rows that are not deleted, in queue order
  pub remains : (n : ℕ) (es : List (RestEntry C)) → Apart same_number q.rows → ((x : Row) → row_at q x.number ≡ Some x → x.slip.list < n) → AreGathered load es (rests n q) → kept.AreRests Listed q (map (kept.left_of load) es)
  remains n es apart low all = record {
    rows = rests n q;
    left = are_left es (rests n q) all;
    live = rests_live load q apart n;
    whole = rests_whole load q apart n low;
    ordered = rests_ordered load q apart n;
  }

  -- the rows of a linked queue have no keys, and so their entries have none
  keyless : (words : List ℕ) (es : List (RestEntry C)) (xs : List Row) → Drafts words q → AllByRecursion (kept.IsLive q) xs → AreGathered load es xs → AllByRecursion (λ (e : RestEntry C). e.slip.key ≡ None) es
  keyless words [] [] drafted lives all = tt
  keyless words [] (x ∷ xs) drafted lives all = absurd all
  keyless words (e ∷ es) [] drafted lives all = absurd all
  keyless words (e ∷ es) (x ∷ xs) drafted lives all = (all.0.key ∙ (drafted x.number x lives.0.there).key, keyless words es xs drafted lives.1 all.1)

  pub no_keys : (words : List ℕ) (n : ℕ) (es : List (RestEntry C)) → Apart same_number q.rows → Drafts words q → AreGathered load es (rests n q) → AllByRecursion (λ (e : RestEntry C). e.slip.key ≡ None) es
  no_keys words n es apart drafted all = keyless words es (rests n q) drafted (rests_live load q apart n) all
