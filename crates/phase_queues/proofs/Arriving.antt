-- the entries of a held queue, as its rows came and by key
use Rattle.std.proofs.Common.{◌≡◌, ◌≢◌, ◌⊎◌, inl, inr, ℕ, suc, ◌<◌, Bool, true, false, cond, Option, Some, None, List, [], ◌∷◌, ◌++◌, append_assoc, filter, find, length, length-append, Ordering, Less, Equal, Greater, refl, sym, ap, ◌∙◌, subst, ⊎_elim, arith, eq-eqb, eqb-true, ne_eqb}
use Rattle.std.specs.List.{AllByRecursion, position_or_len}
use Rattle.std.specs.Cmp.Lexicographic.{slice_cmp}
use Rattle.std.specs.Ordering.{is_lt, nat_cmp}
use Rattle.std.proofs.lemmas.Bool.{cond-true, cond-false, eqb-false}
use mathlib.Core.List.{Mem, mem-cons_self, mem-cons_of_mem}
use Rattle.queue_model.specs.declared.queues.Queue.{Queue}
use Rattle.queue_model.specs.declared.rows.Row.{Row}
use Rattle.queue_model.specs.declared.rows.RowState.{RowState}
use Rattle.queue_model.specs.declared.rows.RowState.TheVariants.{Available, Locked, Unlocked, Dequeued, Deleted}
use Rattle.queue_model.specs.Keyed.{Apart}
use Rattle.queue_model.specs.Order.{ByArrival, ByKey, KeyBefore, Precedes, arrival}
use Rattle.queue_model.specs.Sound.{same_number}
use Rattle.queue_model.specs.State.{is_row, row_at}
use Rattle.queue_model.proofs.KeyedLemmas.{all-filter, all-find, all-weaker, find-filter, find_passes, find_none-head, find_none-tail, position-here, position-past}
use Rattle.queue_model.proofs.Orders.{key_cases, precedes_trans}
use Rattle.acts_core.specs.Moments.{IsRow}
use Rattle.acts_core.specs.Rest.{InOrder, IsLive}
use Rattle.acts_core.specs.Sight.{Kind, Sorted, LastValue, order_of}
use Rattle.entry_table.proofs.Closing.{all_found}
use Rattle.account_core.specs.Carry.{by_key, entries_of, is_before, stays, with_row}
use Rattle.account_core.proofs.EntryCounts.{all_keyed, all_with, staying}

-- Rows as they came

-- what nothing of a list passes one in its midst doesn't pass
none_mid : (p : Row → Bool) (zs ys : List Row) (x : Row) → find p (zs ++ x ∷ ys) ≡ None → p x ≡ false
none_mid p [] ys x e = find_none-head p x ys e
none_mid p (z ∷ zs) ys x e = none_mid p zs ys x (find_none-tail p z (zs ++ x ∷ ys) e)

position_mid : (front : List Row) (x : Row) (ys : List Row) → Apart same_number (front ++ x ∷ ys) → position_or_len (is_row x.number) (front ++ x ∷ ys) ≡ length front
position_mid [] x ys apart = position-here (is_row x.number) x ys (eq-eqb x.number x.number refl)
position_mid (z ∷ zs) x ys apart =
    let off : x.number ≢ z.number = eqb-false x.number z.number (none_mid (same_number z) zs ys x apart.0) in
    let rest = position_mid zs x ys apart.1 in
    let past = position-past (is_row x.number) z (zs ++ x ∷ ys) (ne_eqb z.number x.number (λ e. off (sym e))) in
    omega (arith, past, rest)

-- a row that is found in a list is one of it
pub mem_found : (p : Row → Bool) (xs : List Row) (x : Row) → find p xs ≡ Some x → Mem x xs
mem_found p [] x e = absurd (cc)
mem_found p (y ∷ ys) x e = by_test (λ t. mem_found p ys x t) (p y) refl where
  by_test : (find p ys ≡ Some x → Mem x ys) → (b : Bool) → p y ≡ b → Mem x (y ∷ ys)
  by_test rest true hit = let same : Some y ≡ Some x = sym (cond-true (p y) (Some y) (find p ys) hit) ∙ e in let is : y ≡ x = cc in subst (λ (z : Row). Mem z (y ∷ ys)) is mem-cons_self
  by_test rest false miss = mem-cons_of_mem y (rest (sym (cond-false (p y) (Some y) (find p ys) miss) ∙ e))

stays_not : (s : RowState) → stays s ≡ true → s ≢ Deleted
stays_not s e gone = let bad : true ≡ false = sym e ∙ ap stays gone in absurd (cc)

not_stays : (s : RowState) → s ≢ Deleted → stays s ≡ true
not_stays Available ne = refl
not_stays (Locked h) ne = refl
not_stays (Unlocked h) ne = refl
not_stays Dequeued ne = refl
not_stays Deleted ne = absurd (ne refl)

module _ (q : Queue) where
  -- the rows that came at place n and later, in their order
  abbrev Rising : ℕ → List Row → Type 0
  Rising n [] = Unit {0}
  Rising n (x ∷ xs) = (arrival q x ≡ n) × Rising (suc n) xs

  rising : (front xs : List Row) → Apart same_number q.rows → q.rows ≡ front ++ xs → Rising (length front) xs
  rising front [] apart whole = tt
  rising front (x ∷ xs) apart whole =
      let place : arrival q x ≡ length front = ap (position_or_len (is_row x.number)) whole ∙ position_mid front x xs (subst (Apart same_number) whole apart) in
      let long : length (front ++ x ∷ []) ≡ suc (length front) = let e = length-append front (x ∷ []) in omega (arith, e) in
      (place, subst (λ (n : ℕ). Rising n xs) long (rising (front ++ x ∷ []) xs apart (whole ∙ sym (append_assoc front (x ∷ []) xs))))

  later_rising : (n : ℕ) (x : Row) (xs : List Row) → arrival q x < n → Rising n xs → AllByRecursion (λ y. Precedes ByArrival q x y) xs
  later_rising n x [] low r = tt
  later_rising n x (y ∷ ys) low r = let at = r.0 in (omega (arith, low, at), later_rising (suc n) x ys (omega (arith, low)) r.1)

  risen : (n : ℕ) (xs : List Row) → Rising n xs → InOrder LastValue q xs
  risen n [] r = tt
  risen n (x ∷ xs) r = let at = r.0 in (later_rising (suc n) x xs (omega (arith, at)) r.1, risen (suc n) xs r.1)

  -- fewer rows stay in order
  pub order_filter : (kind : Kind) (t : Row → Bool) (xs : List Row) → InOrder kind q xs → InOrder kind q (filter t xs)
  order_filter kind t [] order = tt
  order_filter kind t (x ∷ xs) order = by_test (t x) (order_filter kind t xs order.1) where
    by_test : (b : Bool) → InOrder kind q (filter t xs) → InOrder kind q (cond b (x ∷ filter t xs) (filter t xs))
    by_test true rest = (all-filter (λ y. Precedes (order_of kind) q x y) t xs order.0, rest)
    by_test false rest = rest

  live_staying : (xs : List Row) → AllByRecursion (λ x. IsRow q x × (stays x.state ≡ true)) xs → AllByRecursion (IsLive q) xs
  live_staying xs all = all-weaker (λ x. IsRow q x × (stays x.state ≡ true)) (IsLive q) xs (λ x t. record { there = t.0; live = stays_not x.state t.1 }) all

  pub stay_live : Apart same_number q.rows → AllByRecursion (IsLive q) (entries_of LastValue q)
  stay_live apart = live_staying (entries_of LastValue q) (staying (IsRow q) q.rows (all_found {C = ℕ} (λ n. record { id = 0; size = 0; count = 0; content = []; origin = [] }) q.rows q.rows apart (λ x e. e) apart))

  stay_found : (x : Row) → IsLive q x → find (is_row x.number) (entries_of LastValue q) ≡ Some x
  stay_found x t = find-filter (is_row x.number) (λ (y : Row). stays y.state) q.rows x t.there (not_stays x.state t.live)

  pub stay_whole : (x : Row) → IsLive q x → Mem x (entries_of LastValue q)
  stay_whole x t = mem_found (is_row x.number) (entries_of LastValue q) x (stay_found x t)

  pub stay_order : Apart same_number q.rows → InOrder LastValue q (entries_of LastValue q)
  stay_order apart = order_filter LastValue (λ x. stays x.state) q.rows (risen 0 q.rows (rising [] q.rows apart refl))

  -- Rows by key

  lt_less : (o : Ordering) → is_lt o ≡ true → o ≡ Less
  lt_less Less e = refl
  lt_less Equal e = absurd (cc)
  lt_less Greater e = absurd (cc)

  is_key_before : (j k : Option (List ℕ)) → is_before j k ≡ true → KeyBefore j k
  is_key_before (Some a) (Some b) e = lt_less (slice_cmp nat_cmp a b) e
  is_key_before (Some a) None e = tt
  is_key_before None (Some b) e = absurd (cc)
  is_key_before None None e = absurd (cc)

  key_before_is : (j k : Option (List ℕ)) → KeyBefore j k → is_before j k ≡ true
  key_before_is (Some a) (Some b) e = ap is_lt e
  key_before_is (Some a) None e = refl
  key_before_is None k e = absurd e

  -- a key that is not before another is that one or behind it
  not_before : (j k : Option (List ℕ)) → is_before j k ≡ false → (k ≡ j) ⊎ KeyBefore k j
  not_before j k off = ⊎_elim
      (λ (same : j ≡ k). inl (sym same))
      (λ (s : KeyBefore j k ⊎ KeyBefore k j). ⊎_elim
      (λ (first : KeyBefore j k). let bad : false ≡ true = sym off ∙ key_before_is j k first in absurd (cc))
      (λ (second : KeyBefore k j). inr second)
      s)
      (key_cases j k)

  first_of : (x y : Row) → is_before y.slip.key x.slip.key ≡ false → arrival q x < arrival q y → Precedes ByKey q x y
  first_of x y off came = ⊎_elim
      (λ (same : x.slip.key ≡ y.slip.key). inr (same, came))
      (λ (first : KeyBefore x.slip.key y.slip.key). inl first)
      (not_before y.slip.key x.slip.key off)

  order_with : (x : Row) (ys : List Row) → AllByRecursion (λ y. arrival q x < arrival q y) ys → InOrder Sorted q ys → InOrder Sorted q (with_row x ys)
  order_with x [] came order = (tt, tt)
  order_with x (y ∷ ys) came order = by_test (is_before y.slip.key x.slip.key) refl (order_with x ys came.1 order.1) where
    by_test : (b : Bool) → is_before y.slip.key x.slip.key ≡ b → InOrder Sorted q (with_row x ys) → InOrder Sorted q (cond b (y ∷ with_row x ys) (x ∷ y ∷ ys))
    by_test true e rest = (all_with (λ z. Precedes ByKey q y z) x ys (inl (is_key_before y.slip.key x.slip.key e)) order.0, rest)
    by_test false e rest =
        let first : Precedes ByKey q x y = first_of x y e came.0 in
        ((first, all-weaker (λ z. Precedes ByKey q y z) (λ z. Precedes ByKey q x z) ys (λ z p. precedes_trans ByKey q x y z first p) order.0), order)

  order_keyed : (xs : List Row) → InOrder LastValue q xs → InOrder Sorted q (by_key xs)
  order_keyed [] order = tt
  order_keyed (x ∷ xs) order = order_with x (by_key xs) (all_keyed (λ y. arrival q x < arrival q y) xs order.0) (order_keyed xs order.1)

  -- what holds of each row by key holds of each
  un_with : (P : Row → Type 0) (x : Row) (ys : List Row) → AllByRecursion P (with_row x ys) → P x × AllByRecursion P ys
  un_with P x [] all = all
  un_with P x (y ∷ ys) all = by_test (is_before y.slip.key x.slip.key) (un_with P x ys) all where
    by_test : (b : Bool) → (AllByRecursion P (with_row x ys) → P x × AllByRecursion P ys) → AllByRecursion P (cond b (y ∷ with_row x ys) (x ∷ y ∷ ys)) → P x × AllByRecursion P (y ∷ ys)
    by_test true rest each = let t = rest each.1 in (t.0, (each.0, t.1))
    by_test false rest each = each

  un_keyed : (P : Row → Type 0) (xs : List Row) → AllByRecursion P (by_key xs) → AllByRecursion P xs
  un_keyed P [] all = tt
  un_keyed P (x ∷ xs) all = let t = un_with P x (by_key xs) all in (t.0, un_keyed P xs t.1)

  none_all : (p : Row → Bool) (xs : List Row) → find p xs ≡ None → AllByRecursion (λ y. p y ≡ false) xs
  none_all p [] none = tt
  none_all p (y ∷ ys) none = (find_none-head p y ys none, none_all p ys (find_none-tail p y ys none))

  all_none : (p : Row → Bool) (xs : List Row) (x : Row) → AllByRecursion (λ y. p y ≡ false) xs → find p xs ≡ Some x → ⊥
  all_none p xs x all e =
      let off : p x ≡ false = all-find (λ y. p y ≡ false) p xs x all e in
      let on : p x ≡ true = find_passes p xs x e in
      let bad : true ≡ false = sym on ∙ off in absurd (cc)

  -- a row that is found among some is found among them by key
  found_keyed : (xs : List Row) (x : Row) → AllByRecursion (IsRow q) xs → IsRow q x → find (is_row x.number) xs ≡ Some x → find (is_row x.number) (by_key xs) ≡ Some x
  found_keyed xs x all here e = by_find (find (is_row x.number) (by_key xs)) refl where
    by_find : (o : Option Row) → find (is_row x.number) (by_key xs) ≡ o → find (is_row x.number) (by_key xs) ≡ Some x
    by_find None none = absurd (all_none (is_row x.number) xs x (un_keyed (λ y. is_row x.number y ≡ false) xs (none_all (is_row x.number) (by_key xs) none)) e)
    by_find (Some y) some =
        let number : y.number ≡ x.number = eqb-true y.number x.number (find_passes (is_row x.number) (by_key xs) y some) in
        let there : IsRow q y = all-find (IsRow q) (is_row x.number) (by_key xs) y (all_keyed (IsRow q) xs all) some in
        let same : Some y ≡ Some x = sym there ∙ ap (row_at q) number ∙ here in
        some ∙ same

  pub keyed_live : Apart same_number q.rows → AllByRecursion (IsLive q) (entries_of Sorted q)
  keyed_live apart = all_keyed (IsLive q) (entries_of LastValue q) (stay_live apart)

  pub keyed_whole : Apart same_number q.rows → (x : Row) → IsLive q x → Mem x (entries_of Sorted q)
  keyed_whole apart x t =
      let xs = entries_of LastValue q in
      let rows = all-weaker (IsLive q) (IsRow q) xs (λ y l. l.there) (stay_live apart) in
      mem_found (is_row x.number) (entries_of Sorted q) x (found_keyed xs x rows t.there (stay_found x t))

  pub keyed_order : Apart same_number q.rows → InOrder Sorted q (entries_of Sorted q)
  keyed_order apart = order_keyed (entries_of LastValue q) (stay_order apart)
