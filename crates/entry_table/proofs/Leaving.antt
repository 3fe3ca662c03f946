-- the cargoes of a table that is closed all wait for their rows
use Rattle.std.proofs.Common.{◌≡◌, ℕ, zero, suc, ◌<◌, ◌≤◌, Bool, true, false, List, [], ◌∷◌, ◌++◌, length, filter, find, Option, Some, None, refl, sym, ap, ◌∙◌, subst, ⊎_elim, arith, eqb-true, ne_eqb, append-nil}
use Rattle.std.specs.List.{AllByRecursion}
use Rattle.std.proofs.lemmas.Bool.{cases_Bool, cond-true, cond-false}
use mathlib.Core.Option.{some}
use mathlib.Core.Option as maybe
use lib.ListN.{get_elem?}
use Rattle.queue_model.specs.declared.queues.Queue.{Queue}
use Rattle.queue_model.specs.declared.queues.Reservation.{Reservation}
use Rattle.queue_model.specs.declared.rows.Row.{Row}
use Rattle.queue_model.specs.declared.rows.RowState.{RowState}
use Rattle.queue_model.specs.declared.rows.RowState.TheVariants.{Available, Locked, Unlocked, Dequeued, Deleted}
use Rattle.queue_model.specs.Keyed.{Apart}
use Rattle.acts_core.specs.Load.{Load}
use Rattle.queue_model.specs.Sound.{same_number}
use Rattle.queue_model.specs.State.{row_at, rows_of, is_row, is_of_list}
use Rattle.queue_model.proofs.KeyedLemmas.{find-here, find-past, find_none-head, find_none-tail, find_none-cons, apart-filter, find_none-filter}
use Rattle.link_core.specs.Stands.{Stands}
use Rattle.entry_table.specs.declared.view.Shape.{Shape}
use Rattle.entry_table.specs.Rule.{table_at, Lies, Cargoes}
use Rattle.entry_table.specs.Resting.{is_live, live, rests, Legible, Waits, AllWait, Settled, Rested, AreGathered}
use Rattle.acts_core.specs.declared.cargoes.RestEntry.{RestEntry}
use Rattle.entry_table.proofs.Closing.{less_at, all_found, of_list}
use Rattle.link_core.proofs.Fewer.{few}
use Rattle.entry_table.proofs.Counting.{few_rows}
use Rattle.std.specs.Prelude.{slice_index}
use Rattle.atomic_table.specs.Table.{Final, Seen}
use Rattle.queue_model.specs.declared.deeds.Deed.{Deed}
use Rattle.queue_model.specs.History.{own}
use Rattle.queue_model.proofs.Histories.{own-append}
use Rattle.entry_table.specs.declared.view.View.{View}
use Rattle.entry_table.specs.Views.{Has, state_in}
use Rattle.entry_table.specs.Rule.{Ruled}
use Rattle.entry_table.proofs.Keeping.{opened}
use Rattle.entry_table.proofs.Opening.{closes}

find_none_append : (p : Row → Bool) (xs ys : List Row) → find p xs ≡ None → find p ys ≡ None → find p (xs ++ ys) ≡ None
find_none_append p [] ys a b = b
find_none_append p (x ∷ xs) ys a b = find_none-cons p x (xs ++ ys) (find_none-head p x xs a) (find_none_append p xs ys (find_none-tail p x xs a) b)

-- a row that fails a test is not among those that pass it
filter_out : (r : ℕ) (t : Row → Bool) (xs : List Row) (y : Row) → Apart same_number xs → find (is_row r) xs ≡ Some y → t y ≡ false → find (is_row r) (filter t xs) ≡ None
filter_out r t [] y apart e fails = refl
filter_out r t (x ∷ xs) y apart e fails = ⊎_elim
    (λ (hit : is_row r x ≡ true).
    let same : Some x ≡ Some y = sym (find-here (is_row r) x xs hit) ∙ e in let xy : x ≡ y = cc in
    let none : find (is_row r) xs ≡ None = subst (λ (k : ℕ). find (is_row k) xs ≡ None) (eqb-true x.number r hit) apart.0 in
    ap (find (is_row r)) (cond-false (t x) (x ∷ filter t xs) (filter t xs) (ap t xy ∙ fails)) ∙ find_none-filter (is_row r) t xs none)
    (λ (miss : is_row r x ≡ false).
    let rest = filter_out r t xs y apart.1 (sym (find-past (is_row r) x xs miss) ∙ e) fails in ⊎_elim
    (λ (kept : t x ≡ true). ap (find (is_row r)) (cond-true (t x) (x ∷ filter t xs) (filter t xs) kept) ∙ find_none-cons (is_row r) x (filter t xs) miss rest)
    (λ (gone : t x ≡ false). ap (find (is_row r)) (cond-false (t x) (x ∷ filter t xs) (filter t xs) gone) ∙ rest)
    (cases_Bool (t x)))
    (cases_Bool (is_row r x))

-- a row of list n or later is not among those of lists below n
none_below : (q : Queue) (n r : ℕ) → Apart same_number q.rows → ((x : Row) → row_at q r ≡ Some x → n ≤ x.slip.list) → find (is_row r) (rests n q) ≡ None
none_below q zero r apart later = refl
none_below q (suc l) r apart later = find_none_append (is_row r) (live (rows_of q l)) (rests l q)
    (find_none-filter (is_row r) (λ x. is_live x.state) (rows_of q l) (out (row_at q r) refl))
    (none_below q l r apart (λ x e. let h = later x e in omega (arith, h)))
  where
    out : (o : Option Row) → row_at q r ≡ o → find (is_row r) (rows_of q l) ≡ None
    out None e = find_none-filter (is_row r) (is_of_list l) q.rows e
    out (Some y) e = filter_out r (is_of_list l) q.rows y apart e (let h = later y e in ne_eqb y.slip.list l (λ z. omega (arith, h, z)))

pub all_live : (P : Row → Type 0) (xs : List Row) → AllByRecursion P xs → AllByRecursion P (live xs)
all_live P [] all = tt
all_live P (x ∷ xs) all = ⊎_elim
    (λ (hit : is_live x.state ≡ true). subst (AllByRecursion P) (sym (cond-true (is_live x.state) (x ∷ live xs) (live xs) hit)) (all.0, all_live P xs all.1))
    (λ (miss : is_live x.state ≡ false). subst (AllByRecursion P) (sym (cond-false (is_live x.state) (x ∷ live xs) (live xs) miss)) (all_live P xs all.1))
    (cases_Bool (is_live x.state))

pub all_to : (P Q : Row → Type 0) (xs : List Row) → ((x : Row) → P x → Q x) → AllByRecursion P xs → AllByRecursion Q xs
all_to P Q [] f all = tt
all_to P Q (x ∷ xs) f all = (f x all.0, all_to P Q xs f all.1)

module _ {C : Type 0} (load : C → Load) where
  apart_of : (ps : List (Option C)) (xs : List Row) → AllWait load ps xs → Apart same_number xs
  apart_of ps [] w = tt
  apart_of ps (x ∷ xs) w = (w.1, apart_of ps xs w.2)

  low_of : (ps : List (Option C)) (xs : List Row) → AllWait load ps xs → AllByRecursion (λ x. x.number < length ps) xs
  low_of ps [] w = tt
  low_of ps (x ∷ xs) w = (less_at ps x.number (Some w.0.0) w.0.1, low_of ps xs w.2)

  -- rows that all wait are no more than the places
  pub rests_fit : (ps : List (Option C)) (xs : List Row) → AllWait load ps xs → length xs ≤ length ps
  rests_fit ps xs w = few (length ps) xs (apart_of ps xs w) (low_of ps xs w)

  wait_append : (ps : List (Option C)) (xs ys : List Row) → AllWait load ps xs → AllWait load ps ys → AllByRecursion (λ x. find (same_number x) ys ≡ None) xs → AllWait load ps (xs ++ ys)
  wait_append ps [] ys a b none = b
  wait_append ps (x ∷ xs) ys a b none = (a.0, find_none_append (same_number x) xs ys a.1 none.0, wait_append ps xs ys a.2 b none.1)

  module _ (homes : List (maybe.Option (Option C))) (ps : List (Option C)) (q : Queue) (same : (k : ℕ) (y : Option C) → get_elem? homes k ≡ some (some y) → get_elem? ps k ≡ some y) (cargoes : Cargoes load homes q) (settled : Settled q) where
    waits_in : (x : Row) (s : RowState) → row_at q x.number ≡ Some x → x.state ≡ s → is_live s ≡ true → Lies load homes x.number x s → Waits load ps x
    waits_in x Available e is lives lies = (lies.0, same x.number (Some lies.0) lies.1, lies.2)
    waits_in x (Unlocked h) e is lives lies = (lies.0, same x.number (Some lies.0) lies.1, lies.2)
    waits_in x (Locked h) e is lives lies = absurd ((settled x.number x e).1 h is)
    waits_in x Dequeued e is lives lies = absurd ((settled x.number x e).0 is)
    waits_in x Deleted e is lives lies = absurd (cc)

    list_waits : (l : ℕ) (xs : List Row) → Apart same_number xs → AllByRecursion (λ x. (row_at q x.number ≡ Some x) × (x.slip.list ≡ l)) xs → AllWait load ps (live xs)
    list_waits l [] apart all = tt
    list_waits l (x ∷ xs) apart all = ⊎_elim
        (λ (hit : is_live x.state ≡ true). subst (AllWait load ps) (sym (cond-true (is_live x.state) (x ∷ live xs) (live xs) hit))
        (waits_in x x.state all.0.0 refl hit (cargoes.rows x.number x all.0.0), find_none-filter (same_number x) (λ z. is_live z.state) xs apart.0, list_waits l xs apart.1 all.1))
        (λ (miss : is_live x.state ≡ false). subst (AllWait load ps) (sym (cond-false (is_live x.state) (x ∷ live xs) (live xs) miss)) (list_waits l xs apart.1 all.1))
        (cases_Bool (is_live x.state))

    -- the cargoes of all rows that are left wait
    pub rests_wait : (n : ℕ) → Apart same_number q.rows → AllWait load ps (rests n q)
    rests_wait zero apart = tt
    rests_wait (suc l) apart =
        let mine = of_list load q l q.rows (all_found load q.rows q.rows apart (λ x e. e) apart) in
        wait_append ps (live (rows_of q l)) (rests l q) (list_waits l (rows_of q l) (apart-filter same_number (is_of_list l) q.rows apart) mine) (rests_wait l apart)
        (all_live (λ x. find (same_number x) (rests l q) ≡ None) (rows_of q l) (all_to (λ x. (row_at q x.number ≡ Some x) × (x.slip.list ≡ l)) (λ x. find (same_number x) (rests l q) ≡ None) (rows_of q l)
        (λ x p. none_below q l x.number apart (λ y e. let t : Some x ≡ Some y = sym p.0 ∙ e in let xy : x ≡ y = cc in let z : l ≡ y.slip.list = sym p.1 ∙ ap (λ (k : Row). k.slip.list) xy in omega (arith, z))) mine))

  -- what the words of a closed table are
  pub legible : (shape : Shape) (words : List ℕ) (drawer : ℕ → Option ℕ) (reserved : ℕ → Reservation) (homes : List (maybe.Option (Option C))) (q : Queue) → Stands (table_at shape words drawer reserved) q → Cargoes load homes q → Legible words shape.rows q
  legible shape words drawer reserved homes q s cargoes =
      let below : (r : ℕ) (x : Row) → row_at q r ≡ Some x → r < shape.rows = λ r x e. let low = s.draws.below r x e in let tops = s.draws.top in omega (arith, low, tops) in
      record {
        apart = s.sound.rows_apart;
        states = s.states;
        drafted = s.drafted;
        links = subst (λ (n : ℕ). Rattle.link_core.specs.Stands.Links shape.rows n words q) s.shaped.lists s.links;
        below = below;
        few = few_rows shape q (record { sound = s.sound; lists = sym s.shaped.lists; consumers = sym s.shaped.consumers; low = below });
      }

module _ {C : Type 0} (load : C → Load) (shape : Shape) where
  -- what a table leaves for the boss that has joined all passes
  pub leaves : (id : ℕ) (v : View) (ended words : List ℕ) (slots ps : List (Option C)) → v.callers ≡ 0 ∷ ended → ((k : ℕ) → k < v.made → Has k v.callers) → Settled (state_in v) → Final (Seen (Ruled load shape) id v) words slots
      → ((k : ℕ) (y : Option C) → get_elem? slots k ≡ some y → get_elem? ps k ≡ some y) → Legible words shape.rows (state_in v) × AllWait load ps (rests (state_in v).lists (state_in v))
  leaves id v ended words slots ps is every settled f moved =
      let x = closes load shape id v ended words slots is every f in
      let q : Queue = state_in v in
      let l = legible load shape words x.0 x.1 x.2 q x.3 x.4 in
      (l, rests_wait load x.2 ps q (λ k y e. moved k y (x.5 k y e)) x.4 settled q.lists l.apart)

  -- no deed is of a caller that was not made
  pub callers_made : (id : ℕ) (v : View) (ended words : List ℕ) (slots : List (Option C)) → v.callers ≡ 0 ∷ ended → Final (Seen (Ruled load shape) id v) words slots → (k : ℕ) → v.made ≤ k → own k v.seen ≡ []
  callers_made id v ended words slots is f k high =
      let s = f.0 in
      let at : get_elem? s.views id ≡ some v = f.1.1 in
      let r = opened load shape s id v 0 ended is at f.1.0 in
      let known = r.knows id v at in
      let made : v.made ≡ slice_index s.words 1 = r.counted id v at ended is in
      none_front (own k v.seen) (own k known.prefix.0) (sym (own-append k v.seen known.prefix.0) ∙ ap (own k) known.prefix.1 ∙ r.later k (omega (arith, made, high)))
    where
      none_front : (xs ys : List Deed) → xs ++ ys ≡ [] → xs ≡ []
      none_front [] ys e = refl
      none_front (x ∷ xs) ys e = absurd (cc)

pub none_long : {A : Type 0} (xs : List A) → length xs ≡ 0 → xs ≡ []
none_long {A = A} [] e = refl
none_long {A = A} (x ∷ xs) e = absurd (omega (arith, e))

module _ {C : Type 0} (load : C → Load) where
  pub starts : (q : Queue) (l : ℕ) (es : List (RestEntry C)) (ps : List (Option C)) → es ≡ [] → l ≡ q.lists → AllWait load ps (rests q.lists q) → Rested load q l es ps
  starts q l es ps none all wait = subst (λ (z : ℕ × List (RestEntry C)). Rested load q z.0 z.1 ps) (λ i. (sym all i, sym none i)) (record { front = []; whole = refl; done = tt; wait = wait })

  pub finishes : (q : Queue) (es : List (RestEntry C)) (ps : List (Option C)) → Rested load q 0 es ps → AreGathered load es (rests q.lists q)
  finishes q es ps r = subst (AreGathered load es) (sym (r.whole ∙ append-nil r.front)) r.done
