-- the walk through the rows of a closed table
use Rattle.std.proofs.Common.{◌≡◌, ◌≢◌, ℕ, zero, suc, ◌-◌, ◌<◌, ◌≤◌, Bool, true, false, List, [], ◌∷◌, ◌++◌, length, set, get_or, filter, find, Option, Some, None, refl, sym, ap, ◌∙◌, subst, ⊎_elim, arith, eq-eqb, eqb-true, append_assoc, length-append}
use Rattle.std.specs.Prelude.{slice_index}
use Rattle.std.specs.List.{AllByRecursion}
use Rattle.std.proofs.lemmas.Bool.{cases_Bool, cond-true, cond-false, eqb-false}
use mathlib.Core.Option.{some}
use lib.ListN.{get_elem?}
use Rattle.atomic_table.proofs.Lists as lists
use Rattle.queue_model.specs.declared.queues.Queue.{Queue}
use Rattle.queue_model.specs.declared.rows.Row.{Row}
use Rattle.queue_model.specs.declared.rows.RowState.{RowState}
use Rattle.queue_model.specs.declared.rows.RowState.TheVariants.{Available, Locked, Unlocked, Dequeued, Deleted}
use Rattle.queue_model.specs.Keyed.{Apart}
use Rattle.acts_core.specs.Load.{Load}
use Rattle.queue_model.specs.Sound.{same_number}
use Rattle.queue_model.specs.State.{row_at, rows_of, is_row, is_of_list}
use Rattle.queue_model.proofs.KeyedLemmas.{find-here, find-past, find_none-head, find_none-tail}
use Rattle.link_core.specs.Layout.{row_link_of, state_of, head_of}
use Rattle.queue_model.specs.Packing.{pack_state}
use Rattle.link_core.specs.Stands.{Chain, Points}
use Rattle.entry_table.specs.Resting.{is_live, live, rests, Legible, IsRest, AreGathered, Waits, AllWait, Rested, Walking}
use Rattle.acts_core.specs.declared.cargoes.RestEntry.{RestEntry}

-- Words and slots that are read

pub read : (l : List ℕ) (i j n : ℕ) → i ≡ j → get_elem? l i ≡ some n → slice_index l j ≡ n
read l i j n e found = ap (slice_index l) (sym e) ∙ read_at l i n found
  where
    read_at : (l : List ℕ) (i n : ℕ) → get_elem? l i ≡ some n → slice_index l i ≡ n
    read_at [] i n e = absurd (cc)
    read_at (x ∷ l) zero n e = let t : x ≡ n = cc in t
    read_at (x ∷ l) (suc i) n e = read_at l i n e

-- the same, of words that are equal
pub read_in : (ws vs : List ℕ) (i j n : ℕ) → vs ≡ ws → i ≡ j → get_elem? vs i ≡ some n → slice_index ws j ≡ n
read_in ws vs i j n same e found = read ws i j n e (ap (λ (l : List ℕ). get_elem? l i) (sym same) ∙ found)

pub at_or : {A : Type 0} (l : List A) (i : ℕ) (a d : A) → get_elem? l i ≡ some a → get_or l i d ≡ a
at_or {A = A} [] i a d e = absurd (cc)
at_or {A = A} (x ∷ l) zero a d e = let t : x ≡ a = cc in t
at_or {A = A} (x ∷ l) (suc i) a d e = at_or l i a d e

pub less_at : {A : Type 0} (l : List A) (i : ℕ) (a : A) → get_elem? l i ≡ some a → i < length l
less_at {A = A} [] i a e = absurd (cc)
less_at {A = A} (x ∷ l) zero a e = omega arith
less_at {A = A} (x ∷ l) (suc i) a e = let r = less_at l i a e in omega (arith, r)

-- a place of a list of flags is cleared
pub unset_here : (l : List Bool) (i k : ℕ) → k ≡ i → get_or (set l i false) k false ≡ false
unset_here [] i k e = refl
unset_here (x ∷ l) zero zero e = refl
unset_here (x ∷ l) zero (suc k) e = absurd (omega (arith, e))
unset_here (x ∷ l) (suc i) zero e = absurd (omega (arith, e))
unset_here (x ∷ l) (suc i) (suc k) e = unset_here l i k (omega (arith, e))

pub unset_else : (l : List Bool) (i k : ℕ) → k ≢ i → get_or (set l i false) k false ≡ get_or l k false
unset_else [] i k ne = refl
unset_else (x ∷ l) zero zero ne = absurd (ne refl)
unset_else (x ∷ l) zero (suc k) ne = refl
unset_else (x ∷ l) (suc i) zero ne = refl
unset_else (x ∷ l) (suc i) (suc k) ne = unset_else l i k (λ e. ne (omega (arith, e)))

-- the words of rows that are and aren't deleted
pub live_word : (s : RowState) (n : ℕ) → n ≡ pack_state s → n ≢ 3 → is_live s ≡ true
live_word Available n e ne = refl
live_word (Locked h) n e ne = refl
live_word (Unlocked h) n e ne = refl
live_word Dequeued n e ne = refl
live_word Deleted n e ne = absurd (ne e)

pub gone_word : (s : RowState) (n : ℕ) → n ≡ pack_state s → n ≡ 3 → s ≡ Deleted
gone_word Available n e is = absurd (omega (arith, e, is))
gone_word (Locked h) n e is = absurd (omega (arith, e, is))
gone_word (Unlocked h) n e is = absurd (omega (arith, e, is))
gone_word Dequeued n e is = absurd (omega (arith, e, is))
gone_word Deleted n e is = refl

-- what is found at one place is one
pub same_parcel : {C : Type 0} (parcels : List (Option C)) (i j : ℕ) (c d : C) → i ≡ j → get_elem? parcels i ≡ some (Some c) → get_elem? parcels j ≡ some (Some d) → c ≡ d
same_parcel parcels i j c d e a b = let x : some (Some c) ≡ some (Some d) = sym a ∙ ap (get_elem? parcels) e ∙ b in cc

-- Chains

-- A link that is not empty names the first row behind which all stand as before; those that it skips are deleted.
pub record Jump (words : List ℕ) (w : ℕ) (P : Row → Type 0) (xs : List Row) : Type 0 where
  pub x : Row
  pub rest : List Row
  pub names : w ≡ suc x.number
  pub same : live xs ≡ live (x ∷ rest)
  pub chain : Chain words (slice_index words (row_link_of x.number)) rest
  pub here : P x × AllByRecursion P rest
  pub few : length rest < length xs

live_gone : (x : Row) (xs : List Row) → x.state ≡ Deleted → live (x ∷ xs) ≡ live xs
live_gone x xs e = cond-false (is_live x.state) (x ∷ live xs) (live xs) (ap is_live e)

live_stays : (x : Row) (xs : List Row) → is_live x.state ≡ true → live (x ∷ xs) ≡ x ∷ live xs
live_stays x xs e = cond-true (is_live x.state) (x ∷ live xs) (live xs) e

rechained : (words : List ℕ) (w w' : ℕ) (xs : List Row) → Points w xs → Chain words w' xs → Chain words w xs
rechained words w w' [] p c = p
rechained words w w' (x ∷ xs) p c = (p, c.1)

pub jump : (words : List ℕ) (w : ℕ) (P : Row → Type 0) (xs : List Row) → w ≢ 0 → AllByRecursion P xs → Chain words w xs → Jump words w P xs
jump words w P [] ne all c = absurd (ne c)
jump words w P (x ∷ xs) ne all c = ⊎_elim
    (λ (e : w ≡ suc x.number). record { x = x; rest = xs; names = e; same = refl; chain = c.1; here = all; few = omega arith })
    (λ (t : (x.state ≡ Deleted) × (w ≢ 0) × Points w xs).
    let j = jump words w P xs ne all.1 (rechained words w (slice_index words (row_link_of x.number)) xs t.2 c.1) in
    let few = j.few in record { x = j.x; rest = j.rest; names = j.names; same = live_gone x xs t.0 ∙ j.same; chain = j.chain; here = j.here; few = omega (arith, few) })
    c.0

-- an empty link ends a chain
pub chain_ends : (words : List ℕ) (xs : List Row) → Chain words 0 xs → xs ≡ []
chain_ends words [] c = refl
chain_ends words (x ∷ xs) c = ⊎_elim (λ (e : 0 ≡ suc x.number). absurd (omega (arith, e))) (λ t. absurd (t.1 refl)) c.0

module _ {C : Type 0} (load : C → Load) where
  -- Entries and their rows

  rests_more : (es : List (RestEntry C)) (xs : List Row) (e : RestEntry C) (x : Row) → AreGathered load es xs → IsRest load e x → AreGathered load (es ++ e ∷ []) (xs ++ x ∷ [])
  rests_more [] [] e x all is = (is, tt)
  rests_more [] (y ∷ xs) e x all is = absurd all
  rests_more (d ∷ es) [] e x all is = absurd all
  rests_more (d ∷ es) (y ∷ xs) e x all is = (all.0, rests_more es xs e x all.1 is)

  pub rests_long : (es : List (RestEntry C)) (xs : List Row) → AreGathered load es xs → length es ≡ length xs
  rests_long [] [] all = refl
  rests_long [] (y ∷ xs) all = absurd all
  rests_long (d ∷ es) [] all = absurd all
  rests_long (d ∷ es) (y ∷ xs) all = ap suc (rests_long es xs all.1)

  -- taking the cargo of one row leaves those of rows with other numbers
  waits_else : (parcels : List (Option C)) (x : Row) (xs : List Row) → find (same_number x) xs ≡ None → AllWait load parcels xs → AllWait load (set parcels x.number None) xs
  waits_else parcels x [] none all = tt
  waits_else parcels x (y ∷ xs) none all =
      let off : y.number ≢ x.number = eqb-false y.number x.number (find_none-head (same_number x) y xs none) in
      ((all.0.0, lists.set_else parcels x.number y.number None off ∙ all.0.1, all.0.2), all.1, waits_else parcels x xs (find_none-tail (same_number x) y xs none) all.2)

  -- Steps of the walk

  module _ (words : List ℕ) (rows : ℕ) (q : Queue) (stands : Legible words rows q) (l link left : ℕ) (es : List (RestEntry C)) (parcels : List (Option C)) where
    -- the row that the link names
    pub record Facing : Type 0 where
      pub x : Row
      pub number : link ≡ suc x.number
      pub found : row_at q x.number ≡ Some x
      pub list : x.slip.list ≡ l
      pub low : x.number < rows
      pub word : slice_index words (state_of x.number) ≡ pack_state x.state
      pub some_left : 0 < left
      pub room : is_live x.state ≡ true → length es < length (rests q.lists q)
      pub gone : x.state ≡ Deleted → Walking load words q l (slice_index words (row_link_of x.number)) (left - 1) es parcels
      pub taken : is_live x.state ≡ true → Waits load parcels x × ((e : RestEntry C) → IsRest load e x → Walking load words q l (slice_index words (row_link_of x.number)) (left - 1) (es ++ e ∷ []) (set parcels x.number None))

    pub faces : Walking load words q l link left es parcels → link ≢ 0 → Facing
    faces w ne =
        let j = jump words link (λ x. (row_at q x.number ≡ Some x) × (x.slip.list ≡ l)) w.xs ne w.here w.chain in
        let x : Row = j.x in
        let few = w.few in let fewer = j.few in
        let below = stands.below x.number x j.here.0.0 in
        record {
          x = x;
          number = j.names;
          found = j.here.0.0;
          list = j.here.0.1;
          low = omega (arith, below);
          word = stands.states x.number x j.here.0.0;
          some_left = omega (arith, few, fewer);
          room = λ lives.
              let same : live w.xs ≡ x ∷ live j.rest = j.same ∙ live_stays x j.rest lives in
              let long = rests_long es w.front w.done in
              let a = length-append w.front (live w.xs ++ rests l q) in let b = ap length w.whole in
              let c : length (live w.xs ++ rests l q) ≡ suc (length (live j.rest ++ rests l q)) = ap (λ (k : List Row). length (k ++ rests l q)) same in
              omega (arith, long, a, b, c);
          gone = λ e.
              let same : live w.xs ≡ live j.rest = j.same ∙ live_gone x j.rest e in
              record { front = w.front; xs = j.rest; whole = w.whole ∙ ap (λ (k : List Row). w.front ++ (k ++ rests l q)) same; done = w.done; wait = subst (λ (k : List Row). AllWait load parcels (k ++ rests l q)) same w.wait; here = j.here.1; chain = j.chain; few = omega (arith, few, fewer) };
          taken = λ lives.
              let same : live w.xs ≡ x ∷ live j.rest = j.same ∙ live_stays x j.rest lives in
              let wait : AllWait load parcels (x ∷ (live j.rest ++ rests l q)) = subst (λ (k : List Row). AllWait load parcels (k ++ rests l q)) same w.wait in (
                wait.0,
                λ e is. record {
                  front = w.front ++ x ∷ [];
                  xs = j.rest;
                  whole = w.whole ∙ ap (λ (k : List Row). w.front ++ (k ++ rests l q)) same ∙ sym (append_assoc w.front (x ∷ []) (live j.rest ++ rests l q));
                  done = rests_more es w.front e x w.done is;
                  wait = waits_else parcels x (live j.rest ++ rests l q) wait.1 wait.2;
                  here = j.here.1;
                  chain = j.chain;
                  few = omega (arith, few, fewer);
                },
              );
        }

  pub walking_is : (words : List ℕ) (q : Queue) (l left n n' : ℕ) (es es' : List (RestEntry C)) (ps ps' : List (Option C)) → n ≡ n' → es ≡ es' → ps ≡ ps' → Walking load words q l n left es ps → Walking load words q l n' left es' ps'
  walking_is words q l left n n' es es' ps ps' a b c w = subst (λ (z : ℕ × List (RestEntry C) × List (Option C)). Walking load words q l z.0 left z.1 z.2) (λ i. (a i, b i, c i)) w

  pub walk_ends : (words : List ℕ) (q : Queue) (l left : ℕ) (es : List (RestEntry C)) (parcels : List (Option C)) → Walking load words q l 0 left es parcels → Rested load q l es parcels
  walk_ends words q l left es parcels w =
      let none : w.xs ≡ [] = chain_ends words w.xs w.chain in
      let same : live w.xs ≡ [] = ap live none in
      record { front = w.front; whole = w.whole ∙ ap (λ (k : List Row). w.front ++ (k ++ rests l q)) same; done = w.done; wait = subst (λ (k : List Row). AllWait load parcels (k ++ rests l q)) same w.wait }

  -- Rows of a list

  -- what stands in a list is found in it
  pub all_found : (xs ys : List Row) → Apart same_number ys → ((x : Row) → find (is_row x.number) xs ≡ Some x → find (is_row x.number) ys ≡ Some x) → Apart same_number xs → AllByRecursion (λ x. find (is_row x.number) ys ≡ Some x) xs
  all_found [] ys apart whole mine = tt
  all_found (x ∷ xs) ys apart whole mine = (
    whole x (find-here (is_row x.number) x xs (eq-eqb x.number x.number refl)),
    all_found xs ys apart (λ z e. whole z (⊎_elim
        (λ (hit : is_row z.number x ≡ true). let n : x.number ≡ z.number = eqb-true x.number z.number hit in
        let bad : Some z ≡ None = sym e ∙ subst (λ (k : ℕ). find (is_row k) xs ≡ None) n mine.0 in absurd (cc))
        (λ (miss : is_row z.number x ≡ false). find-past (is_row z.number) x xs miss ∙ e)
        (cases_Bool (is_row z.number x)))) mine.1,
  )

  pub of_list : (q : Queue) (l : ℕ) (xs : List Row) → AllByRecursion (λ x. row_at q x.number ≡ Some x) xs → AllByRecursion (λ x. (row_at q x.number ≡ Some x) × (x.slip.list ≡ l)) (filter (is_of_list l) xs)
  of_list q l [] all = tt
  of_list q l (x ∷ xs) all = ⊎_elim
      (λ (hit : is_of_list l x ≡ true). subst (AllByRecursion (λ x. (row_at q x.number ≡ Some x) × (x.slip.list ≡ l))) (sym (cond-true (is_of_list l x) (x ∷ filter (is_of_list l) xs) (filter (is_of_list l) xs) hit)) ((all.0, eqb-true x.slip.list l hit), of_list q l xs all.1))
      (λ (miss : is_of_list l x ≡ false). subst (AllByRecursion (λ x. (row_at q x.number ≡ Some x) × (x.slip.list ≡ l))) (sym (cond-false (is_of_list l x) (x ∷ filter (is_of_list l) xs) (filter (is_of_list l) xs) miss)) (of_list q l xs all.1))
      (cases_Bool (is_of_list l x))

  length_filter : (p : Row → Bool) (xs : List Row) → length (filter p xs) ≤ length xs
  length_filter p [] = omega arith
  length_filter p (x ∷ xs) = let rest = length_filter p xs in ⊎_elim
      (λ (hit : p x ≡ true). let e = ap length (cond-true (p x) (x ∷ filter p xs) (filter p xs) hit) in omega (arith, e, rest))
      (λ (miss : p x ≡ false). let e = ap length (cond-false (p x) (x ∷ filter p xs) (filter p xs) miss) in omega (arith, e, rest))
      (cases_Bool (p x))

  pub walk_begins : (words : List ℕ) (rows : ℕ) (q : Queue) (l : ℕ) (es : List (RestEntry C)) (parcels : List (Option C)) → Legible words rows q → l < q.lists → Rested load q (suc l) es parcels
      → Walking load words q l (slice_index words (head_of rows l)) rows es parcels
  walk_begins words rows q l es parcels stands low r =
      let mine : AllByRecursion (λ x. row_at q x.number ≡ Some x) q.rows = all_found q.rows q.rows stands.apart (λ x e. e) stands.apart in
      let few = stands.few in let shorter = length_filter (is_of_list l) q.rows in
      record {
        front = r.front;
        xs = rows_of q l;
        whole = r.whole;
        done = r.done;
        wait = r.wait;
        here = of_list q l q.rows mine;
        chain = stands.links l low;
        few = omega (arith, few, shorter);
      }
