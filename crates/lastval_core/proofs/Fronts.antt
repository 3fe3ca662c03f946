-- the last rows of the first rows
use Rattle.std.proofs.Common.{◌≡◌, ◌≢◌, ℕ, ◌+◌, ◌-◌, ◌<◌, ◌≤◌, Bool, true, false, Option, Some, None, List, [], ◌∷◌, ◌++◌, length, map, get_or, take, refl, sym, ap, ◌∙◌, subst, arith, zero, suc}
use Rattle.std.specs.List.{insert}
use Rattle.std.proofs.lemmas.List.{take_all}
use Rattle.queue_model.specs.declared.rows.RowState.TheVariants.{Available}
use Rattle.queue_model.specs.declared.rows.Slip.{Slip}
use Rattle.queue_model.specs.Order.{KeyBefore}
use Rattle.acts_core.specs.Kept.{Kept, KeptRow}
use Rattle.acts_core.specs.Load.{Load}
use Rattle.kept_rows.specs.Rows.{no_row, kept_at, new_row}
use Rattle.kept_rows.specs.Starting.{started}
use Rattle.lastval_core.specs.Fronts.{front, OneOfKey, keys_of, KeysApart}
use Rattle.lastval_core.specs.Lasts.{key_at, HasLater, IsLastOf, KeepsLast, StandsAt, BelongsAt}
use Rattle.lastval_core.proofs.Coming.{Came, lasts_unkeyed, lasts_fresh}

take_long : (xs : List KeptRow) (n : ℕ) → n ≤ length xs → length (take n xs) ≡ n
take_long xs zero l = refl
take_long [] (suc n) l = absurd (omega arith)
take_long (x ∷ xs) (suc n) l = ap suc (take_long xs n (omega arith))

take_at : (xs : List KeptRow) (n r : ℕ) → r < n → get_or (take n xs) r no_row ≡ get_or xs r no_row
take_at xs zero r l = absurd (omega arith)
take_at [] (suc n) r l = refl
take_at (x ∷ xs) (suc n) zero l = refl
take_at (x ∷ xs) (suc n) (suc r) l = take_at xs n r (omega arith)

module _ (k : Kept) where
  pub front_length : (n : ℕ) → n ≤ length k.rows → length (front k n).rows ≡ n
  front_length n l = take_long k.rows n l

  front_at : (n r : ℕ) → r < n → kept_at (front k n) r ≡ kept_at k r
  front_at n r l = take_at k.rows n r l

  pub front_key : (n r : ℕ) → r < n → key_at (front k n) r ≡ key_at k r
  front_key n r l = ap (λ (x : KeptRow). x.slip.key) (front_at n r l)

  pub front_all : (n : ℕ) → n ≡ length k.rows → front k n ≡ k
  front_all n e = λ i. record { spare = k.spare; depth = k.depth; rows = take_all n k.rows (omega arith) i }

  -- one row more
  pub front_came : (n m : ℕ) → m ≡ n + 1 → n < length k.rows → Came (front k n) (front k m) (key_at k n)
  front_came n m e l =
      let a = front_length n (omega arith) in
      let b = front_length m (omega arith) in record {
        long = omega arith;
        old = λ r in_r. front_key m r (omega arith) ∙ sym (front_key n r (omega arith));
        new = ap (key_at (front k m)) a ∙ front_key m n (omega arith);
        available = λ r in_r free. ap (λ (x : KeptRow). x.state) (front_at n r (omega arith)) ∙ (ap (λ (x : KeptRow). x.state) (sym (front_at m r (omega arith))) ∙ free);
      }

  pub front_none : (lasts : List ℕ) (marks : List Bool) → lasts ≡ [] → marks ≡ [] → KeepsLast (front k 0) lasts marks
  front_none lasts marks no_lasts no_marks =
      let a : length lasts ≡ 0 = ap (λ (z : List ℕ). length z) no_lasts in
      let b : length marks ≡ 0 = ap (λ (z : List Bool). length z) no_marks in record {
        long = b;
        marked = λ r l. absurd (omega arith);
        each = λ i l. absurd (omega arith);
        whole = λ r is. let z = is.inside in absurd (omega arith);
        sorted = λ i j less l. absurd (omega arith);
        one = λ r l. absurd (omega arith);
        few = omega arith;
      }

  module _ (n : ℕ) (lasts : List ℕ) (marks : List Bool) (low : n < length k.rows) (l : KeepsLast (front k n) lasts marks) where
    row_low : (i : ℕ) → i < length lasts → get_or lasts i 0 < n
    row_low i m = let a = (l.each i m).inside in let b = front_length n (omega arith) in omega arith

    pub search_inside : (i : ℕ) → i < length lasts → get_or lasts i 0 < length k.rows
    search_inside i m = let a = row_low i m in omega arith

    pub search_sorted : (i j : ℕ) → i < j → j < length lasts → KeyBefore (key_at k (get_or lasts i 0)) (key_at k (get_or lasts j 0))
    search_sorted i j less m = subst (λ (z : Option (List ℕ) × Option (List ℕ)). KeyBefore z.0 z.1) (λ t. (front_key n (get_or lasts i 0) (row_low i (omega arith)) t, front_key n (get_or lasts j 0) (row_low j m) t)) (l.sorted i j less m)

    -- no earlier row has the key of the next
    fresh : OneOfKey k → (r : ℕ) → r < length (front k n).rows → key_at (front k n) r ≢ None → key_at k n ≢ key_at (front k n) r
    fresh apart r in_r some same =
        let a = front_length n (omega arith) in
        let m : r < n = omega arith in
        apart r n m low (λ none. some (front_key n r m ∙ none)) (sym (front_key n r m) ∙ sym same)

    pub next_unkeyed : (m : ℕ) → m ≡ n + 1 → OneOfKey k → key_at k n ≡ None → KeepsLast (front k m) lasts (marks ++ false ∷ [])
    next_unkeyed m e apart none = lasts_unkeyed (front k n) (front k m) (key_at k n) (front_came n m e low) (fresh apart) lasts marks none l

    pub next_first : (m i : ℕ) → m ≡ n + 1 → OneOfKey k → key_at k n ≢ None → BelongsAt k lasts (key_at k n) i → KeepsLast (front k m) (insert lasts i n) (marks ++ false ∷ [])
    next_first m i e apart some b =
        let key : (a : ℕ) → a < length lasts → key_at k (get_or lasts a 0) ≡ key_at (front k n) (get_or lasts a 0) = λ a in_a. sym (front_key n (get_or lasts a 0) (row_low a in_a)) in
        let there : BelongsAt (front k n) lasts (key_at k n) i = record {
          inside = b.inside;
          below = λ a la. subst (λ (z : Option (List ℕ)). KeyBefore z (key_at k n)) (key a (let z = b.inside in omega arith)) (b.below a la);
          above = λ a ha in_a. subst (λ (z : Option (List ℕ)). KeyBefore (key_at k n) z) (key a in_a) (b.above a ha in_a);
        } in
        subst (λ (z : ℕ). KeepsLast (front k m) (insert lasts i z) (marks ++ false ∷ [])) (front_length n (omega arith))
        (lasts_fresh (front k n) (front k m) (key_at k n) (front_came n m e low) (fresh apart) lasts marks i some there l)

    pub none_there : (i : ℕ) → OneOfKey k → key_at k n ≢ None → StandsAt k lasts (key_at k n) i → ⊥
    none_there i apart some s = apart (get_or lasts i 0) n (row_low i s.inside) low (λ none. some (sym s.same ∙ none)) s.same

-- the keys of the rows that a queue starts with
start_key : {C : Type 0} (load : C → Load) (es : List (Slip × C)) (r : ℕ) → (get_or (started load es) r no_row).slip.key ≡ get_or (keys_of es) r None
start_key load [] r = refl
start_key load (e ∷ es) zero = refl
start_key load (e ∷ es) (suc r) = start_key load es r

start_length : {C : Type 0} (load : C → Load) (es : List (Slip × C)) → length (started load es) ≡ length es
start_length load [] = refl
start_length load (e ∷ es) = ap suc (start_length load es)

pub start_rows : {C : Type 0} (load : C → Load) (es : List (Slip × C)) (k : Kept) → k.rows ≡ started load es → length k.rows ≡ length es
start_rows load es k is = ap (λ (z : List KeptRow). length z) is ∙ start_length load es

pub start_apart : {C : Type 0} (load : C → Load) (es : List (Slip × C)) (k : Kept) → k.rows ≡ started load es → KeysApart es → OneOfKey k
start_apart load es k is apart r s less l some same =
    let key : (x : ℕ) → key_at k x ≡ get_or (keys_of es) x None = λ x. ap (λ (z : List KeptRow). (get_or z x no_row).slip.key) is ∙ start_key load es x in
    apart r s less (let n = start_rows load es k is in omega arith) (λ none. some (key r ∙ none)) (sym (key r) ∙ (same ∙ key s))
