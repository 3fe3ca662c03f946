-- how many rows of some ids a queue has
use Rattle.std.proofs.Common.{◌≡◌, ◌≢◌, ℕ, suc, ◌+◌, ◌<◌, ◌≤◌, Bool, true, false, cond, not, Option, Some, None, List, [], ◌∷◌, length, filter, slice_get, sum_by, option_map, refl, sym, ap, ◌∙◌, eqb-true, arith}
use Rattle.std.proofs.lemmas.Bool.{eqb-false}
use Rattle.std.proofs.lemmas.List.Filters.{sum_by-filter_both}
use Rattle.std.proofs.lemmas.List.Sums.{sum_by-cons, sum_by_push}
use Rattle.std.specs.List.{AllByRecursion, count_by}
use Rattle.std.specs.Option.{option_map_or}
use Rattle.queue_model.specs.declared.deeds.Act.{Act}
use Rattle.queue_model.specs.declared.deeds.Act.TheVariants.{Acq, Lock, Unlock, Steal, Rel, Deq, Del, Reserve, GiveBack, Enq, Bell, Take}
use Rattle.queue_model.specs.declared.deeds.Deed.{Deed}
use Rattle.queue_model.specs.declared.queues.Queue.{Queue}
use Rattle.queue_model.specs.declared.rows.Row.{Row}
use Rattle.queue_model.specs.declared.rows.RowState.TheVariants.{Available, Locked, Unlocked, Dequeued, Deleted}
use Rattle.queue_model.specs.declared.rows.Slip.{Slip}
use Rattle.queue_model.specs.History.{after, own, is_by, deed, deeds_of}
use Rattle.queue_model.specs.State.{is_row, row_at}
use Rattle.queue_model.specs.Table.{acted, changed, in_state, left_in}
use Rattle.queue_model.proofs.Histories.{own-cons_other}
use Rattle.queue_model.proofs.KeyedLemmas.{sum-alter}
use Rattle.account_core.specs.Counting.{with_ids}
use Rattle.account_core.proofs.Acting.{enters, count_cons}

-- Steps

-- what a row adds to a count
abbrev weight : (ℕ → Bool) → Row → ℕ
weight test x = cond (test x.slip.id) 1 0

-- a change of a row that keeps its slip
kept_count : (test : ℕ → Bool) (q : Queue) (r : ℕ) (f : Row → Row) → ((z : Row) → (f z).slip ≡ z.slip) → with_ids test (changed q r f).rows ≡ with_ids test q.rows
kept_count test q r f kept = omega (arith, sum-alter (weight test) (is_row r) (option_map f) q.rows, same (row_at q r)) where
  same : (o : Option Row) → option_map_or (weight test) (option_map f o) 0 ≡ option_map_or (weight test) o 0
  same None = refl
  same (Some x) = ap (λ (s : Slip). cond (test s.id) 1 0) (kept x)

-- a step adds what it puts
step_count : (test : ℕ → Bool) (q : Queue) (h : ℕ) (a : Act) → with_ids test (acted q h a).rows ≡ with_ids test q.rows + cond (enters test a) 1 0
step_count test q h (Acq r) = omega (arith, kept_count test q r (in_state (Locked h)) (λ z. refl))
step_count test q h (Lock r) = omega (arith, kept_count test q r (in_state (Locked h)) (λ z. refl))
step_count test q h (Unlock r n) = omega (arith, kept_count test q r (left_in (Unlocked h) n) (λ z. refl))
step_count test q h (Steal r) = omega (arith, kept_count test q r (in_state (Locked h)) (λ z. refl))
step_count test q h (Rel r n) = omega (arith, kept_count test q r (left_in Available n) (λ z. refl))
step_count test q h (Deq r) = omega (arith, kept_count test q r (in_state Dequeued) (λ z. refl))
step_count test q h (Del r) = omega (arith, kept_count test q r (in_state Deleted) (λ z. refl))
step_count test q h (Reserve size) = omega arith
step_count test q h (GiveBack size) = omega arith
step_count test q h (Enq r slip content origin n) = sum_by_push (weight test) q.rows (record { number = r; slip = slip; state = Available; content = content; origin = origin; count = n })
step_count test q h (Bell r c) = omega arith
step_count test q h (Take c l) = omega arith

-- the deed puts a message whose id passes
abbrev pub enters_by : (ℕ → Bool) → Deed → Bool
enters_by test d = enters test d.act

-- and a history what all its deeds put
pub after_count : (test : ℕ → Bool) (o : Queue) (ds : List Deed) → with_ids test (after o ds).rows ≡ with_ids test o.rows + count_by (enters_by test) ds
after_count test o [] = omega arith
after_count test o (d ∷ ds) =
    let here = step_count test o d.caller d.act in
    let rest = after_count test (acted o d.caller d.act) ds in
    omega (arith, here, rest, count_cons (enters_by test) d ds)

-- acts put what the deeds of them do
pub acts_count : (test : ℕ → Bool) (h : ℕ) (acts : List Act) → count_by (enters_by test) (deeds_of h acts) ≡ count_by (enters test) acts
acts_count test h [] = refl
acts_count test h (a ∷ acts) = omega (arith, count_cons (enters_by test) (deed h a) (deeds_of h acts), count_cons (enters test) a acts, acts_count test h acts)

-- Callers

-- the deed is none of h's
abbrev not_by : ℕ → Deed → Bool
not_by h d = not (is_by h d)

-- a caller's deeds among those that are none of another's
own_rest : (j k : ℕ) (ds : List Deed) → j ≢ k → own k (filter (not_by j) ds) ≡ own k ds
own_rest j k [] other = refl
own_rest j k (d ∷ ds) other = by_test (is_by j d) refl (own_rest j k ds other) where
  rest : List Deed
  rest = filter (not_by j) ds

  by_test : (b : Bool) → is_by j d ≡ b → own k (filter (not_by j) ds) ≡ own k ds → own k (filter (not_by j) (d ∷ ds)) ≡ own k (d ∷ ds)
  by_test true e same =
      ap (λ (b : Bool). own k (cond (not b) (d ∷ filter (not_by j) ds) (filter (not_by j) ds))) e
      ∙ same ∙ sym (own-cons_other k d ds (λ (mine : d.caller ≡ k). other (sym (eqb-true d.caller j e) ∙ mine)))
  by_test false e same =
      ap (λ (b : Bool). own k (cond (not b) (d ∷ filter (not_by j) ds) (filter (not_by j) ds))) e
      ∙ ap (λ (xs : List Deed). cond (is_by k d) (d ∷ xs) xs) same

-- the deed is of one of n callers, from b + 1 on
pub record IsAmong (b n : ℕ) (d : Deed) : Type 0 where
  pub first : b < d.caller
  pub last : d.caller ≤ b + n

-- without those of the first caller the deeds are of the others
others_among : (b n : ℕ) (ds : List Deed) → AllByRecursion (IsAmong b (suc n)) ds → AllByRecursion (IsAmong (b + 1) n) (filter (not_by (b + 1)) ds)
others_among b n [] all = tt
others_among b n (d ∷ ds) all = by_test (is_by (b + 1) d) refl (others_among b n ds all.1) where
  by_test : (t : Bool) → is_by (b + 1) d ≡ t → AllByRecursion (IsAmong (b + 1) n) (filter (not_by (b + 1)) ds) → AllByRecursion (IsAmong (b + 1) n) (cond (not t) (d ∷ filter (not_by (b + 1)) ds) (filter (not_by (b + 1)) ds))
  by_test true e rest = rest
  by_test false e rest = (record { first = omega (arith, all.0.first, eqb-false d.caller (b + 1) e); last = omega (arith, all.0.last) }, rest)

-- a count over the deeds of callers is the sum of the counts over each one's
pub parts : {X : Type 0} (t : Deed → Bool) (w : X → ℕ) (b : ℕ) (xs : List X) (ds : List Deed) → AllByRecursion (IsAmong b (length xs)) ds
    → ((i : ℕ) (x : X) (k : ℕ) → slice_get xs i ≡ Some x → k ≡ b + i + 1 → count_by t (own k ds) ≡ w x) → count_by t ds ≡ sum_by w xs
parts t w b [] [] all each = refl
parts t w b [] (d ∷ ds) all each = absurd (omega (arith, all.0.first, all.0.last))
parts t w b (x ∷ xs) ds all each =
    let others = filter (not_by (b + 1)) ds in
    let rest = parts t w (b + 1) xs others (others_among b (length xs) ds all)
    (λ i y k there at. ap (count_by t) (own_rest (b + 1) k ds (λ e. absurd (omega (arith, e, at)))) ∙ each (suc i) y k there (omega (arith, at)))
    in
    omega (arith, sum_by-filter_both (is_by (b + 1)) (not_by (b + 1)) (λ d. refl) (λ d. cond (t d) 1 0) ds, each 0 x (b + 1) refl (omega arith), rest, sum_by-cons w x xs)
