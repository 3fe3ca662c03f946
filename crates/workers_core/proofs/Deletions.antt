-- no row is deleted twice
use Rattle.std.proofs.Common.{◌≡◌, ◌≤◌, ◌+◌, ℕ, Bool, true, false, cond, Some, List, [], ◌∷◌, ◌++◌, length, refl, ap, ◌∙◌, arith}
use Rattle.std.specs.List.{count_by, sum_by}
use Rattle.std.proofs.lemmas.List.Sums.{sum_by-append, sum_by-cons, sum_by_push}
use Rattle.queue_model.specs.declared.deeds.Act.{Act}
use Rattle.queue_model.specs.declared.deeds.Act.TheVariants.{Acq, Lock, Unlock, Steal, Rel, Deq, Del, Reserve, GiveBack, Enq, Bell, Take}
use Rattle.queue_model.specs.declared.deeds.Deed.{Deed}
use Rattle.queue_model.specs.declared.queues.Queue.{Queue}
use Rattle.queue_model.specs.declared.rows.Row.{Row}
use Rattle.queue_model.specs.declared.rows.RowState.{RowState}
use Rattle.queue_model.specs.declared.rows.RowState.TheVariants.{Available, Locked, Unlocked, Dequeued, Deleted}
use Rattle.queue_model.specs.History.{Legal, after, deeds_of, is_by, own}
use Rattle.queue_model.specs.State.{row_at}
use Rattle.queue_model.specs.Table.{Can, acted, changed, in_state, left_in}
use Rattle.queue_model.proofs.Depths.{changed_sum}
use Rattle.acts_core.specs.Asked.{IsSightOf}
use Rattle.acts_core.specs.Calls.{Call, CallDelete, Answer, IsDone, acts_of}
use Rattle.acts_core.specs.Chains.{acts_in}
use Rattle.acts_core.specs.Meaning.{Called}
use Rattle.acts_core.specs.Sight.{Build, Sight, plan_of}
use Rattle.acts_core.proofs.Chaining.{chain_own}
use Rattle.line_core.specs.Runs.{RanOn}
use Rattle.workers_core.specs.Drops.{deleted, is_deletion, left_to}

-- 1 for a row that is deleted
abbrev gone : RowState → ℕ
gone Deleted = 1
gone (Available) = 0
gone (Locked h) = 0
gone (Unlocked h) = 0
gone Dequeued = 0

abbrev gone_of : Row → ℕ
gone_of x = gone x.state

-- the rows of a queue that are deleted
abbrev all_gone : Queue → ℕ
all_gone q = sum_by gone_of q.rows

abbrev one_if : Act → ℕ
one_if a = cond (is_deletion a) 1 0

-- a change of a row that isn't deleted
gone_changed : (q : Queue) (r : ℕ) (f : Row → Row) (x : Row) (s : RowState) → row_at q r ≡ Some x → x.state ≡ s → gone s ≡ 0 → all_gone q + gone_of (f x) ≡ all_gone (changed q r f)
gone_changed q r f x s found is none =
    let was : gone_of x ≡ 0 = ap gone is ∙ none in
    omega (arith, changed_sum gone_of q r f x found, was)

gone_step : (q : Queue) (h : ℕ) (a : Act) → Can q h a → all_gone q + one_if a ≤ all_gone (acted q h a)
gone_step q h (Acq r) can = omega (arith, gone_changed q r (in_state (Locked h)) can.0 Available can.1 can.2 refl)
gone_step q h (Lock r) can = omega (arith, gone_changed q r (in_state (Locked h)) can.0 (Unlocked h) can.1 can.2 refl)
gone_step q h (Unlock r n) can = omega (arith, gone_changed q r (left_in (Unlocked h) n) can.0 (Locked h) can.1 can.2 refl)
gone_step q h (Steal r) can = omega (arith, gone_changed q r (in_state (Locked h)) can.1.0 (Unlocked can.0) can.1.1 can.1.2 refl)
gone_step q h (Rel r n) can = omega (arith, gone_changed q r (left_in Available n) can.0 (Locked h) can.1 can.2 refl)
gone_step q h (Deq r) can = omega (arith, gone_changed q r (in_state Dequeued) can.0 (Locked h) can.1 can.2 refl)
gone_step q h (Del r) can = omega (arith, gone_changed q r (in_state Deleted) can.0 Dequeued can.1 can.2 refl)
gone_step q h (Reserve size) can = omega arith
gone_step q h (GiveBack size) can = omega arith
gone_step q h (Enq r slip content origin n) can =
    let new : Row = record { number = r; slip = slip; state = Available; content = content; origin = origin; count = n } in
    omega (arith, sum_by_push gone_of q.rows new)
gone_step q h (Bell r c) can = omega arith
gone_step q h (Take c l) can = omega arith

abbrev deletions : List Deed → ℕ
deletions ds = count_by (λ d. is_deletion d.act) ds

gone_after : (q : Queue) (ds : List Deed) → Legal q ds → all_gone q + deletions ds ≤ all_gone (after q ds)
gone_after q [] legal = omega arith
gone_after q (d ∷ ds) legal =
    omega (arith, gone_step q d.caller d.act legal.0, gone_after (acted q d.caller d.act) ds legal.1, sum_by-cons (λ (e : Deed). cond (is_deletion e.act) 1 0) d ds)

gone_one : (s : RowState) → gone s ≤ 1
gone_one Available = omega arith
gone_one (Locked h) = omega arith
gone_one (Unlocked h) = omega arith
gone_one Dequeued = omega arith
gone_one Deleted = omega arith

gone_rows : (xs : List Row) → sum_by gone_of xs ≤ length xs
gone_rows [] = omega arith
gone_rows (x ∷ xs) = omega (arith, sum_by-cons gone_of x xs, gone_one x.state, gone_rows xs)

own_few : (h : ℕ) (ds : List Deed) → deletions (own h ds) ≤ deletions ds
own_few h [] = omega arith
own_few h (d ∷ ds) = by_test (is_by h d) (own_few h ds) where
  by_test : (b : Bool) → deletions (own h ds) ≤ deletions ds → deletions (cond b (d ∷ own h ds) (own h ds)) ≤ deletions (d ∷ ds)
  by_test true rest = omega (arith, rest, sum_by-cons (λ (e : Deed). cond (is_deletion e.act) 1 0) d ds, sum_by-cons (λ (e : Deed). cond (is_deletion e.act) 1 0) d (own h ds))
  by_test false rest = omega (arith, rest, sum_by-cons (λ (e : Deed). cond (is_deletion e.act) 1 0) d ds)

-- what a caller has deleted are rows
deleted_rows : (o : Queue) (h : ℕ) (ds : List Deed) → Legal o ds → deletions (own h ds) ≤ length (after o ds).rows
deleted_rows o h ds legal = omega (arith, own_few h ds, gone_after o ds legal, gone_rows (after o ds).rows)

deletions_append : (xs ys : List Deed) → deletions (xs ++ ys) ≡ deletions xs + deletions ys
deletions_append xs ys = sum_by-append (λ (e : Deed). cond (is_deletion e.act) 1 0) xs ys

-- calls delete, and what was deleted stays so
pub left_less : (build : Build) (calls : List (Call × Answer)) (old new : Sight) → RanOn build calls old new → left_to build new ≤ left_to build old
left_less build calls old new ran =
    let grown : own old.caller new.seen ≡ own old.caller old.seen ++ deeds_of old.caller (acts_in (plan_of build old.opening) ran.made) = chain_own (plan_of build old.opening) old.caller old.seen ran.made new.seen ran.chain in
    let more : deleted new ≡ deletions (own old.caller new.seen) = ap (λ (h : ℕ). deletions (own h new.seen)) ran.caller in
    omega (arith, more, ap deletions grown, deletions_append (own old.caller old.seen) (deeds_of old.caller (acts_in (plan_of build old.opening) ran.made)))

pub left_call : (build : Build) (old new : Sight) (call : Call) (answer : Answer) → Called build old new call answer → left_to build new ≤ left_to build old
left_call build old new call answer m =
    let acts : List Deed = deeds_of old.caller (acts_of (plan_of build old.opening) call answer) in
    let same : new.caller ≡ old.caller = ap (λ (s : Sight). s.caller) m.rest in
    let more : deleted new ≡ deletions (own old.caller new.seen) = ap (λ (h : ℕ). deletions (own h new.seen)) same in
    omega (arith, more, ap deletions m.meets.own_acts, deletions_append (own old.caller old.seen) acts)

-- a row that was deleted is one less that is left
pub left_delete : (build : Build) (old new : Sight) (r : ℕ) → Called build old new (CallDelete r) IsDone → IsSightOf build new → left_to build new + 1 ≤ left_to build old
left_delete build old new r m opens =
    let same : new.caller ≡ old.caller = ap (λ (s : Sight). s.caller) m.rest in
    let opened : new.opening ≡ old.opening = ap (λ (s : Sight). s.opening) m.rest in
    let more : deleted new ≡ deletions (own old.caller new.seen) = ap (λ (h : ℕ). deletions (own h new.seen)) same in
    let one : deletions (deeds_of old.caller (Del r ∷ [])) ≡ 1 = refl in
    let rows : length (after new.opening new.seen).rows ≡ length (after old.opening new.seen).rows = ap (λ (o : Queue). length (after o new.seen).rows) opened in
    omega (arith, more, one, ap deletions m.meets.own_acts, deletions_append (own old.caller old.seen) (deeds_of old.caller (Del r ∷ [])), deleted_rows old.opening old.caller new.seen m.meets.legal, rows, opens.rows)
