-- what the acts of a call cost, and what they are
use Rattle.std.proofs.Common.{◌≡◌, ◌≢◌, ℕ, ◌+◌, ◌-◌, ◌<◌, ◌≤◌, Bool, true, false, List, [], ◌∷◌, ◌++◌, length, refl, sym, ap, ◌∙◌, arith, Option, Some, None, length-append, if◌then◌else◌}
use Rattle.std.specs.Option.{option_map}
use Rattle.queue_model.specs.declared.deeds.Act.{Act}
use Rattle.queue_model.specs.declared.deeds.Act.TheVariants.{Acq, Lock, Unlock, Steal, Rel, Deq, Del, Reserve, GiveBack, Enq, Bell, Take}
use Rattle.queue_model.specs.declared.deeds.Deed.{Deed}
use Rattle.queue_model.specs.declared.queues.Queue.{Queue}
use Rattle.queue_model.specs.declared.rows.RowState.TheVariants.{Available, Locked, Unlocked, Dequeued, Deleted}
use Rattle.queue_model.specs.Keyed.{alter}
use Rattle.queue_model.specs.History.{after, Legal, own, deed, deeds_of}
use Rattle.queue_model.specs.State.{is_row, entries, counts, size_at}
use Rattle.queue_model.specs.Table.{acted, changed, in_state, left_in}
use Rattle.queue_model.proofs.Depths.{depth_kept, depth_reserving, depth_giving, depth_dequeued, size_found}
use Rattle.queue_model.proofs.Histories.{own-cons_mine, own-cons_other}
use Rattle.acts_core.specs.Calls.{Call, CallDepth, CallReserve, CallGiveBack, CallPut, CallNext, CallOldest, CallFind, CallLock, CallUnlock, CallRelease, CallSteal, CallDequeue, CallDelete, Answer, IsDepth, IsAt, IsSpent, IsGot, IsEmpty, IsFound, IsLocked, IsStolen, IsReleased, IsOutdated, HasStolen, IsNotStealable, IsMoved, IsFreed, IsDone, acts_of, displacing}
use Rattle.acts_core.specs.Held.{Means}
use Rattle.acts_core.specs.Load.{Load}
use Rattle.acts_core.specs.Meaning.{allowance_after, share_after, Shares}
use Rattle.acts_core.specs.Owed.{taken_any}
use Rattle.acts_core.specs.Serves.{held_acts, rows_of_call}
use Rattle.acts_core.specs.Sight.{Kind, Listed, Sorted, LastValue, Plan}
use Rattle.held_table.specs.Turns.{plain, sized}

-- a change of an element leaves the number of them
alter_length : {X : Type 0} (p : X → Bool) (f : X → X) (xs : List X) → length (alter p (option_map f) xs) ≡ length xs
alter_length p f [] = refl
alter_length p f (x ∷ xs) = by_test (p x) (alter_length p f xs)
  where
    by_test : (b : Bool) → length (alter p (option_map f) xs) ≡ length xs → length (if b then (f x ∷ xs) else (x ∷ alter p (option_map f) xs)) ≡ length (x ∷ xs)
    by_test true r = refl
    by_test false r = omega arith

-- no other caller has a deed of a call
pub not_mine : (h k : ℕ) (acts : List Act) → k ≢ h → own k (deeds_of h acts) ≡ []
not_mine h k [] off = refl
not_mine h k (a ∷ acts) off = own-cons_other k (deed h a) (deeds_of h acts) (λ z. off (sym z)) ∙ not_mine h k acts off

-- and the caller has them all
pub all_mine : (h : ℕ) (acts : List Act) → own h (deeds_of h acts) ≡ deeds_of h acts
all_mine h [] = refl
all_mine h (a ∷ acts) = own-cons_mine (deed h a) (deeds_of h acts) ∙ ap (λ (l : List _). deed h a ∷ l) (all_mine h acts)

-- Entries

displacing_entries : (q : Queue) (h : ℕ) (d : Option (ℕ × Load)) → Legal q (deeds_of h (displacing d)) → entries (after q (deeds_of h (displacing d))) ≡ entries q
displacing_entries q h None legal = refl
displacing_entries q h (Some x) legal = (depth_kept q h (Acq x.0) legal.0 tt).0

-- only a call that reserves takes of the allowance
abbrev pub MayReserve : Call → ℕ → Type 0
MayReserve (CallReserve size) n = 0 < n
MayReserve call n = Unit {0}

-- what a call adds to the entries, it takes of the allowance
pub cost_entries : (kind : Kind) (q : Queue) (h : ℕ) (call : Call) (answer : Answer) (n : ℕ) → Legal q (deeds_of h (held_acts call answer)) → Means kind q h call answer → MayReserve call n → entries (after q (deeds_of h (held_acts call answer))) + allowance_after call n ≡ entries q + n
cost_entries kind q h (CallReserve size) a n legal means may = let e = (depth_reserving q h size).0 in omega (arith, e, may)
cost_entries kind q h (CallGiveBack size) a n legal means may = let e = (depth_giving q h size legal.0).0 in omega (arith, e)
cost_entries kind q h (CallPut slip load) (IsAt row d) n legal means may =
    let e = (depth_kept q h (Enq row slip load.content load.origin load.count) legal.0 tt).0 in
    let r = displacing_entries (acted q h (Enq row slip load.content load.origin load.count)) h d legal.1 in
    omega (arith, e, r)
cost_entries kind q h (CallNext c) (IsGot r l load) n legal means may = let e = (depth_kept q h (Acq r) legal.0 tt).0 in omega (arith, e)
cost_entries kind q h (CallNext c) IsEmpty n legal means may = refl
cost_entries kind q h CallOldest (IsGot r l load) n legal means may = let e = (depth_kept q h (Acq r) legal.0 tt).0 in omega (arith, e)
cost_entries kind q h (CallLock r) (IsLocked load) n legal means may = let e = (depth_kept q h (Lock r) legal.0 tt).0 in omega (arith, e)
cost_entries kind q h (CallUnlock r load) a n legal means may = let e = (depth_kept q h (Unlock r load.count) legal.0 tt).0 in omega (arith, e)
cost_entries kind q h (CallRelease r load) (IsReleased mask) n legal means may = let e = (depth_kept q h (Rel r load.count) legal.0 tt).0 in omega (arith, e)
cost_entries kind q h (CallSteal r) (HasStolen load) n legal means may = let e = (depth_kept q h (Steal r) legal.0 tt).0 in omega (arith, e)
cost_entries kind q h (CallDequeue r) (IsFreed size) n legal means may =
    let held = legal.0 in
    let out = (depth_dequeued q r held.0 held.1 (ap counts held.2)).0 in
    let back = (depth_reserving (changed q r (in_state Dequeued)) h (size_at q r)).0 in
    let give = (depth_giving (acted q h (Deq r)) h size legal.1.0).0 in
    omega (arith, out, back, give)
cost_entries kind q h (CallDequeue r) a n legal means may = absurd means
cost_entries kind q h (CallDelete r) a n legal means may = let e = (depth_kept q h (Del r) legal.0 tt).0 in omega (arith, e)
cost_entries kind q h call a n legal means may = refl

-- Rows

displacing_rows : (q : Queue) (h : ℕ) (d : Option (ℕ × Load)) → length (after q (deeds_of h (displacing d))).rows ≡ length q.rows
displacing_rows q h None = refl
displacing_rows q h (Some x) = alter_length (is_row x.0) (in_state (Locked h)) q.rows

-- a put adds a row, and no other call does
pub cost_rows : (kind : Kind) (q : Queue) (h : ℕ) (call : Call) (answer : Answer) → Means kind q h call answer → length (after q (deeds_of h (held_acts call answer))).rows ≡ length q.rows + rows_of_call call
cost_rows kind q h (CallReserve size) a means = omega arith
cost_rows kind q h (CallGiveBack size) a means = omega arith
cost_rows kind q h (CallPut slip load) (IsAt row d) means =
    let mid : Queue = acted q h (Enq row slip load.content load.origin load.count) in
    let r = displacing_rows mid h d in
    omega (arith, r, length-append q.rows (record { number = row; slip = slip; state = Available; content = load.content; origin = load.origin; count = load.count } ∷ []))
cost_rows Listed q h (CallPut slip load) a means = absurd means
cost_rows Sorted q h (CallPut slip load) a means = absurd means
cost_rows LastValue q h (CallPut slip load) a means = absurd means
cost_rows kind q h (CallNext c) (IsGot r l load) means = let e = alter_length (is_row r) (in_state (Locked h)) q.rows in omega (arith, e)
cost_rows kind q h (CallNext c) IsEmpty means = omega arith
cost_rows kind q h CallOldest (IsGot r l load) means = let e = alter_length (is_row r) (in_state (Locked h)) q.rows in omega (arith, e)
cost_rows kind q h (CallLock r) (IsLocked load) means = let e = alter_length (is_row r) (in_state (Locked h)) q.rows in omega (arith, e)
cost_rows kind q h (CallUnlock r load) a means = let e = alter_length (is_row r) (left_in (Unlocked h) load.count) q.rows in omega (arith, e)
cost_rows kind q h (CallRelease r load) (IsReleased mask) means = let e = alter_length (is_row r) (left_in Available load.count) q.rows in omega (arith, e)
cost_rows kind q h (CallSteal r) (HasStolen load) means = let e = alter_length (is_row r) (in_state (Locked h)) q.rows in omega (arith, e)
cost_rows kind q h (CallDequeue r) (IsFreed size) means = let e = alter_length (is_row r) (in_state Dequeued) q.rows in omega (arith, e)
cost_rows kind q h (CallDelete r) a means = let e = alter_length (is_row r) (in_state Deleted) q.rows in omega (arith, e)
cost_rows kind q h call a means = omega arith

-- Answers

-- what a reply does not tell of an answer is in the state, where its acts go by it
pub plain_acts : (kind : Kind) (q : Queue) (h : ℕ) (call : Call) (answer : Answer) → Means kind q h call answer → held_acts call (sized q call (plain answer)) ≡ held_acts call answer
plain_acts kind q h (CallReserve size) a means = refl
plain_acts kind q h (CallGiveBack size) a means = refl
plain_acts kind q h (CallPut slip load) (IsAt r d) means = refl
plain_acts kind q h (CallNext c) (IsGot r l load) means = refl
plain_acts kind q h (CallNext c) IsEmpty means = refl
plain_acts kind q h CallOldest (IsGot r l load) means = refl
plain_acts kind q h (CallLock r) (IsLocked load) means = refl
plain_acts kind q h (CallUnlock r load) a means = refl
plain_acts kind q h (CallRelease r load) (IsReleased mask) means = refl
plain_acts kind q h (CallSteal r) (HasStolen load) means = refl
plain_acts kind q h (CallDequeue r) (IsFreed size) means = ap (λ (n : ℕ). Deq r ∷ GiveBack n ∷ []) (size_found q r means.0 means.1 ∙ means.2)
plain_acts kind q h (CallDelete r) a means = refl
plain_acts kind q h call a means = refl

-- the acts of a call on a queue without bells go by the call and its answer alone
pub acts_same : (p : Plan) → p.bells ≡ false → (call : Call) (answer : Answer) → acts_of p call answer ≡ held_acts call answer
acts_same p none (CallReserve size) a = refl
acts_same p none (CallGiveBack size) a = refl
acts_same p none (CallPut slip load) (IsAt r d) = refl
acts_same p none (CallNext c) (IsGot r l load) = ap (λ (b : Bool). (if b then Rattle.acts_core.specs.Calls.takes_down c l (p.opening.lists - l) else []) ++ Acq r ∷ []) none
acts_same p none (CallNext c) IsEmpty = ap (λ (b : Bool). if b then Rattle.acts_core.specs.Calls.takes_down c 0 (p.opening.lists - 0) else []) none
acts_same p none CallOldest (IsGot r l load) = refl
acts_same p none (CallLock r) (IsLocked load) = refl
acts_same p none (CallUnlock r load) a = refl
acts_same p none (CallRelease r load) (IsReleased mask) = ap (λ (b : Bool). Rel r load.count ∷ (if b then Rattle.acts_core.specs.Calls.rings_up r mask 0 p.opening.consumers else [])) none
acts_same p none (CallSteal r) (HasStolen load) = refl
acts_same p none (CallDequeue r) (IsFreed size) = refl
acts_same p none (CallDelete r) a = refl
acts_same p none call a = refl

displacing_quiet : (h c : ℕ) (d : Option (ℕ × Load)) → taken_any c (deeds_of h (displacing d)) ≡ []
displacing_quiet h c None = refl
displacing_quiet h c (Some x) = refl

-- no bell is taken
pub acts_quiet : (h c : ℕ) (call : Call) (answer : Answer) → taken_any c (deeds_of h (held_acts call answer)) ≡ []
acts_quiet h c (CallReserve size) a = refl
acts_quiet h c (CallGiveBack size) a = refl
acts_quiet h c (CallPut slip load) (IsAt r d) = displacing_quiet h c d
acts_quiet h c (CallNext k) (IsGot r l load) = refl
acts_quiet h c (CallNext k) IsEmpty = refl
acts_quiet h c CallOldest (IsGot r l load) = refl
acts_quiet h c (CallLock r) (IsLocked load) = refl
acts_quiet h c (CallUnlock r load) a = refl
acts_quiet h c (CallRelease r load) (IsReleased mask) = refl
acts_quiet h c (CallSteal r) (HasStolen load) = refl
acts_quiet h c (CallDequeue r) (IsFreed size) = refl
acts_quiet h c (CallDelete r) a = refl
acts_quiet h c call a = refl

-- a call that is served draws what it takes of the share
pub shares_of : (kind : Kind) (q : Queue) (h : ℕ) (call : Call) (answer : Answer) (n : ℕ) → rows_of_call call ≤ n → Means kind q h call answer → Shares answer n × (share_after call answer n ≡ n - rows_of_call call)
shares_of kind q h (CallPut slip load) (IsAt r d) n room means = (omega (arith, room), refl)
shares_of Listed q h (CallPut slip load) a n room means = absurd means
shares_of Sorted q h (CallPut slip load) a n room means = absurd means
shares_of LastValue q h (CallPut slip load) a n room means = absurd means
shares_of Listed q h call (IsAt r d) n room means = absurd means
shares_of Sorted q h call (IsAt r d) n room means = absurd means
shares_of LastValue q h call (IsAt r d) n room means = absurd means
shares_of Listed q h call (IsSpent b) n room means = absurd means
shares_of Sorted q h call (IsSpent b) n room means = absurd means
shares_of LastValue q h call (IsSpent b) n room means = absurd means
shares_of kind q h call a n room means = (tt, omega arith)

-- Rows never go

row_grows : (q : Queue) (h : ℕ) (a : Act) → length q.rows ≤ length (acted q h a).rows
row_grows q h (Acq r) = let e = alter_length (is_row r) (in_state (Locked h)) q.rows in omega (arith, e)
row_grows q h (Lock r) = let e = alter_length (is_row r) (in_state (Locked h)) q.rows in omega (arith, e)
row_grows q h (Unlock r n) = let e = alter_length (is_row r) (left_in (Unlocked h) n) q.rows in omega (arith, e)
row_grows q h (Steal r) = let e = alter_length (is_row r) (in_state (Locked h)) q.rows in omega (arith, e)
row_grows q h (Rel r n) = let e = alter_length (is_row r) (left_in Available n) q.rows in omega (arith, e)
row_grows q h (Deq r) = let e = alter_length (is_row r) (in_state Dequeued) q.rows in omega (arith, e)
row_grows q h (Del r) = let e = alter_length (is_row r) (in_state Deleted) q.rows in omega (arith, e)
row_grows q h (Reserve size) = omega arith
row_grows q h (GiveBack size) = omega arith
row_grows q h (Enq r slip content origin n) = omega (arith, length-append q.rows (record { number = r; slip = slip; state = Available; content = content; origin = origin; count = n } ∷ []))
row_grows q h (Bell r c) = omega arith
row_grows q h (Take c l) = omega arith

pub rows_grow : (q : Queue) (ds : List Deed) → length q.rows ≤ length (after q ds).rows
rows_grow q [] = omega arith
rows_grow q (d ∷ ds) = let a = row_grows q d.caller d.act in let b = rows_grow (acted q d.caller d.act) ds in omega (arith, a, b)
