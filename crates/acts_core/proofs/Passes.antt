-- what a call on a pass leaves, and what its caller has then
use Rattle.std.proofs.Common.{◌≡◌, ◌≢◌, ◌≤◌, ℕ, Option, Some, None, sym, ap, ◌∙◌, subst, arith}
use Rattle.queue_model.specs.declared.queues.Depth.{Depth}
use Rattle.queue_model.specs.declared.queues.Queue.{Queue}
use Rattle.queue_model.specs.declared.rows.Row.{Row}
use Rattle.queue_model.specs.declared.rows.RowState.TheVariants.{Locked}
use Rattle.queue_model.specs.History.{after}
use Rattle.queue_model.specs.Laws.{SameGoods}
use Rattle.queue_model.specs.Sound.{IsOpening}
use Rattle.queue_model.specs.State.{row_at, IsIn, reserved_by}
use Rattle.queue_model.specs.Table.{CanGive}
use Rattle.acts_core.specs.Asked.{HasLeft, HasDequeued, Handed}
use Rattle.acts_core.specs.Calls.{Call, CallReserve, CallFind, CallUnlock, CallDequeue, Answer, IsDepth, IsFound, IsFreed, IsDone}
use Rattle.acts_core.specs.Hands.{Holds, InHand, Aims, gained, reserved_after, SamePass}
use Rattle.acts_core.specs.Load.{Load}
use Rattle.acts_core.specs.Meaning.{MeetsSight, Called}
use Rattle.acts_core.specs.Sight.{Build, plan_of, Plan, Sight, known}
use Rattle.acts_core.proofs.Aiming.{aims_miss, aims_spare}
use Rattle.acts_core.proofs.Finding.{call_rows, call_finds}
use Rattle.acts_core.proofs.Forgetting.{forgets}
use Rattle.acts_core.proofs.Gaining.{call_gains}
use Rattle.acts_core.proofs.Lasts.{call_dequeues, call_leaves, call_passes}
use Rattle.acts_core.proofs.Reserving.{call_reserved, call_reserves}
use Rattle.acts_core.proofs.Sparing.{call_spares}

-- what a call leaves of its pass
pub same_pass : (p : Plan) (old new : Sight) (call : Call) (answer : Answer) → MeetsSight p old new call answer → SamePass old new
same_pass p old new call answer m = record {
  opening = ap (λ (s : Sight). s.opening) m.rest;
  caller = ap (λ (s : Sight). s.caller) m.rest;
  consumers = ap (λ (s : Sight). s.consumers) m.rest;
  ended = ap (λ (s : Sight). s.ended) m.rest;
  made = ap (λ (s : Sight). s.made) m.rest;
}

-- the plan of a pass's queue is the same after a call
pub same_plan : (build : Build) (old new : Sight) (call : Call) (answer : Answer) → Called build old new call answer → plan_of build new.opening ≡ plan_of build old.opening
same_plan build old new call answer m = ap (plan_of build) (same_pass (plan_of build old.opening) old new call answer m).opening

-- from the opening that the pass had to the one that it has, and likewise the caller
renewed : (P : Queue → ℕ → Type 0) (old new : Sight) → SamePass old new → P old.opening old.caller → P new.opening new.caller
renewed P old new same x =
    subst (λ (o : Queue). P o new.caller) (sym same.opening) (subst (λ (h : ℕ). P old.opening h) (sym same.caller) x)

-- a row that the call gained is the caller's, as it was handed out, and none that it held before
pub pass_gains : (build : Build) (old new : Sight) (call : Call) (answer : Answer) (r : ℕ) (load : Load) → Called build old new call answer → gained call answer ≡ Some (r, load)
    → Holds (known new) new.caller r load × ((e : ℕ) → IsIn (known old) e (Locked old.caller) → e ≢ r)
pass_gains build old new call answer r load m got =
    let p = plan_of build old.opening in
    let t = call_gains p old.caller old.seen new.seen call answer r load (forgets p old new call answer m) got in
    (renewed (λ (o : Queue) (h : ℕ). Holds (after o new.seen) h r load) old new (same_pass p old new call answer m) t.0, t.1)

-- and it is in the caller's hands, with a count of its deliveries that may have risen since
pub pass_hands : (build : Build) (old new : Sight) (call : Call) (answer : Answer) (r : ℕ) (load : Load) (n : ℕ) → Called build old new call answer → gained call answer ≡ Some (r, load) → load.count ≤ n
    → InHand new r (Some (record load { count = n }))
pass_hands build old new call answer r load n m got more =
    let t = (pass_gains build old new call answer r load m got).0 in
    record { row = t.row; found = t.found; held = t.held; id = t.same.id; size = t.same.size; content = t.same.content; origin = t.same.origin; count = omega (arith, t.same.count, more) }

-- a row that was left is in the caller's hands
pub pass_leaves : (build : Build) (old new : Sight) (r : ℕ) (load : Load) → Called build old new (CallUnlock r load) IsDone → InHand new r None
pass_leaves build old new r load m =
    let p = plan_of build old.opening in
    subst (λ (h : ℕ). HasLeft h r new.seen) (sym (same_pass p old new (CallUnlock r load) IsDone m).caller)
    (call_leaves p old.caller r load old.seen new.seen (forgets p old new (CallUnlock r load) IsDone m))

-- a row that was dequeued is the caller's to delete
pub pass_dequeues : (build : Build) (old new : Sight) (r size : ℕ) → Called build old new (CallDequeue r) (IsFreed size) → HasDequeued new.caller r new.seen
pass_dequeues build old new r size m =
    let p = plan_of build old.opening in
    subst (λ (h : ℕ). HasDequeued h r new.seen) (sym (same_pass p old new (CallDequeue r) (IsFreed size) m).caller)
    (call_dequeues p old.caller r size old.seen new.seen (forgets p old new (CallDequeue r) (IsFreed size) m))

-- a call that aims at no more than one row keeps every other hand
pub pass_keeps : (build : Build) (old new : Sight) (call : Call) (answer : Answer) (r k : ℕ) (cargo : Option Load) → Called build old new call answer → Aims r call answer → k ≢ r → InHand old k cargo → InHand new k cargo
pass_keeps build old new call answer r k None m aims apart left =
    let p = plan_of build old.opening in
    let passed = call_passes p old.caller k old.seen new.seen call answer (forgets p old new call answer m) (aims_miss p r k call answer apart aims) in
    subst (λ (h : ℕ). HasLeft h k new.seen) (sym (same_pass p old new call answer m).caller) (left.0, passed ∙ left.1)
pass_keeps build old new call answer r k (Some load) m aims apart handed =
    let p = plan_of build old.opening in
    let found = call_spares p old.caller k handed.row old.seen new.seen call answer (forgets p old new call answer m) (aims_spare r k call answer apart aims) handed.found handed.held in
    renewed (λ (o : Queue) (h : ℕ). Handed (after o new.seen) h k load) old new (same_pass p old new call answer m)
    (record { row = handed.row; found = found; held = handed.held; id = handed.id; size = handed.size; content = handed.content; origin = handed.origin; count = handed.count })

-- a row once there stays, with its goods
pub pass_rows : (build : Build) (old new : Sight) (call : Call) (answer : Answer) (r : ℕ) (x : Row) → Called build old new call answer → row_at (known old) r ≡ Some x → (y : Row) × (row_at (known new) r ≡ Some y) × SameGoods x y
pass_rows build old new call answer r x m found =
    let p = plan_of build old.opening in
    renewed (λ (o : Queue) (h : ℕ). (y : Row) × (row_at (after o new.seen) r ≡ Some y) × SameGoods x y) old new (same_pass p old new call answer m)
    (call_rows p old.caller old.seen new.seen call answer r x (forgets p old new call answer m) found)

-- what find found is a row of that id
pub pass_finds : (build : Build) (old new : Sight) (id r : ℕ) → Called build old new (CallFind id) (IsFound (Some r)) → (x : Row) × (row_at (known new) r ≡ Some x) × (x.slip.id ≡ id)
pass_finds build old new id r m =
    let p = plan_of build old.opening in
    renewed (λ (o : Queue) (h : ℕ). (x : Row) × (row_at (after o new.seen) r ≡ Some x) × (x.slip.id ≡ id)) old new (same_pass p old new (CallFind id) (IsFound (Some r)) m)
    (call_finds p old.caller id r old.seen new.seen (forgets p old new (CallFind id) (IsFound (Some r)) m))

-- what the caller has reserved is what it had, changed by that call and answer alone
pub pass_reserved : (build : Build) (old new : Sight) (call : Call) (answer : Answer) → IsOpening old.opening → Called build old new call answer → reserved_by (known new) new.caller ≡ reserved_after call answer (reserved_by (known old) old.caller)
pass_reserved build old new call answer opening m =
    let p = plan_of build old.opening in
    renewed (λ (o : Queue) (h : ℕ). reserved_by (after o new.seen) h ≡ reserved_after call answer (reserved_by (known old) old.caller)) old new (same_pass p old new call answer m)
    (call_reserved p old.caller old.seen new.seen call answer opening (forgets p old new call answer m))

-- what was reserved can be put, or given back
pub pass_reserves : (build : Build) (old new : Sight) (size : ℕ) (d : Depth) → IsOpening old.opening → Called build old new (CallReserve size) (IsDepth d) → CanGive (reserved_by (known new) new.caller) size
pass_reserves build old new size d opening m =
    let p = plan_of build old.opening in
    renewed (λ (o : Queue) (h : ℕ). CanGive (reserved_by (after o new.seen) h) size) old new (same_pass p old new (CallReserve size) (IsDepth d) m)
    (call_reserves p old.caller size old.seen new.seen d opening (forgets p old new (CallReserve size) (IsDepth d) m))
