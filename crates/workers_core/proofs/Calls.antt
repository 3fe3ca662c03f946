-- what one call leaves of the hands
use Rattle.std.proofs.Common.{◌≡◌, ◌≤◌, ℕ, false, Option, Some, None, [], refl, sym, ap, ◌∙◌, subst, eq-eqb, arith}
use Rattle.std.specs.List.{AllByRecursion}
use Rattle.queue_model.specs.declared.queues.Queue.{Queue}
use Rattle.queue_model.specs.declared.rows.RowState.{RowState}
use Rattle.queue_model.specs.declared.rows.RowState.TheVariants.{Locked}
use Rattle.queue_model.specs.declared.rows.Slip.{Slip}
use Rattle.queue_model.specs.History.{after}
use Rattle.queue_model.specs.State.{row_at}
use Rattle.acts_core.specs.Asked.{HasLeft, touches}
use Rattle.acts_core.specs.Calls.{Call, CallLock, CallUnlock, Answer, IsDone, IsLocked, IsStolen, acts_of}
use Rattle.acts_core.specs.Hands.{Aims, InHand, Spares, gained}
use Rattle.acts_core.specs.Load.{Load}
use Rattle.acts_core.specs.Meaning.{Called, Meets}
use Rattle.acts_core.specs.Sight.{Build, Sight, known, plan_of}
use Rattle.acts_core.proofs.Forgetting.{forgets}
use Rattle.acts_core.proofs.Lasts.{call_passes}
use Rattle.acts_core.proofs.Passes.{pass_gains, pass_hands, pass_keeps, pass_leaves, pass_rows}
use Rattle.acts_core.proofs.Sparing.{call_spares}
use Rattle.line_core.specs.Hands.{Hand, hand}
use Rattle.workers_core.specs.Hold.{Keeps, Mine}
use Rattle.workers_core.specs.Lines.{LocksIt, LosesIt}
use Rattle.line_core.proofs.Running.{ran_call, ran_none}

module _ (build : Build) (old new : Sight) (call : Call) (answer : Answer) (m : Called build old new call answer) where
  -- the entry stays the caller's, if it stays in the hands
  mine_still : (k : Hand) → Mine old k → InHand new k.row k.cargo → Mine new k
  mine_still k mine stands =
      let t = pass_rows build old new call answer k.row mine.row m mine.found in
      record { row = t.0; found = t.1; same_id = ap (λ (s : Slip). s.id) t.2.slip ∙ mine.same_id; stands = stands }

  -- a call keeps the entries on other rows than it aims at
  pub keeps_call : (r : ℕ) → Aims r call answer → Keeps old new r
  keeps_call r aims k apart mine = mine_still k mine (pass_keeps build old new call answer r k.row k.cargo m aims apart mine.stands)

  met : Meets (plan_of build old.opening) old.caller old.seen new.seen call answer
  met = forgets (plan_of build old.opening) old new call answer m

  same_caller : new.caller ≡ old.caller
  same_caller = ap (λ (s : Sight). s.caller) m.rest

  known_then : after old.opening new.seen ≡ known new
  known_then = ap (λ (o : Queue). after o new.seen) (sym (ap (λ (s : Sight). s.opening) m.rest))

  -- what is in the hands stays there over a call that did nothing
  stands_idle : (k : ℕ) (cargo : Option Load) → acts_of (plan_of build old.opening) call answer ≡ [] → Spares k call → InHand old k cargo → InHand new k cargo
  stands_idle k None none spares left =
      let passed = call_passes (plan_of build old.opening) old.caller k old.seen new.seen call answer met (subst (AllByRecursion (λ a. touches k a ≡ false)) (sym none) tt) in
      subst (λ (h : ℕ). HasLeft h k new.seen) (sym same_caller) (left.0, passed ∙ left.1)
  stands_idle k (Some load) none spares handed = record {
    row = handed.row;
    found = subst (λ (q : Queue). row_at q k ≡ Some handed.row) known_then (call_spares (plan_of build old.opening) old.caller k handed.row old.seen new.seen call answer met spares handed.found handed.held);
    held = handed.held ∙ ap (λ (h : ℕ). Locked h) (sym same_caller);
    id = handed.id;
    size = handed.size;
    content = handed.content;
    origin = handed.origin;
    count = handed.count;
  }

  pub keeps_idle : (r : ℕ) → acts_of (plan_of build old.opening) call answer ≡ [] → ((k : ℕ) → Spares k call) → Keeps old new r
  keeps_idle r none spares k apart mine = mine_still k mine (stands_idle k.row k.cargo none (spares k.row) mine.stands)

  -- a row that a call gained is the caller's, with the cargo that was handed out, delivered more often perhaps
  pub gains_mine : (q r : ℕ) (load : Load) (n : ℕ) → gained call answer ≡ Some (r, load) → load.count ≤ n → Mine new (hand q r load.id (Some (record load { count = n })))
  gains_mine q r load n got more =
      let t = pass_gains build old new call answer r load m got in
      record {
        row = t.0.row;
        found = t.0.found;
        same_id = sym t.0.same.id;
        stands = pass_hands build old new call answer r load n m got more;
      }

pub keeps_none : (s : Sight) (r : ℕ) → Keeps s s r
keeps_none s r k apart mine = mine

pub keeps_then : (a b c : Sight) (r : ℕ) → Keeps a b r → Keeps b c r → Keeps a c r
keeps_then a b c r x y k apart mine = y k apart (x k apart mine)

-- a row that was locked again is the caller's, under the id that it had
pub locks_mine : (build : Build) (old new : Sight) (q r id : ℕ) (load : Load) → Called build old new (CallLock r) (IsLocked load) → Mine old (hand q r id None) → Mine new (hand q r id (Some load))
locks_mine build old new q r id load m mine =
    let t = pass_rows build old new (CallLock r) (IsLocked load) r mine.row m mine.found in
    record { row = t.0; found = t.1; same_id = ap (λ (s : Slip). s.id) t.2.slip ∙ mine.same_id; stands = pass_hands build old new (CallLock r) (IsLocked load) r load load.count m refl (omega arith) }

-- a row that was left is the caller's, under the id that it had
pub leaves_mine : (build : Build) (old new : Sight) (q r id : ℕ) (load : Load) → Called build old new (CallUnlock r load) IsDone → Mine old (hand q r id (Some load)) → Mine new (hand q r id None)
leaves_mine build old new q r id load m mine =
    let t = pass_rows build old new (CallUnlock r load) IsDone r mine.row m mine.found in
    record { row = t.0; found = t.1; same_id = ap (λ (s : Slip). s.id) t.2.slip ∙ mine.same_id; stands = pass_leaves build old new r load m }

-- Locking first

pub locks_some : (build : Build) (s : Sight) (q r id : ℕ) (cargo : Option Load) (load : Load) → cargo ≡ Some load → Mine s (hand q r id cargo) → LocksIt build q r id cargo load s s
locks_some build s q r id None load e mine = absurd (cc)
locks_some build s q r id (Some l) load e mine =
    let same : l ≡ load = cc in
    record {
      got = load;
      is_load = sym same;
      ran = ran_none build s;
      mine = subst (λ (z : Load). Mine s (hand q r id (Some z))) same mine;
      keeps = keeps_none s r;
    }

pub locks_none : (build : Build) (old new : Sight) (q r id : ℕ) (cargo : Option Load) (load : Load) → cargo ≡ None → Called build old new (CallLock r) (IsLocked load) → Mine old (hand q r id cargo) → LocksIt build q r id cargo load old new
locks_none build old new q r id (Some l) load e m mine = absurd (cc)
locks_none build old new q r id None load e m mine =
    record {
      got = load;
      is_load = refl;
      ran = rw (eq-eqb q q refl) (ran_call build old new (CallLock r) (IsLocked load) m);
      mine = locks_mine build old new q r id load m mine;
      keeps = keeps_call build old new (CallLock r) (IsLocked load) m r refl;
    }

pub loses_none : (build : Build) (old new : Sight) (q r : ℕ) (cargo : Option Load) (s : RowState) → cargo ≡ None → Called build old new (CallLock r) (IsStolen s) → LosesIt build q r cargo s old new
loses_none build old new q r cargo s e m =
    record { unlocked = e; ran = ran_call build old new (CallLock r) (IsStolen s) m; keeps = keeps_call build old new (CallLock r) (IsStolen s) m r refl }
