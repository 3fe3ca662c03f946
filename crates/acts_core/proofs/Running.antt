-- the calls of one pass, one after the other
use Rattle.std.proofs.Common.{◌≡◌, ◌≢◌, ℕ, suc, arith, Some, List, [], ◌∷◌, ◌++◌, refl, sym, ap, ap₂, ◌∙◌, subst}
use Rattle.std.proofs.lemmas.List.{map-append}
use Rattle.queue_model.specs.declared.deeds.Act.{Act}
use Rattle.queue_model.specs.declared.deeds.Act.TheVariants.{Acq, Lock, Unlock, Steal, Rel, Deq, Del, Reserve, GiveBack, Enq, Bell, Take}
use Rattle.queue_model.specs.declared.deeds.Deed.{Deed}
use Rattle.queue_model.specs.declared.queues.Depth.{Depth}
use Rattle.queue_model.specs.declared.queues.Queue.{Queue}
use Rattle.queue_model.specs.declared.rows.RowState.TheVariants.{Locked}
use Rattle.queue_model.specs.declared.rows.Slip.{Slip}
use Rattle.queue_model.specs.History.{after}
use Rattle.queue_model.specs.Sound.{IsOpening}
use Rattle.queue_model.specs.State.{IsIn}
use Rattle.queue_model.specs.Table.{acted, FitsQueue}
use Rattle.acts_core.specs.Asked.{KeyFits, MayPut}
use Rattle.acts_core.specs.Calls.{Call, CallReserve, CallPut, CallNext, CallUnlock, CallDequeue, CallDelete, Answer, IsDepth, IsGot, IsEmpty, IsFreed, IsDone}
use Rattle.acts_core.specs.Chains.{Made, Chain}
use Rattle.acts_core.specs.Hands.{InHand}
use Rattle.acts_core.specs.Load.{Load}
use Rattle.acts_core.specs.Meaning.{Called, allowance_after, share_after}
use Rattle.acts_core.specs.Runs.{Ran, allowance_over, share_over, PutsIn, TakesOut, LeavesTwo}
use Rattle.acts_core.specs.Sight.{Build, plan_of, Sight, known}
use Rattle.acts_core.proofs.Chaining.{quiet_self, chain_one, chain_append}
use Rattle.acts_core.proofs.Forgetting.{forgets}
use Rattle.acts_core.proofs.Passes.{same_pass, pass_gains, pass_hands, pass_keeps, pass_reserves}

-- no call at all
pub ran_none : (build : Build) (s : Sight) → Ran build s s []
ran_none build s = record {
  made = [];
  same = refl;
  chain = quiet_self s.caller s.seen;
  pass = record { opening = refl; caller = refl; consumers = refl; ended = refl; made = refl };
  allowance = refl;
  share = refl;
}

-- one call
pub ran_one : (build : Build) (old new : Sight) (call : Call) (answer : Answer) → Called build old new call answer → Ran build old new ((call, answer) ∷ [])
ran_one build old new call answer m =
    let p = plan_of build old.opening in
    let one : Made = record { call = call; answer = answer; before = old.seen; later = new.seen } in
    record {
      made = one ∷ [];
      same = refl;
      chain = chain_one p old.caller one (forgets p old new call answer m);
      pass = same_pass p old new call answer m;
      allowance = ap (λ (s : Sight). s.allowance) m.rest;
      share = ap (λ (s : Sight). s.share) m.rest;
    }

allowance-append : (cs ds : List (Call × Answer)) (n : ℕ) → allowance_over (cs ++ ds) n ≡ allowance_over ds (allowance_over cs n)
allowance-append [] ds n = refl
allowance-append (c ∷ cs) ds n = allowance-append cs ds (allowance_after c.0 n)

share-append : (cs ds : List (Call × Answer)) (n : ℕ) → share_over (cs ++ ds) n ≡ share_over ds (share_over cs n)
share-append [] ds n = refl
share-append (c ∷ cs) ds n = share-append cs ds (share_after c.0 c.1 n)

-- calls, and then others
pub ran_append : (build : Build) (a b c : Sight) (cs ds : List (Call × Answer)) → Ran build a b cs → Ran build b c ds → Ran build a c (cs ++ ds)
ran_append build a b c cs ds x y =
    let chain : Chain (plan_of build a.opening) a.caller b.seen y.made c.seen =
    subst (λ (o : Queue). Chain (plan_of build o) a.caller b.seen y.made c.seen) x.pass.opening
    (subst (λ (h : ℕ). Chain (plan_of build b.opening) h b.seen y.made c.seen) x.pass.caller y.chain)
    in
    record {
      made = x.made ++ y.made;
      same = map-append (λ (m : Made). (m.call, m.answer)) x.made y.made ∙ ap₂ (λ (l r : List (Call × Answer)). l ++ r) x.same y.same;
      chain = chain_append (plan_of build a.opening) a.caller a.seen x.made b.seen y.made c.seen x.chain chain;
      pass = record {
        opening = y.pass.opening ∙ x.pass.opening;
        caller = y.pass.caller ∙ x.pass.caller;
        consumers = y.pass.consumers ∙ x.pass.consumers;
        ended = y.pass.ended ∙ x.pass.ended;
        made = y.pass.made ∙ x.pass.made;
      };
      allowance = y.allowance ∙ ap (allowance_over ds) x.allowance ∙ sym (allowance-append cs ds a.allowance);
      share = y.share ∙ ap (share_over ds) x.share ∙ sym (share-append cs ds a.share);
    }

-- one call more in front
pub ran_then : (build : Build) (a b c : Sight) (call : Call) (answer : Answer) (cs : List (Call × Answer)) → Called build a b call answer → Ran build b c cs → Ran build a c ((call, answer) ∷ cs)
ran_then build a b c call answer cs m r = ran_append build a b c ((call, answer) ∷ []) cs (ran_one build a b call answer m) r

-- Clients

-- lists and consumers of a queue never change
same_lists : (q : Queue) (h : ℕ) (a : Act) → ((acted q h a).lists ≡ q.lists) × ((acted q h a).consumers ≡ q.consumers)
same_lists q h (Acq r) = (refl, refl)
same_lists q h (Lock r) = (refl, refl)
same_lists q h (Unlock r n) = (refl, refl)
same_lists q h (Steal r) = (refl, refl)
same_lists q h (Rel r n) = (refl, refl)
same_lists q h (Deq r) = (refl, refl)
same_lists q h (Del r) = (refl, refl)
same_lists q h (Reserve size) = (refl, refl)
same_lists q h (GiveBack size) = (refl, refl)
same_lists q h (Enq r slip content origin n) = (refl, refl)
same_lists q h (Bell r c) = (refl, refl)
same_lists q h (Take c l) = (refl, refl)

pub lists_stay : (q : Queue) (ds : List Deed) → ((after q ds).lists ≡ q.lists) × ((after q ds).consumers ≡ q.consumers)
lists_stay q [] = (refl, refl)
lists_stay q (d ∷ ds) =
    let rest = lists_stay (acted q d.caller d.act) ds in
    let step = same_lists q d.caller d.act in
    (rest.0 ∙ step.0, rest.1 ∙ step.1)

-- and so those of the queue that a pass knows
pub known_lists : (build : Build) (a b : Sight) (call : Call) (answer : Answer) → Called build a b call answer → ((known b).lists ≡ (known a).lists) × ((known b).consumers ≡ (known a).consumers)
known_lists build a b call answer m =
    let same : b.opening ≡ a.opening = (same_pass (plan_of build a.opening) a b call answer m).opening in
    let new = lists_stay b.opening b.seen in
    let old = lists_stay a.opening a.seen in
    (new.0 ∙ ap (λ (q : Queue). q.lists) same ∙ sym old.0, new.1 ∙ ap (λ (q : Queue). q.consumers) same ∙ sym old.1)

-- what was reserved may be put
pub put_may : (build : Build) (a b : Sight) (slip : Slip) (load : Load) (d : Depth) → IsOpening a.opening → Called build a b (CallReserve slip.size) (IsDepth d) → FitsQueue (known a).lists (known a).consumers slip → KeyFits build.kind slip.key → slip.id ≡ load.id → slip.size ≡ load.size
    → MayPut build.kind (known b) b.caller slip load
put_may build a b slip load d opening m fits key id size =
    let same = known_lists build a b (CallReserve slip.size) (IsDepth d) m in
    let fits_now : FitsQueue (known b).lists (known b).consumers slip =
    subst (λ (n : ℕ). FitsQueue n (known b).consumers slip) (sym same.0) (subst (λ (n : ℕ). FitsQueue (known a).lists n slip) (sym same.1) fits)
    in
    record {
      enters = record { fits = fits_now; reserved = pass_reserves build a b slip.size d opening m; id = id; size = size };
      key = key;
    }

pub puts_in : (build : Build) (a b c : Sight) (slip : Slip) (load : Load) (d : Depth) (answer : Answer) → Called build a b (CallReserve slip.size) (IsDepth d) → Called build b c (CallPut slip load) answer → PutsIn build a c slip load answer
puts_in build a b c slip load d answer reserve put =
    (d, ran_then build a b c (CallReserve slip.size) (IsDepth d) ((CallPut slip load, answer) ∷ []) reserve (ran_one build b c (CallPut slip load) answer put))

-- a row that was got is held
pub got_held : (build : Build) (a b : Sight) (c r l : ℕ) (load : Load) → Called build a b (CallNext c) (IsGot r l load) → IsIn (known b) r (Locked b.caller)
got_held build a b c r l load m =
    let t = (pass_gains build a b (CallNext c) (IsGot r l load) r load m refl).0 in
    (t.row, t.found, t.held)

pub takes_out : (build : Build) (a b d e : Sight) (c r l size id : ℕ) (load : Load) → load.id ≡ id → Called build a b (CallNext c) (IsGot r l load) → Called build b d (CallDequeue r) (IsFreed size) → Called build d e (CallDelete r) IsDone
    → TakesOut build a e c (Some id)
takes_out build a b d e c r l size id load same next dequeue delete = (
  r,
  l,
  load,
  size,
  same,
  ran_then build a b e (CallNext c) (IsGot r l load) ((CallDequeue r, IsFreed size) ∷ (CallDelete r, IsDone) ∷ []) next
      (ran_then build b d e (CallDequeue r) (IsFreed size) ((CallDelete r, IsDone) ∷ []) dequeue (ran_one build d e (CallDelete r) IsDone delete)),
)

-- a row that was got is in hand
pub got_hand : (build : Build) (a b : Sight) (c r l : ℕ) (load : Load) → Called build a b (CallNext c) (IsGot r l load) → InHand b r (Some load)
got_hand build a b c r l load m = pass_hands build a b (CallNext c) (IsGot r l load) r load load.count m refl (omega arith)

-- a second one is another
pub got_other : (build : Build) (a b d : Sight) (c r l s m : ℕ) (load other : Load) → Called build a b (CallNext c) (IsGot r l load) → Called build b d (CallNext c) (IsGot s m other) → r ≢ s
got_other build a b d c r l s m load other first second =
    (pass_gains build b d (CallNext c) (IsGot s m other) s other second refl).1 r (got_held build a b c r l load first)

-- and the first one is in hand still, after it was got and after it was left
pub first_hand : (build : Build) (a b d : Sight) (c r l s m : ℕ) (load other : Load) → Called build a b (CallNext c) (IsGot r l load) → Called build b d (CallNext c) (IsGot s m other) → InHand d r (Some load)
first_hand build a b d c r l s m load other first second =
    pass_keeps build b d (CallNext c) (IsGot s m other) s r (Some load) second refl (got_other build a b d c r l s m load other first second) (got_hand build a b c r l load first)

pub hand_left : (build : Build) (a b d e : Sight) (c r l s m : ℕ) (load other : Load) → Called build a b (CallNext c) (IsGot r l load) → Called build b d (CallNext c) (IsGot s m other) → Called build d e (CallUnlock s other) IsDone → InHand e r (Some load)
hand_left build a b d e c r l s m load other first second left =
    pass_keeps build d e (CallUnlock s other) IsDone s r (Some load) left refl (got_other build a b d c r l s m load other first second) (first_hand build a b d c r l s m load other first second)

-- and where there was no second one
pub one_hand : (build : Build) (a b d : Sight) (c r l : ℕ) (load : Load) → Called build a b (CallNext c) (IsGot r l load) → Called build b d (CallNext c) IsEmpty → InHand d r (Some load)
one_hand build a b d c r l load first second =
    pass_keeps build b d (CallNext c) IsEmpty (suc r) r (Some load) second tt (λ e. omega (arith, e)) (got_hand build a b c r l load first)

pub leaves_one : (build : Build) (a b d e : Sight) (c r l : ℕ) (load : Load) → Called build a b (CallNext c) (IsGot r l load) → Called build b d (CallNext c) IsEmpty → Called build d e (CallUnlock r load) IsDone → LeavesTwo build a e c 1
leaves_one build a b d e c r l load first second left = (
  r,
  l,
  load,
  ran_then build a b e (CallNext c) (IsGot r l load) ((CallNext c, IsEmpty) ∷ (CallUnlock r load, IsDone) ∷ []) first
      (ran_then build b d e (CallNext c) IsEmpty ((CallUnlock r load, IsDone) ∷ []) second (ran_one build d e (CallUnlock r load) IsDone left)),
)

pub leaves_two : (build : Build) (a b d e f : Sight) (c r l s m : ℕ) (load other : Load) → Called build a b (CallNext c) (IsGot r l load) → Called build b d (CallNext c) (IsGot s m other) → Called build d e (CallUnlock s other) IsDone → Called build e f (CallUnlock r load) IsDone
    → LeavesTwo build a f c 2
leaves_two build a b d e f c r l s m load other first second third last = (
  r,
  l,
  load,
  s,
  m,
  other,
  λ e. got_other build a b d c r l s m load other first second (sym e),
  ran_then build a b f (CallNext c) (IsGot r l load) ((CallNext c, IsGot s m other) ∷ (CallUnlock s other, IsDone) ∷ (CallUnlock r load, IsDone) ∷ []) first
      (ran_then build b d f (CallNext c) (IsGot s m other) ((CallUnlock s other, IsDone) ∷ (CallUnlock r load, IsDone) ∷ []) second
      (ran_then build d e f (CallUnlock s other) IsDone ((CallUnlock r load, IsDone) ∷ []) third (ran_one build e f (CallUnlock r load) IsDone last))),
)
