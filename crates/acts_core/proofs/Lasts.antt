-- what a caller did last to a row
use Rattle.std.proofs.Common.{◌≡◌, ℕ, Bool, true, false, cond, Option, Some, None, List, [], ◌∷◌, ◌++◌, refl, ap, ◌∙◌, eq-eqb}
use Rattle.std.specs.List.{AllByRecursion}
use Rattle.queue_model.specs.declared.deeds.Act.{Act}
use Rattle.queue_model.specs.declared.deeds.Act.TheVariants.{Unlock, Deq, GiveBack}
use Rattle.queue_model.specs.declared.deeds.Deed.{Deed}
use Rattle.queue_model.specs.History.{own, deeds_of}
use Rattle.acts_core.specs.Load.{Load}
use Rattle.acts_core.specs.Asked.{touches, or_else, last_on, HasLeft, HasDequeued}
use Rattle.acts_core.specs.Calls.{Call, CallUnlock, CallDequeue, Answer, IsFreed, IsDone, acts_of}
use Rattle.acts_core.specs.Meaning.{Meets}
use Rattle.acts_core.specs.Sight.{Plan}

or_else-assoc : (a b c : Option Act) → or_else (or_else a b) c ≡ or_else a (or_else b c)
or_else-assoc None b c = refl
or_else-assoc (Some x) b c = refl

-- of two lists the second counts first
last_on-append : (r : ℕ) (xs ys : List Deed) → last_on r (xs ++ ys) ≡ or_else (last_on r ys) (last_on r xs)
last_on-append r [] ys = or_none (last_on r ys)
  where
    or_none : (a : Option Act) → a ≡ or_else a None
    or_none None = refl
    or_none (Some x) = refl
last_on-append r (x ∷ xs) ys =
    ap (λ (a : Option Act). or_else a (cond (touches r x.act) (Some x.act) None)) (last_on-append r xs ys)
    ∙ or_else-assoc (last_on r ys) (last_on r xs) (cond (touches r x.act) (Some x.act) None)

-- the last one touches the row
last_hit : (h r : ℕ) (a : Act) (more : List Act) (s0 s1 : List Deed) → own h s1 ≡ own h s0 ++ deeds_of h (a ∷ more) → last_on r (deeds_of h more) ≡ None → touches r a ≡ true → last_on r (own h s1) ≡ Some a
last_hit h r a more s0 s1 mine none hit =
    ap (last_on r) mine ∙ last_on-append r (own h s0) (deeds_of h (a ∷ more))
    ∙ ap (λ (o : Option Act). or_else (or_else o (cond (touches r a) (Some a) None)) (last_on r (own h s0))) none
    ∙ ap (λ (b : Bool). or_else (cond b (Some a) None) (last_on r (own h s0))) hit

-- a row that was dequeued is the caller's to delete
pub call_dequeues : (p : Plan) (h r size : ℕ) (s0 s1 : List Deed) → Meets p h s0 s1 (CallDequeue r) (IsFreed size) → HasDequeued h r s1
call_dequeues p h r size s0 s1 m = last_hit h r (Deq r) (GiveBack size ∷ []) s0 s1 m.own_acts refl (eq-eqb r r refl)

-- a row that was left is the caller's to lock
pub call_leaves : (p : Plan) (h r : ℕ) (load : Load) (s0 s1 : List Deed) → Meets p h s0 s1 (CallUnlock r load) IsDone → HasLeft h r s1
call_leaves p h r load s0 s1 m = (load.count, last_hit h r (Unlock r load.count) [] s0 s1 m.own_acts refl (eq-eqb r r refl))

-- acts that do not touch the row
last_none : (h r : ℕ) (acts : List Act) → AllByRecursion (λ a. touches r a ≡ false) acts → last_on r (deeds_of h acts) ≡ None
last_none h r [] none = refl
last_none h r (a ∷ acts) none =
    ap (λ (o : Option Act). or_else o (cond (touches r a) (Some a) None)) (last_none h r acts none.1)
    ∙ ap (λ (b : Bool). cond b (Some a) None) none.0

-- what was last stays so over a call that does not touch the row
pub call_passes : (p : Plan) (h r : ℕ) (s0 s1 : List Deed) (call : Call) (answer : Answer) → Meets p h s0 s1 call answer → AllByRecursion (λ a. touches r a ≡ false) (acts_of p call answer) → last_on r (own h s1) ≡ last_on r (own h s0)
call_passes p h r s0 s1 call answer m none =
    ap (last_on r) m.own_acts ∙ last_on-append r (own h s0) (deeds_of h (acts_of p call answer))
    ∙ ap (λ (o : Option Act). or_else o (last_on r (own h s0))) (last_none h r (acts_of p call answer) none)
