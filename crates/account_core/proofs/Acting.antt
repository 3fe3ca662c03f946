-- what the acts of a call put, and which row they touch last
use Rattle.std.proofs.Common.{◌≡◌, ℕ, zero, suc, ◌+◌, ◌-◌, ◌==◌, Bool, true, false, cond, Option, Some, None, List, [], ◌∷◌, ◌++◌, map, refl, sym, ap, ◌∙◌, arith}
use Rattle.std.specs.Int.{bit_at}
use Rattle.std.specs.List.{AllByRecursion, count_by}
use Rattle.std.proofs.lemmas.List.Sums.{sum_by-append, sum_by-cons}
use Rattle.queue_model.specs.declared.deeds.Act.{Act}
use Rattle.queue_model.specs.declared.deeds.Act.TheVariants.{Acq, Lock, Unlock, Steal, Rel, Deq, Del, Enq, Bell, Take}
use Rattle.queue_model.specs.History.{deeds_of}
use Rattle.acts_core.specs.Asked.{touches, or_else, last_on}
use Rattle.acts_core.specs.Calls.{Call, CallReserve, CallGiveBack, CallPut, CallNext, CallOldest, CallLock, CallUnlock, CallRelease, CallSteal, CallDequeue, CallDelete, Answer, IsAt, IsGot, IsEmpty, IsLocked, IsReleased, HasStolen, IsFreed, acts_of, takes_down, rings_up, bells_taken, bells_rung}
use Rattle.acts_core.specs.Chains.{Made, acts_in}
use Rattle.acts_core.specs.Sight.{Plan}

-- Acts of many calls

-- the acts of calls, in order
abbrev pub acts_by : Plan → List (Call × Answer) → List Act
acts_by p [] = []
acts_by p (c ∷ cs) = acts_of p c.0 c.1 ++ acts_by p cs

-- the acts of calls that were made are those of the calls
pub acts_made : (p : Plan) (made : List Made) → acts_in p made ≡ acts_by p (map (λ m. (m.call, m.answer)) made)
acts_made p [] = refl
acts_made p (m ∷ made) = ap (λ (acts : List Act). acts_of p m.call m.answer ++ acts) (acts_made p made)

-- Bells

-- the act is about a bell
abbrev Rings : Act → Type 0
Rings (Bell r c) = Unit {0}
Rings (Take c l) = Unit {0}
Rings a = ⊥

-- the acts of a walk, and those of a release, are about bells
takes_ring : (c l n : ℕ) → AllByRecursion Rings (takes_down c l n)
takes_ring c l zero = tt
takes_ring c l (suc n) = (tt, takes_ring c l n)

bells_ring : (r mask c n : ℕ) → AllByRecursion Rings (rings_up r mask c n)
bells_ring r mask c zero = tt
bells_ring r mask c (suc n) =
    let rest = bells_ring r mask (c + 1) n in
    elim (bit_at mask c == 1) as (λ b. AllByRecursion Rings (cond b (Bell r c ∷ rings_up r mask (c + 1) n) (rings_up r mask (c + 1) n))) [ true ↦ (tt, rest) | false ↦ rest ]

taken_ring : (p : Plan) (c l : ℕ) → AllByRecursion Rings (bells_taken p c l)
taken_ring p c l = elim (p.bells) as (λ b. AllByRecursion Rings (cond b (takes_down c l (p.opening.lists - l)) [])) [ true ↦ takes_ring c l (p.opening.lists - l) | false ↦ tt ]

rung_ring : (p : Plan) (r mask : ℕ) → AllByRecursion Rings (bells_rung p r mask)
rung_ring p r mask = elim (p.bells) as (λ b. AllByRecursion Rings (cond b (rings_up r mask 0 p.opening.consumers) [])) [ true ↦ bells_ring r mask 0 p.opening.consumers | false ↦ tt ]

-- Puts

-- the act puts a message whose id passes
abbrev pub enters : (ℕ → Bool) → Act → Bool
enters test (Enq r slip content origin n) = test slip.id
enters test a = false

-- the call does
abbrev pub putting : (ℕ → Bool) → Call → Answer → Bool
putting test (CallPut slip load) (IsAt r displaced) = test slip.id
putting test call answer = false

-- counts of lists in parts
pub count_cons : {X : Type 0} (t : X → Bool) (x : X) (xs : List X) → count_by t (x ∷ xs) ≡ cond (t x) 1 0 + count_by t xs
count_cons t x xs = sum_by-cons (λ y. cond (t y) 1 0) x xs

pub count_append : {X : Type 0} (t : X → Bool) (xs ys : List X) → count_by t (xs ++ ys) ≡ count_by t xs + count_by t ys
count_append t xs ys = sum_by-append (λ y. cond (t y) 1 0) xs ys

-- none of them passes
pub count_none : {X : Type 0} (t : X → Bool) (xs : List X) → AllByRecursion (λ x. t x ≡ false) xs → count_by t xs ≡ 0
count_none t [] none = refl
count_none t (x ∷ xs) none =
    let here : ◌≡◌ {A = ℕ} (cond (t x) 1 0) 0 = ap (λ (b : Bool). cond b 1 0) none.0 in
    omega (arith, count_cons t x xs, here, count_none t xs none.1)

-- acts about bells put nothing
ring_enters : (test : ℕ → Bool) (a : Act) → Rings a → enters test a ≡ false
ring_enters test (Bell r c) rings = refl
ring_enters test (Take c l) rings = refl
ring_enters test a rings = absurd rings

rings_enter : (test : ℕ → Bool) (acts : List Act) → AllByRecursion Rings acts → count_by (enters test) acts ≡ 0
rings_enter test acts rings = count_none (enters test) acts (each acts rings) where
  each : (acts : List Act) → AllByRecursion Rings acts → AllByRecursion (λ a. enters test a ≡ false) acts
  each [] rings = tt
  each (a ∷ acts) rings = (ring_enters test a rings.0, each acts rings.1)

-- a call puts where the calls of its kind do
pub call_enters : (test : ℕ → Bool) (p : Plan) (call : Call) (answer : Answer) → count_by (enters test) (acts_of p call answer) ≡ cond (putting test call answer) 1 0
call_enters test p (CallReserve size) a = refl
call_enters test p (CallGiveBack size) a = refl
call_enters test p (CallPut slip load) (IsAt r None) = omega (arith, count_cons (enters test) (Enq r slip load.content load.origin load.count) [])
call_enters test p (CallPut slip load) (IsAt r (Some d)) = omega (arith, count_cons (enters test) (Enq r slip load.content load.origin load.count) (Acq d.0 ∷ []))
call_enters test p (CallNext c) (IsGot r l load) = omega (arith, count_append (enters test) (bells_taken p c l) (Acq r ∷ []), rings_enter test (bells_taken p c l) (taken_ring p c l))
call_enters test p (CallNext c) IsEmpty = rings_enter test (bells_taken p c 0) (taken_ring p c 0)
call_enters test p CallOldest (IsGot r l load) = refl
call_enters test p (CallLock r) (IsLocked load) = refl
call_enters test p (CallUnlock r load) a = refl
call_enters test p (CallRelease r load) (IsReleased mask) = omega (arith, count_cons (enters test) (Rel r load.count) (bells_rung p r mask), rings_enter test (bells_rung p r mask) (rung_ring p r mask))
call_enters test p (CallSteal r) (HasStolen load) = refl
call_enters test p (CallDequeue r) (IsFreed size) = refl
call_enters test p (CallDelete r) a = refl
call_enters test p call a = refl

-- Touches

-- the last act of a list that changes the state of row r
abbrev pub last_act : ℕ → List Act → Option Act
last_act r [] = None
last_act r (a ∷ acts) = or_else (last_act r acts) (cond (touches r a) (Some a) None)

-- the last act among deeds is the last of the acts
pub last_of_acts : (h r : ℕ) (acts : List Act) → last_on r (deeds_of h acts) ≡ last_act r acts
last_of_acts h r [] = refl
last_of_acts h r (a ∷ acts) = ap (λ (o : Option Act). or_else o (cond (touches r a) (Some a) None)) (last_of_acts h r acts)

-- two that stand for each other
pub or_none : (a : Option Act) → or_else a None ≡ a
or_none None = refl
or_none (Some x) = refl

pub or_assoc : (a b c : Option Act) → or_else (or_else a b) c ≡ or_else a (or_else b c)
or_assoc None b c = refl
or_assoc (Some x) b c = refl

-- of two lists the second counts first
pub last_act_append : (r : ℕ) (xs ys : List Act) → last_act r (xs ++ ys) ≡ or_else (last_act r ys) (last_act r xs)
last_act_append r [] ys = sym (or_none (last_act r ys))
last_act_append r (x ∷ xs) ys =
    ap (λ (a : Option Act). or_else a (cond (touches r x) (Some x) None)) (last_act_append r xs ys)
    ∙ or_assoc (last_act r ys) (last_act r xs) (cond (touches r x) (Some x) None)

-- the act, where it touches the row
abbrev pub on_row : ℕ → Option Act → Option Act
on_row r None = None
on_row r (Some a) = cond (touches r a) (Some a) None

-- the last act of a call that changes the state of a row, be the row which it may
abbrev pub touch : Call → Answer → Option Act
touch (CallPut slip load) (IsAt r (Some d)) = Some (Acq d.0)
touch (CallNext c) (IsGot r l load) = Some (Acq r)
touch CallOldest (IsGot r l load) = Some (Acq r)
touch (CallLock r) (IsLocked load) = Some (Lock r)
touch (CallUnlock r load) a = Some (Unlock r load.count)
touch (CallRelease r load) (IsReleased mask) = Some (Rel r load.count)
touch (CallSteal r) (HasStolen load) = Some (Steal r)
touch (CallDequeue r) (IsFreed size) = Some (Deq r)
touch (CallDelete r) a = Some (Del r)
touch call answer = None

-- acts about bells touch no row
ring_touches : (r : ℕ) (a : Act) → Rings a → touches r a ≡ false
ring_touches r (Bell s c) rings = refl
ring_touches r (Take c l) rings = refl
ring_touches r a rings = absurd rings

rings_touch : (r : ℕ) (acts : List Act) → AllByRecursion Rings acts → last_act r acts ≡ None
rings_touch r [] rings = refl
rings_touch r (a ∷ acts) rings =
    ap (λ (o : Option Act). or_else o (cond (touches r a) (Some a) None)) (rings_touch r acts rings.1)
    ∙ ap (λ (b : Bool). cond b (Some a) None) (ring_touches r a rings.0)

-- what a call does last to a row
pub call_touches : (p : Plan) (r : ℕ) (call : Call) (answer : Answer) → last_act r (acts_of p call answer) ≡ on_row r (touch call answer)
call_touches p r (CallReserve size) a = refl
call_touches p r (CallGiveBack size) a = refl
call_touches p r (CallPut slip load) (IsAt e None) = refl
call_touches p r (CallPut slip load) (IsAt e (Some d)) = or_none (cond (d.0 == r) (Some (Acq d.0)) None)
call_touches p r (CallNext c) (IsGot e l load) =
    last_act_append r (bells_taken p c l) (Acq e ∷ [])
    ∙ ap (λ (o : Option Act). or_else (cond (e == r) (Some (Acq e)) None) o) (rings_touch r (bells_taken p c l) (taken_ring p c l))
    ∙ or_none (cond (e == r) (Some (Acq e)) None)
call_touches p r (CallNext c) IsEmpty = rings_touch r (bells_taken p c 0) (taken_ring p c 0)
call_touches p r CallOldest (IsGot e l load) = refl
call_touches p r (CallLock e) (IsLocked load) = refl
call_touches p r (CallUnlock e load) a = refl
call_touches p r (CallRelease e load) (IsReleased mask) =
    ap (λ (o : Option Act). or_else o (cond (e == r) (Some (Rel e load.count)) None)) (rings_touch r (bells_rung p e mask) (rung_ring p e mask))
call_touches p r (CallSteal e) (HasStolen load) = refl
call_touches p r (CallDequeue e) (IsFreed size) = refl
call_touches p r (CallDelete e) a = refl
call_touches p r call a = refl
