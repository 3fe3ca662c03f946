-- a call that aims at one row passes all others
use Rattle.std.proofs.Common.{◌≡◌, ◌≢◌, ℕ, zero, suc, ◌+◌, ◌-◌, ◌==◌, true, false, cond, Option, Some, None, [], ◌∷◌, refl, sym, ◌∙◌, ne_eqb}
use Rattle.std.specs.Int.{bit_at}
use Rattle.std.specs.List.{AllByRecursion}
use Rattle.queue_model.specs.declared.deeds.Act.{Act}
use Rattle.queue_model.specs.declared.deeds.Act.TheVariants.{Acq, Bell}
use Rattle.acts_core.specs.Asked.{touches}
use Rattle.acts_core.specs.Calls.{Call, CallReserve, CallGiveBack, CallPut, CallNext, CallOldest, CallLock, CallUnlock, CallRelease, CallSteal, CallDequeue, CallDelete, Answer, IsAt, IsGot, IsEmpty, IsLocked, IsReleased, HasStolen, IsFreed, acts_of, takes_down, rings_up, bells_taken, bells_rung, displacing}
use Rattle.acts_core.specs.Hands.{Spares, Aims, DisplacesOnly}
use Rattle.acts_core.specs.Load.{Load}
use Rattle.acts_core.specs.Sight.{Plan}
use Rattle.acts_core.proofs.Sparing.{all_append}

-- the act leaves the state of row r
abbrev Misses : ℕ → Act → Type 0
Misses r a = touches r a ≡ false

takes_miss : (r c l n : ℕ) → AllByRecursion (Misses r) (takes_down c l n)
takes_miss r c l zero = tt
takes_miss r c l (suc n) = (refl, takes_miss r c l n)

rings_miss : (s r mask c n : ℕ) → AllByRecursion (Misses s) (rings_up r mask c n)
rings_miss s r mask c zero = tt
rings_miss s r mask c (suc n) =
    let rest = rings_miss s r mask (c + 1) n in
    elim (bit_at mask c == 1) as (λ b. AllByRecursion (Misses s) (cond b (Bell r c ∷ rings_up r mask (c + 1) n) (rings_up r mask (c + 1) n))) [ true ↦ (refl, rest) | false ↦ rest ]

taken_miss : (p : Plan) (r c l : ℕ) → AllByRecursion (Misses r) (bells_taken p c l)
taken_miss p r c l = elim (p.bells) as (λ b. AllByRecursion (Misses r) (cond b (takes_down c l (p.opening.lists - l)) [])) [ true ↦ takes_miss r c l (p.opening.lists - l) | false ↦ tt ]

rung_miss : (p : Plan) (s r mask : ℕ) → AllByRecursion (Misses s) (bells_rung p r mask)
rung_miss p s r mask = elim (p.bells) as (λ b. AllByRecursion (Misses s) (cond b (rings_up r mask 0 p.opening.consumers) [])) [ true ↦ rings_miss s r mask 0 p.opening.consumers | false ↦ tt ]

other : (r k e : ℕ) → k ≢ r → e ≡ r → (e == k) ≡ false
other r k e apart same = ne_eqb e k (λ x. apart (sym x ∙ same))

displacing_miss : (r k : ℕ) (d : Option (ℕ × Load)) → k ≢ r → DisplacesOnly r d → AllByRecursion (Misses k) (displacing d)
displacing_miss r k None apart aims = tt
displacing_miss r k (Some d) apart aims = (other r k d.0 apart aims, tt)

-- the acts of a call that aims at row r leave the state of each other row
pub aims_miss : (p : Plan) (r k : ℕ) (call : Call) (answer : Answer) → k ≢ r → Aims r call answer → AllByRecursion (λ a. touches k a ≡ false) (acts_of p call answer)
aims_miss p r k (CallReserve size) a apart aims = (refl, tt)
aims_miss p r k (CallGiveBack size) a apart aims = (refl, tt)
aims_miss p r k (CallPut slip load) (IsAt e displaced) apart aims = (refl, displacing_miss r k displaced apart aims)
aims_miss p r k (CallNext c) (IsGot e l load) apart aims = all_append (Misses k) (bells_taken p c l) (Acq e ∷ []) (taken_miss p k c l) (other r k e apart aims, tt)
aims_miss p r k (CallNext c) IsEmpty apart aims = taken_miss p k c 0
aims_miss p r k CallOldest (IsGot e l load) apart aims = (other r k e apart aims, tt)
aims_miss p r k (CallLock e) (IsLocked load) apart aims = (other r k e apart aims, tt)
aims_miss p r k (CallUnlock e load) a apart aims = (other r k e apart aims, tt)
aims_miss p r k (CallRelease e load) (IsReleased mask) apart aims = (other r k e apart aims, rung_miss p k e mask)
aims_miss p r k (CallSteal e) (HasStolen load) apart aims = (other r k e apart aims, tt)
aims_miss p r k (CallDequeue e) (IsFreed size) apart aims = (other r k e apart aims, (refl, tt))
aims_miss p r k (CallDelete e) a apart aims = (other r k e apart aims, tt)
aims_miss p r k call a apart aims = tt

-- and it ends no lock of another row
pub aims_spare : (r k : ℕ) (call : Call) (answer : Answer) → k ≢ r → Aims r call answer → Spares k call
aims_spare r k (CallUnlock e load) a apart aims = λ x. apart (sym x ∙ aims)
aims_spare r k (CallRelease e load) a apart aims = λ x. apart (sym x ∙ aims)
aims_spare r k (CallDequeue e) a apart aims = λ x. apart (sym x ∙ aims)
aims_spare r k call a apart aims = tt
