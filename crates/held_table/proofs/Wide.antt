-- a state and the same with 64 consumers
use Rattle.std.proofs.Common.{true, ◌≡◌, ℕ, Option, Some, None, List, [], ◌∷◌, refl, sym, ap, ◌∙◌, subst}
use Rattle.std.specs.List.{AllByRecursion}
use Rattle.queue_model.specs.declared.deeds.Act.{Act}
use Rattle.queue_model.specs.declared.deeds.Act.TheVariants.{Acq, Lock, Unlock, Steal, Rel, Deq, Del, Reserve, GiveBack, Enq, Bell, Take}
use Rattle.queue_model.specs.declared.deeds.Deed.{Deed}
use Rattle.queue_model.specs.declared.queues.Queue.{Queue}
use Rattle.queue_model.specs.declared.rows.Row.{Row}
use Rattle.queue_model.specs.declared.rows.RowState.TheVariants.{Available}
use Rattle.queue_model.specs.History.{after, Legal, deeds_of}
use Rattle.queue_model.specs.Order.{Order, ByList, ByKey, ByArrival, Precedes, IsOlder}
use Rattle.queue_model.specs.Table.{Can, acted, FitsQueue}
use Rattle.acts_core.specs.Calls.{Call, CallDepth, CallReserve, CallGiveBack, CallPut, CallNext, CallOldest, CallFind, CallLock, CallUnlock, CallRelease, CallSteal, CallDequeue, CallDelete, Answer, IsDepth, IsAt, IsGot, IsEmpty, IsFound, IsLocked, IsStolen, IsReleased, IsOutdated, HasStolen, IsNotStealable, IsFreed, IsDone, displacing}
use Rattle.acts_core.specs.Held.{First, Means, IsOutdatedIn}
use Rattle.acts_core.specs.Load.{Load}
use Rattle.acts_core.specs.Moments.{HandsOut}
use Rattle.acts_core.specs.Owed.{is_free}
use Rattle.acts_core.specs.Serves.{held_acts}
use Rattle.acts_core.specs.Sight.{Kind, Sorted, LastValue, order_of}
use Rattle.held_table.specs.Tales.{wide}

-- Acts

-- a step does the same to both
pub acted_wide : (q : Queue) (h : ℕ) (a : Act) → acted (wide q) h a ≡ wide (acted q h a)
acted_wide q h (Acq r) = refl
acted_wide q h (Lock r) = refl
acted_wide q h (Unlock r n) = refl
acted_wide q h (Steal r) = refl
acted_wide q h (Rel r n) = refl
acted_wide q h (Deq r) = refl
acted_wide q h (Del r) = refl
acted_wide q h (Reserve size) = refl
acted_wide q h (GiveBack size) = refl
acted_wide q h (Enq r slip content origin n) = refl
acted_wide q h (Bell r c) = refl
acted_wide q h (Take c l) = refl

-- and so do many
pub after_wide : (q : Queue) (ds : List Deed) → after (wide q) ds ≡ wide (after q ds)
after_wide q [] = refl
after_wide q (d ∷ ds) = ap (λ (z : Queue). after z ds) (acted_wide q d.caller d.act) ∙ after_wide (acted q d.caller d.act) ds

-- the act is one of a held queue of so many lists and consumers: the slip of a new row fits, and no bell is rung or taken
abbrev pub Fits : ℕ → ℕ → Act → Type 0
Fits lists consumers (Enq r slip content origin n) = FitsQueue lists consumers slip
Fits lists consumers (Bell r c) = ⊥
Fits lists consumers (Take c l) = ⊥
Fits lists consumers a = Unit {0}

can_narrow : (q : Queue) (h : ℕ) (a : Act) → Fits q.lists q.consumers a → Can (wide q) h a → Can q h a
can_narrow q h (Acq r) fits can = can
can_narrow q h (Lock r) fits can = can
can_narrow q h (Unlock r n) fits can = can
can_narrow q h (Steal r) fits can = can
can_narrow q h (Rel r n) fits can = can
can_narrow q h (Deq r) fits can = can
can_narrow q h (Del r) fits can = can
can_narrow q h (Reserve size) fits can = can
can_narrow q h (GiveBack size) fits can = can
can_narrow q h (Enq r slip content origin n) fits can = record { new = can.new; fits = fits; reserved = can.reserved }
can_narrow q h (Bell r c) fits can = absurd fits
can_narrow q h (Take c l) fits can = absurd fits

sizes_stay : (q : Queue) (h : ℕ) (a : Act) → ((acted q h a).lists ≡ q.lists) × ((acted q h a).consumers ≡ q.consumers)
sizes_stay q h (Acq r) = (refl, refl)
sizes_stay q h (Lock r) = (refl, refl)
sizes_stay q h (Unlock r n) = (refl, refl)
sizes_stay q h (Steal r) = (refl, refl)
sizes_stay q h (Rel r n) = (refl, refl)
sizes_stay q h (Deq r) = (refl, refl)
sizes_stay q h (Del r) = (refl, refl)
sizes_stay q h (Reserve size) = (refl, refl)
sizes_stay q h (GiveBack size) = (refl, refl)
sizes_stay q h (Enq r slip content origin n) = (refl, refl)
sizes_stay q h (Bell r c) = (refl, refl)
sizes_stay q h (Take c l) = (refl, refl)

-- acts that fit are legal in the one where they are in the other
pub legal_narrow : (q : Queue) (h : ℕ) (acts : List Act) → AllByRecursion (Fits q.lists q.consumers) acts → Legal (wide q) (deeds_of h acts) → Legal q (deeds_of h acts)
legal_narrow q h [] fits legal = tt
legal_narrow q h (a ∷ acts) fits legal =
    let same = sizes_stay q h a in (
      can_narrow q h a fits.0 legal.0,
      legal_narrow (acted q h a) h acts
          (subst (λ (n : ℕ × ℕ). AllByRecursion (Fits n.0 n.1) acts) (λ i. (sym same.0 i, sym same.1 i)) fits.1)
          (subst (λ (z : Queue). Legal z (deeds_of h acts)) (acted_wide q h a) legal.1),
    )

displacing_fits : (lists consumers : ℕ) (d : Option (ℕ × Load)) → AllByRecursion (Fits lists consumers) (displacing d)
displacing_fits lists consumers None = tt
displacing_fits lists consumers (Some d) = (tt, tt)

-- the slip of a put fits
abbrev pub PutFits : ℕ → ℕ → Call → Type 0
PutFits lists consumers (CallPut slip load) = FitsQueue lists consumers slip
PutFits lists consumers call = Unit {0}

-- the acts of a call fit
pub acts_fit : (lists consumers : ℕ) (call : Call) (answer : Answer) → PutFits lists consumers call → AllByRecursion (Fits lists consumers) (held_acts call answer)
acts_fit lists consumers (CallReserve size) a fits = (tt, tt)
acts_fit lists consumers (CallGiveBack size) a fits = (tt, tt)
acts_fit lists consumers (CallPut slip load) (IsAt r d) fits = (fits, displacing_fits lists consumers d)
acts_fit lists consumers (CallNext c) (IsGot r l load) fits = (tt, tt)
acts_fit lists consumers (CallNext c) IsEmpty fits = tt
acts_fit lists consumers CallOldest (IsGot r l load) fits = (tt, tt)
acts_fit lists consumers (CallLock r) (IsLocked load) fits = (tt, tt)
acts_fit lists consumers (CallUnlock r load) a fits = (tt, tt)
acts_fit lists consumers (CallRelease r load) (IsReleased mask) fits = (tt, tt)
acts_fit lists consumers (CallSteal r) (HasStolen load) fits = (tt, tt)
acts_fit lists consumers (CallDequeue r) (IsFreed size) fits = (tt, (tt, tt))
acts_fit lists consumers (CallDelete r) a fits = (tt, tt)
acts_fit lists consumers call a fits = tt

-- Answers

abbrev hands_narrow : (q : Queue) (r : ℕ) (load : Load) → HandsOut (wide q) r load → HandsOut q r load
hands_narrow q r load m = record { row = m.row; found = m.found; same = m.same }

pub precedes_narrow : (o : Order) (q : Queue) (x y : Row) → Precedes o (wide q) x y → Precedes o q x y
precedes_narrow ByList q x y p = p
precedes_narrow ByKey q x y p = p
precedes_narrow ByArrival q x y p = p

older_narrow : (o : Order) (q : Queue) (x y : Row) → IsOlder o (wide q) x y → IsOlder o q x y
older_narrow ByList q x y p = p
older_narrow ByKey q x y p = p
older_narrow ByArrival q x y p = p

first_narrow : (q : Queue) (Pass : Row → Type 0) (Before After : Row → Row → Type 0) (r l : ℕ) (load : Load) → ((x y : Row) → Before x y → After x y) → First (wide q) Pass Before r l load → First q Pass After r l load
first_narrow q Pass Before After r l load so m =
    record { hands = hands_narrow q r load m.hands; list = m.list; passes = m.passes; first = λ y is pass off. so m.hands.row y (m.first y is pass off) }

pub outdated_narrow : (q : Queue) (r : ℕ) → IsOutdatedIn (wide q) r → IsOutdatedIn q r
outdated_narrow q r m = record { row = m.row; found = m.found; later = m.later; there = m.there; key = m.key; some = m.some; place = m.place }

pub outdated_wide : (q : Queue) (r : ℕ) → IsOutdatedIn q r → IsOutdatedIn (wide q) r
outdated_wide q r m = record { row = m.row; found = m.found; later = m.later; there = m.there; key = m.key; some = m.some; place = m.place }

-- an answer tells the same of both
pub means_narrow : (kind : Kind) (q : Queue) (h : ℕ) (call : Call) (answer : Answer) → Means kind (wide q) h call answer → Means kind q h call answer
means_narrow kind q h CallDepth (IsDepth d) m = m
means_narrow kind q h (CallReserve size) (IsDepth d) m = m
means_narrow kind q h (CallGiveBack size) IsDone m = m
means_narrow Sorted q h (CallPut slip load) (IsAt r d) m = m
means_narrow LastValue q h (CallPut slip load) (IsAt r None) m = m
means_narrow LastValue q h (CallPut slip load) (IsAt r (Some d)) m = m
means_narrow kind q h (CallNext c) (IsGot r l load) m =
    first_narrow q (λ x. is_free c x ≡ true) (Precedes (order_of kind) (wide q)) (Precedes (order_of kind) q) r l load (λ x y. precedes_narrow (order_of kind) q x y) m
means_narrow kind q h (CallNext c) IsEmpty m = m
means_narrow kind q h CallOldest (IsGot r l load) m =
    first_narrow q (λ x. x.state ≡ Available) (IsOlder (order_of kind) (wide q)) (IsOlder (order_of kind) q) r l load (λ x y. older_narrow (order_of kind) q x y) m
means_narrow kind q h CallOldest IsEmpty m = m
means_narrow kind q h (CallFind id) (IsFound None) m = m
means_narrow kind q h (CallFind id) (IsFound (Some r)) m = (m.0, m.1, m.2, λ y is has off. precedes_narrow (order_of kind) q m.0 y (m.3 y is has off))
means_narrow kind q h (CallLock r) (IsLocked load) m = hands_narrow q r load m
means_narrow kind q h (CallLock r) (IsStolen s) m = m
means_narrow kind q h (CallUnlock r load) IsDone m = m
means_narrow Sorted q h (CallRelease r load) (IsReleased mask) m = m
means_narrow LastValue q h (CallRelease r load) (IsReleased mask) m = (m.0, λ o. m.1 (outdated_wide q r o))
means_narrow LastValue q h (CallRelease r load) (IsOutdated back) m = (m.0, outdated_narrow q r m.1)
means_narrow kind q h (CallSteal r) (HasStolen load) m = hands_narrow q r load m
means_narrow kind q h (CallSteal r) (IsNotStealable s) m = m
means_narrow kind q h (CallDequeue r) (IsFreed size) m = m
means_narrow kind q h (CallDelete r) IsDone m = m
means_narrow kind q h call a m = m
