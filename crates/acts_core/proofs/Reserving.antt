-- what a caller has reserved after a call
use Rattle.std.proofs.Common.{◌≡◌, ◌≢◌, ◌≤◌, ◌+◌, ◌*◌, ◌-◌, ◌==◌, ℕ, zero, suc, true, false, cond, Option, Some, None, List, [], ◌∷◌, ◌++◌, find, unwrap_or, refl, sym, ap, ap₂, ◌∙◌, subst, ⊎_elim, arith}
use Rattle.std.proofs.lemmas.Bool.{cases_eq}
use Rattle.std.specs.Int.{bit_at}
use Rattle.std.specs.List.{AllByRecursion}
use Rattle.queue_model.specs.declared.deeds.Act.{Act}
use Rattle.queue_model.specs.declared.deeds.Act.TheVariants.{Acq, Lock, Unlock, Steal, Rel, Deq, Del, Reserve, GiveBack, Enq, Bell, Take}
use Rattle.queue_model.specs.declared.deeds.Deed.{Deed}
use Rattle.queue_model.specs.declared.queues.Depth.{Depth}
use Rattle.queue_model.specs.declared.queues.Queue.{Queue}
use Rattle.queue_model.specs.declared.queues.Reservation.{Reservation}
use Rattle.queue_model.specs.declared.rows.Row.{Row}
use Rattle.queue_model.specs.declared.rows.Slip.{Slip}
use Rattle.queue_model.specs.History.{after, Legal, own, deeds_of}
use Rattle.queue_model.specs.Sound.{Sound, IsOpening, IsSized}
use Rattle.queue_model.specs.State.{row_at, size_at, is_holder, nothing, reserved_by}
use Rattle.queue_model.specs.Table.{Can, acted, CanGive, with_more, with_less, most_bytes}
use Rattle.queue_model.proofs.Depths.{size_found}
use Rattle.queue_model.proofs.Histories.{after-append, legal_front, legal_rest, own-cons_other}
use Rattle.queue_model.proofs.KeyedLemmas.{all-find}
use Rattle.queue_model.proofs.Owns.{own_reserving, own_giving, own_dequeue_reserves, own_rest}
use Rattle.queue_model.proofs.SoundSteps.{sound_step, sound_after, sound_opening}
use Rattle.queue_model.proofs.Stable.{row_stays, reserved_step, reserved_stays}
use Rattle.acts_core.specs.Calls.{Call, CallReserve, CallGiveBack, CallPut, CallNext, CallOldest, CallLock, CallUnlock, CallRelease, CallSteal, CallDequeue, CallDelete, Answer, IsDepth, IsAt, IsGot, IsEmpty, IsLocked, IsReleased, HasStolen, IsFreed, acts_of, takes_down, rings_up, bells_taken, bells_rung, displacing}
use Rattle.acts_core.specs.Hands.{reserved_after}
use Rattle.acts_core.specs.Load.{Load}
use Rattle.acts_core.specs.Meaning.{Besides, Meets}
use Rattle.acts_core.specs.Moments.{HasSize}
use Rattle.acts_core.specs.Sight.{Kind, Listed, Sorted, LastValue, Plan, Forgotten}
use Rattle.acts_core.proofs.Sparing.{mine_first, after_rest}

-- One act

-- what a caller has reserved after its own act, where each row that it dequeues has size n
abbrev by_act : ℕ → Act → Reservation → Reservation
by_act n (Reserve size) v = with_more v size
by_act n (GiveBack size) v = with_less v size
by_act n (Enq r slip content origin k) v = with_less v slip.size
by_act n (Deq r) v = with_more v n
by_act n a v = v

-- a row that the act dequeues has size n
abbrev Frees : Queue → ℕ → Act → Type 0
Frees q n (Deq r) = HasSize q r n
Frees q n a = Unit {0}

-- the size of a row, as it is later
size_later : (q : Queue) (ds : List Deed) (r n : ℕ) (x : Row) → row_at q r ≡ Some x → HasSize (after q ds) r n → size_at q r ≡ n
size_later q ds r n x found sized =
    let y = row_stays q ds r x found in
    let same : Some y.0 ≡ Some sized.0 = sym y.1 ∙ sized.1 in
    let row : y.0 ≡ sized.0 = cc in
    size_found q r x found ∙ ap (λ (s : Slip). s.size) (sym y.2.slip) ∙ ap (λ (z : Row). z.slip.size) row ∙ sized.2

own_act : (q : Queue) (h : ℕ) (a : Act) (ds : List Deed) (n : ℕ) → Sound q → Can q h a → Frees (after q ds) n a → reserved_by (acted q h a) h ≡ by_act n a (reserved_by q h)
own_act q h (Reserve size) ds n sound can frees = own_reserving q h size
own_act q h (GiveBack size) ds n sound can frees = own_giving q h size sound can
own_act q h (Enq r slip content origin k) ds n sound can frees = own_giving q h slip.size sound can.reserved
own_act q h (Deq r) ds n sound can frees = own_dequeue_reserves q h r ∙ ap (λ (k : ℕ). with_more (reserved_by q h) k) (size_later q ds r n can.0 can.1 frees)
own_act q h (Acq r) ds n sound can frees = refl
own_act q h (Lock r) ds n sound can frees = refl
own_act q h (Unlock r k) ds n sound can frees = refl
own_act q h (Steal r) ds n sound can frees = refl
own_act q h (Rel r k) ds n sound can frees = refl
own_act q h (Del r) ds n sound can frees = refl
own_act q h (Bell r c) ds n sound can frees = refl
own_act q h (Take c l) ds n sound can frees = refl

-- Own acts among those of others

abbrev over : ℕ → List Act → Reservation → Reservation
over n [] v = v
over n (a ∷ acts) v = over n acts (by_act n a v)

own_over : (q : Queue) (ds : List Deed) (h : ℕ) (acts : List Act) (n : ℕ) → Sound q → Legal q ds → own h ds ≡ deeds_of h acts → AllByRecursion (Frees (after q ds) n) acts → reserved_by (after q ds) h ≡ over n acts (reserved_by q h)
own_over q [] h [] n sound legal mine frees = refl
own_over q [] h (a ∷ acts) n sound legal mine frees = absurd (cc)
own_over q (d ∷ ds) h [] n sound legal mine frees = reserved_stays q (d ∷ ds) h mine
own_over q (d ∷ ds) h (a ∷ acts) n sound legal mine frees = ⊎_elim
    (λ (me : d.caller ≡ h).
    let m = mine_first h d ds (deeds_of h acts) a me mine in
    let can : Can q h a = subst (λ (e : Deed). Can q e.caller e.act) m.0 legal.0 in
    let first : reserved_by (acted q d.caller d.act) h ≡ by_act n a (reserved_by q h) =
    subst (λ (e : Deed). reserved_by (acted q e.caller e.act) h ≡ by_act n a (reserved_by q h)) (sym m.0) (own_act q h a (d ∷ ds) n sound can frees.0)
    in
    own_over (acted q d.caller d.act) ds h acts n (sound_step q d.caller d.act legal.0 sound) legal.1 m.1 frees.1 ∙ ap (over n acts) first)
    (λ (other : d.caller ≢ h).
    own_over (acted q d.caller d.act) ds h (a ∷ acts) n (sound_step q d.caller d.act legal.0 sound) legal.1 (sym (own-cons_other h d ds other) ∙ mine) frees
    ∙ ap (over n (a ∷ acts)) (reserved_step q d.caller h d.act other))
    (cases_eq d.caller h)

-- The acts of a call

over-append : (n : ℕ) (xs ys : List Act) (v : Reservation) → over n (xs ++ ys) v ≡ over n ys (over n xs v)
over-append n [] ys v = refl
over-append n (x ∷ xs) ys v = over-append n xs ys (by_act n x v)

over-takes : (n c l k : ℕ) (v : Reservation) → over n (takes_down c l k) v ≡ v
over-takes n c l zero v = refl
over-takes n c l (suc k) v = over-takes n c l k v

over-taken : (p : Plan) (n c l : ℕ) (v : Reservation) → over n (bells_taken p c l) v ≡ v
over-taken p n c l v = elim (p.bells) as (λ b. over n (cond b (takes_down c l (p.opening.lists - l)) []) v ≡ v) [ true ↦ over-takes n c l (p.opening.lists - l) v | false ↦ refl ]

over-rings : (n r mask c k : ℕ) (v : Reservation) → over n (rings_up r mask c k) v ≡ v
over-rings n r mask c zero v = refl
over-rings n r mask c (suc k) v =
    let rest = over-rings n r mask (c + 1) k v in
    elim (bit_at mask c == 1) as (λ b. over n (cond b (Bell r c ∷ rings_up r mask (c + 1) k) (rings_up r mask (c + 1) k)) v ≡ v) [ true ↦ rest | false ↦ rest ]

over-rung : (p : Plan) (n r mask : ℕ) (v : Reservation) → over n (bells_rung p r mask) v ≡ v
over-rung p n r mask v = elim (p.bells) as (λ b. over n (cond b (rings_up r mask 0 p.opening.consumers) []) v ≡ v) [ true ↦ over-rings n r mask 0 p.opening.consumers v | false ↦ refl ]

over-displacing : (n : ℕ) (d : Option (ℕ × Load)) (v : Reservation) → over n (displacing d) v ≡ v
over-displacing n None v = refl
over-displacing n (Some d) v = refl

-- an entry that comes and goes
come_and_go : (v : Reservation) (size : ℕ) → with_less (with_more v size) size ≡ v
come_and_go v size =
    let e : v.entries + 1 - 1 ≡ v.entries = omega arith in
    let b : v.bytes + size - size ≡ v.bytes = omega arith in
    ap₂ (λ (n m : ℕ). record v { entries = n; bytes = m }) e b

-- the size of the row that a call dequeues
abbrev freed : Call → Answer → ℕ
freed (CallDequeue r) (IsFreed size) = size
freed call answer = 0

over-call : (p : Plan) (call : Call) (answer : Answer) (v : Reservation) → over (freed call answer) (acts_of p call answer) v ≡ reserved_after call answer v
over-call p (CallReserve size) a v = refl
over-call p (CallGiveBack size) a v = refl
over-call p (CallPut slip load) (IsAt r displaced) v = over-displacing 0 displaced (with_less v slip.size)
over-call p (CallNext c) (IsGot r l load) v = over-append 0 (bells_taken p c l) (Acq r ∷ []) v ∙ over-taken p 0 c l v
over-call p (CallNext c) IsEmpty v = over-taken p 0 c 0 v
over-call p CallOldest (IsGot r l load) v = refl
over-call p (CallLock r) (IsLocked load) v = refl
over-call p (CallUnlock r load) a v = refl
over-call p (CallRelease r load) (IsReleased mask) v = over-rung p 0 r mask v
over-call p (CallSteal r) (HasStolen load) v = refl
over-call p (CallDequeue r) (IsFreed size) v = come_and_go v size
over-call p (CallDelete r) a v = refl
over-call p call a v = refl

-- no act but a dequeue frees a row
takes_free : (q : Queue) (n c l k : ℕ) → AllByRecursion (Frees q n) (takes_down c l k)
takes_free q n c l zero = tt
takes_free q n c l (suc k) = (tt, takes_free q n c l k)

taken_free : (p : Plan) (q : Queue) (n c l : ℕ) (more : List Act) → AllByRecursion (Frees q n) more → AllByRecursion (Frees q n) (bells_taken p c l ++ more)
taken_free p q n c l more rest = elim (p.bells) as (λ b. AllByRecursion (Frees q n) (cond b (takes_down c l (p.opening.lists - l)) [] ++ more)) [ true ↦ all_more (takes_down c l (p.opening.lists - l)) (takes_free q n c l (p.opening.lists - l)) | false ↦ rest ]
  where
    all_more : (xs : List Act) → AllByRecursion (Frees q n) xs → AllByRecursion (Frees q n) (xs ++ more)
    all_more [] each = rest
    all_more (x ∷ xs) each = (each.0, all_more xs each.1)

taken_free_all : (p : Plan) (q : Queue) (n c l : ℕ) → AllByRecursion (Frees q n) (bells_taken p c l)
taken_free_all p q n c l = elim (p.bells) as (λ b. AllByRecursion (Frees q n) (cond b (takes_down c l (p.opening.lists - l)) [])) [ true ↦ takes_free q n c l (p.opening.lists - l) | false ↦ tt ]

rings_free : (q : Queue) (n r mask c k : ℕ) → AllByRecursion (Frees q n) (rings_up r mask c k)
rings_free q n r mask c zero = tt
rings_free q n r mask c (suc k) =
    let rest = rings_free q n r mask (c + 1) k in
    elim (bit_at mask c == 1) as (λ b. AllByRecursion (Frees q n) (cond b (Bell r c ∷ rings_up r mask (c + 1) k) (rings_up r mask (c + 1) k))) [ true ↦ (tt, rest) | false ↦ rest ]

rung_free : (p : Plan) (q : Queue) (n r mask : ℕ) → AllByRecursion (Frees q n) (bells_rung p r mask)
rung_free p q n r mask = elim (p.bells) as (λ b. AllByRecursion (Frees q n) (cond b (rings_up r mask 0 p.opening.consumers) [])) [ true ↦ rings_free q n r mask 0 p.opening.consumers | false ↦ tt ]

displacing_free : (q : Queue) (n : ℕ) (d : Option (ℕ × Load)) → AllByRecursion (Frees q n) (displacing d)
displacing_free q n None = tt
displacing_free q n (Some d) = (tt, tt)

-- a row keeps its size
size_stays : (o : Queue) (r size : ℕ) (m ds all : List Deed) → m ++ ds ≡ all → HasSize (after o m) r size → HasSize (after o all) r size
size_stays o r size m ds all whole has =
    let y = row_stays (after o m) ds r has.0 has.1 in
    let state : after (after o m) ds ≡ after o all = sym (after-append o m ds) ∙ ap (after o) whole in
    (y.0, subst (λ (q : Queue). row_at q r ≡ Some y.0) state y.1, ap (λ (s : Slip). s.size) y.2.slip ∙ has.2)

-- the row that a call dequeues has the size that is answered
dequeues_size : (p : Plan) (h r size : ℕ) (s0 s1 : List Deed) (kind : Kind) → Besides Forgotten p h s0 s1 (CallDequeue r) (IsFreed size) kind → HasSize (after p.opening s1) r size
dequeues_size p h r size s0 s1 Listed b = b
dequeues_size p h r size s0 s1 Sorted b = size_stays p.opening r size b.moment (deeds_of h (Deq r ∷ GiveBack size ∷ [])) s1 b.before.whole b.means
dequeues_size p h r size s0 s1 LastValue b = size_stays p.opening r size b.moment (deeds_of h (Deq r ∷ GiveBack size ∷ [])) s1 b.before.whole b.means

call_frees : (p : Plan) (h : ℕ) (s0 s1 : List Deed) (call : Call) (answer : Answer) → Besides Forgotten p h s0 s1 call answer p.kind → AllByRecursion (Frees (after p.opening s1) (freed call answer)) (acts_of p call answer)
call_frees p h s0 s1 (CallReserve size) a b = (tt, tt)
call_frees p h s0 s1 (CallGiveBack size) a b = (tt, tt)
call_frees p h s0 s1 (CallPut slip load) (IsAt r displaced) b = (tt, displacing_free (after p.opening s1) 0 displaced)
call_frees p h s0 s1 (CallNext c) (IsGot r l load) b = taken_free p (after p.opening s1) 0 c l (Acq r ∷ []) (tt, tt)
call_frees p h s0 s1 (CallNext c) IsEmpty b = taken_free_all p (after p.opening s1) 0 c 0
call_frees p h s0 s1 CallOldest (IsGot r l load) b = (tt, tt)
call_frees p h s0 s1 (CallLock r) (IsLocked load) b = (tt, tt)
call_frees p h s0 s1 (CallUnlock r load) a b = (tt, tt)
call_frees p h s0 s1 (CallRelease r load) (IsReleased mask) b = (tt, rung_free p (after p.opening s1) 0 r mask)
call_frees p h s0 s1 (CallSteal r) (HasStolen load) b = (tt, tt)
call_frees p h s0 s1 (CallDequeue r) (IsFreed size) b = (dequeues_size p h r size s0 s1 p.kind b, (tt, tt))
call_frees p h s0 s1 (CallDelete r) a b = (tt, tt)
call_frees p h s0 s1 call a b = tt

-- what a caller has reserved after a call is what it had before, changed by that call and answer alone
pub call_reserved : (p : Plan) (h : ℕ) (s0 s1 : List Deed) (call : Call) (answer : Answer) → IsOpening p.opening → Meets p h s0 s1 call answer → reserved_by (after p.opening s1) h ≡ reserved_after call answer (reserved_by (after p.opening s0) h)
call_reserved p h s0 s1 call answer opening m =
    let g = m.grows in
    let q = after p.opening s0 in
    let whole : Legal p.opening (s0 ++ g.0) = subst (Legal p.opening) (sym g.1) m.legal in
    let sound : Sound q = sound_after p.opening s0 (sound_opening p.opening opening) (legal_front p.opening s0 g.0 whole) in
    let state : after q g.0 ≡ after p.opening s1 = after_rest p.opening s0 s1 g in
    let acts = acts_of p call answer in
    let n = freed call answer in
    let frees : AllByRecursion (Frees (after q g.0) n) acts =
    subst (λ (x : Queue). AllByRecursion (Frees x n) acts) (sym state) (call_frees p h s0 s1 call answer m.besides)
    in
    ap (λ (x : Queue). reserved_by x h) (sym state)
    ∙ own_over q g.0 h acts n sound (legal_rest p.opening s0 g.0 whole) (own_rest h s0 s1 (deeds_of h acts) g m.own_acts) frees
    ∙ over-call p call answer (reserved_by q h)

-- what a caller has reserved has at most the bytes of the largest message for each entry
sized : (o : Option Reservation) (xs : List Reservation) (h : ℕ) → AllByRecursion IsSized xs → find (is_holder h) xs ≡ o → (unwrap_or o (nothing h)).bytes ≤ most_bytes * (unwrap_or o (nothing h)).entries
sized None xs h each e = omega arith
sized (Some v) xs h each e = (all-find IsSized (is_holder h) xs v each e).bytes

pub reserved_small : (o : Queue) (h : ℕ) (seen : List Deed) → IsOpening o → Legal o seen → (reserved_by (after o seen) h).bytes ≤ most_bytes * (reserved_by (after o seen) h).entries
reserved_small o h seen opening legal =
    let q = after o seen in
    sized (find (is_holder h) q.reserved) q.reserved h (sound_after o seen (sound_opening o opening) legal).reserved_sized refl

-- one more entry can be given
more_give : (v : Reservation) (size : ℕ) → v.bytes ≤ most_bytes * v.entries → CanGive (with_more v size) size
more_give v size small = record {
  entry = omega arith;
  bytes = omega arith;
  rest = (let e : v.entries + 1 - 1 ≡ v.entries = omega arith in rw e (omega (arith, small)));
}

-- what was reserved can be put, or given back
pub call_reserves : (p : Plan) (h size : ℕ) (s0 s1 : List Deed) (d : Depth) → IsOpening p.opening → Meets p h s0 s1 (CallReserve size) (IsDepth d) → CanGive (reserved_by (after p.opening s1) h) size
call_reserves p h size s0 s1 d opening m =
    let g = m.grows in
    let legal : Legal p.opening s0 = legal_front p.opening s0 g.0 (subst (Legal p.opening) (sym g.1) m.legal) in
    subst (λ (v : Reservation). CanGive v size) (sym (call_reserved p h s0 s1 (CallReserve size) (IsDepth d) opening m))
    (more_give (reserved_by (after p.opening s0) h) size (reserved_small p.opening h s0 opening legal))
