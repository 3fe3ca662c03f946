-- a row that a caller holds stays as it is over its calls that spare it
use Rattle.std.proofs.Common.{◌≡◌, ◌≢◌, ℕ, zero, suc, ◌+◌, ◌-◌, ◌==◌, true, false, cond, Option, Some, None, List, [], ◌∷◌, ◌++◌, refl, sym, ap, ◌∙◌, subst, ⊎_elim}
use Rattle.std.proofs.lemmas.Bool.{cases_eq}
use Rattle.std.specs.List.{AllByRecursion}
use Rattle.std.specs.Int.{bit_at}
use mathlib.Core.List.{IsPrefix}
use Rattle.queue_model.specs.declared.deeds.Act.{Act}
use Rattle.queue_model.specs.declared.deeds.Act.TheVariants.{Acq, Lock, Unlock, Steal, Rel, Deq, Del, Reserve, GiveBack, Enq, Bell, Take}
use Rattle.queue_model.specs.declared.deeds.Deed.{Deed}
use Rattle.queue_model.specs.declared.queues.Queue.{Queue}
use Rattle.queue_model.specs.declared.rows.Row.{Row}
use Rattle.queue_model.specs.declared.rows.RowState.TheVariants.{Available, Locked, Unlocked, Dequeued, Deleted}
use Rattle.queue_model.specs.History.{after, Legal, own, deed, deeds_of}
use Rattle.queue_model.specs.Laws.{KeepsLock}
use Rattle.acts_core.specs.Load.{Load}
use Rattle.queue_model.specs.State.{is_row, row_at}
use Rattle.queue_model.specs.Table.{Can, acted, in_state, left_in}
use Rattle.queue_model.proofs.Histories.{after-append, legal_rest, own-cons_mine, own-cons_other}
use Rattle.queue_model.proofs.KeyedLemmas.{find-append}
use Rattle.queue_model.proofs.Owns.{own_rest}
use Rattle.queue_model.proofs.Stable.{untouched, apart_rows, held_row_step, held_row_stays}
use Rattle.acts_core.specs.Calls.{Call, CallReserve, CallGiveBack, CallPut, CallNext, CallOldest, CallLock, CallUnlock, CallRelease, CallSteal, CallDequeue, CallDelete, Answer, IsAt, IsGot, IsEmpty, IsLocked, IsReleased, HasStolen, IsFreed, acts_of, takes_down, rings_up, bells_taken, bells_rung, displacing}
use Rattle.acts_core.specs.Hands.{Spares}
use Rattle.acts_core.specs.Meaning.{Meets}
use Rattle.acts_core.specs.Sight.{Plan}

-- a row that h holds is the very same after an own act that keeps it
kept_mine : (q : Queue) (h : ℕ) (a : Act) (r : ℕ) (x : Row) → Can q h a → KeepsLock r a → row_at q r ≡ Some x → x.state ≡ Locked h → row_at (acted q h a) r ≡ Some x
kept_mine q h (Acq s) r x can keeps found held = untouched q s r (in_state (Locked h)) x (apart_rows q s r x Available found can (λ e. cc)) (λ z. refl) found
kept_mine q h (Lock s) r x can keeps found held = untouched q s r (in_state (Locked h)) x (apart_rows q s r x (Unlocked h) found can (λ e. cc)) (λ z. refl) found
kept_mine q h (Unlock s n) r x can keeps found held = untouched q s r (left_in (Unlocked h) n) x keeps (λ z. refl) found
kept_mine q h (Steal s) r x can keeps found held = untouched q s r (in_state (Locked h)) x (apart_rows q s r x (Unlocked can.0) found can.1 (λ e. cc)) (λ z. refl) found
kept_mine q h (Rel s n) r x can keeps found held = untouched q s r (left_in Available n) x keeps (λ z. refl) found
kept_mine q h (Deq s) r x can keeps found held = untouched q s r (in_state Dequeued) x keeps (λ z. refl) found
kept_mine q h (Del s) r x can keeps found held = untouched q s r (in_state Deleted) x (apart_rows q s r x Dequeued found can (λ e. cc)) (λ z. refl) found
kept_mine q h (Reserve size) r x can keeps found held = found
kept_mine q h (GiveBack size) r x can keeps found held = found
kept_mine q h (Enq s slip content origin n) r x can keeps found held = find-append (is_row r) q.rows (record { number = s; slip = slip; state = Available; content = content; origin = origin; count = n } ∷ []) x found
kept_mine q h (Bell s c) r x can keeps found held = found
kept_mine q h (Take c l) r x can keeps found held = found

-- the first own deed
pub mine_first : (h : ℕ) (d : Deed) (ds es : List Deed) (a : Act) → d.caller ≡ h → own h (d ∷ ds) ≡ deed h a ∷ es → (d ≡ deed h a) × (own h ds ≡ es)
mine_first h d ds es a mine all =
    let e : d ∷ own h ds ≡ deed h a ∷ es = subst (λ (k : ℕ). d ∷ own k ds ≡ own k (d ∷ ds)) mine (sym (own-cons_mine d ds)) ∙ all in
    (cc, cc)

-- the state at the end of a history is that after the rest of it
pub after_rest : (o : Queue) (ds es : List Deed) (p : IsPrefix ds es) → after (after o ds) p.0 ≡ after o es
after_rest o ds es p = sym (after-append o ds p.0) ∙ ap (after o) p.1

-- a row that h holds is the very same after own acts that keep it, whatever others do
row_kept : (q : Queue) (ds : List Deed) (h r : ℕ) (x : Row) (acts : List Act) → Legal q ds → own h ds ≡ deeds_of h acts → AllByRecursion (KeepsLock r) acts → row_at q r ≡ Some x → x.state ≡ Locked h → row_at (after q ds) r ≡ Some x
row_kept q [] h r x acts legal mine keep found held = found
row_kept q (d ∷ ds) h r x [] legal mine keep found held = held_row_stays q (d ∷ ds) h r x mine legal found held
row_kept q (d ∷ ds) h r x (a ∷ acts) legal mine keep found held = ⊎_elim
    (λ (me : d.caller ≡ h).
    let m = mine_first h d ds (deeds_of h acts) a me mine in
    let can : Can q h a = subst (λ (e : Deed). Can q e.caller e.act) m.0 legal.0 in
    let next : row_at (acted q d.caller d.act) r ≡ Some x = subst (λ (e : Deed). row_at (acted q e.caller e.act) r ≡ Some x) (sym m.0) (kept_mine q h a r x can keep.0 found held) in
    row_kept (acted q d.caller d.act) ds h r x acts legal.1 m.1 keep.1 next held)
    (λ (other : d.caller ≢ h).
    row_kept (acted q d.caller d.act) ds h r x (a ∷ acts) legal.1 (sym (own-cons_other h d ds other) ∙ mine) keep (held_row_step q d.caller h d.act r x other legal.0 found held) held)
    (cases_eq d.caller h)

-- from one beginning of the history to a longer one
pub row_held : (o : Queue) (s0 s1 : List Deed) (h r : ℕ) (x : Row) (acts : List Act) → IsPrefix s0 s1 → Legal o s1 → own h s1 ≡ own h s0 ++ deeds_of h acts → AllByRecursion (KeepsLock r) acts → row_at (after o s0) r ≡ Some x → x.state ≡ Locked h → row_at (after o s1) r ≡ Some x
row_held o s0 s1 h r x acts p legal more keep found held =
    let whole : Legal o (s0 ++ p.0) = subst (Legal o) (sym p.1) legal in
    subst (λ (q : Queue). row_at q r ≡ Some x) (after_rest o s0 s1 p)
    (row_kept (after o s0) p.0 h r x acts (legal_rest o s0 p.0 whole) (own_rest h s0 s1 (deeds_of h acts) p more) keep found held)

-- Acts that keep locks

pub all_append : (P : Act → Type 0) (xs ys : List Act) → AllByRecursion P xs → AllByRecursion P ys → AllByRecursion P (xs ++ ys)
all_append P [] ys a b = b
all_append P (x ∷ xs) ys a b = (a.0, all_append P xs ys a.1 b)

takes_keep : (r c l n : ℕ) → AllByRecursion (KeepsLock r) (takes_down c l n)
takes_keep r c l zero = tt
takes_keep r c l (suc n) = (tt, takes_keep r c l n)

rings_keep : (s r mask c n : ℕ) → AllByRecursion (KeepsLock s) (rings_up r mask c n)
rings_keep s r mask c zero = tt
rings_keep s r mask c (suc n) =
    let rest = rings_keep s r mask (c + 1) n in
    elim (bit_at mask c == 1) as (λ b. AllByRecursion (KeepsLock s) (cond b (Bell r c ∷ rings_up r mask (c + 1) n) (rings_up r mask (c + 1) n))) [ true ↦ (tt, rest) | false ↦ rest ]

taken_keep : (p : Plan) (r c l : ℕ) → AllByRecursion (KeepsLock r) (bells_taken p c l)
taken_keep p r c l = elim (p.bells) as (λ b. AllByRecursion (KeepsLock r) (cond b (takes_down c l (p.opening.lists - l)) [])) [ true ↦ takes_keep r c l (p.opening.lists - l) | false ↦ tt ]

rung_keep : (p : Plan) (s r mask : ℕ) → AllByRecursion (KeepsLock s) (bells_rung p r mask)
rung_keep p s r mask = elim (p.bells) as (λ b. AllByRecursion (KeepsLock s) (cond b (rings_up r mask 0 p.opening.consumers) [])) [ true ↦ rings_keep s r mask 0 p.opening.consumers | false ↦ tt ]

displacing_keep : (r : ℕ) (d : Option (ℕ × Load)) → AllByRecursion (KeepsLock r) (displacing d)
displacing_keep r None = tt
displacing_keep r (Some d) = (tt, tt)

-- a call that spares a row's lock has only acts that keep it
pub call_keeps : (p : Plan) (r : ℕ) (call : Call) (answer : Answer) → Spares r call → AllByRecursion (KeepsLock r) (acts_of p call answer)
call_keeps p r (CallReserve size) a spares = (tt, tt)
call_keeps p r (CallGiveBack size) a spares = (tt, tt)
call_keeps p r (CallPut slip load) (IsAt e displaced) spares = (tt, displacing_keep r displaced)
call_keeps p r (CallNext c) (IsGot e l load) spares = all_append (KeepsLock r) (bells_taken p c l) (Acq e ∷ []) (taken_keep p r c l) (tt, tt)
call_keeps p r (CallNext c) IsEmpty spares = taken_keep p r c 0
call_keeps p r CallOldest (IsGot e l load) spares = (tt, tt)
call_keeps p r (CallLock e) (IsLocked load) spares = (tt, tt)
call_keeps p r (CallUnlock e load) a spares = (spares, tt)
call_keeps p r (CallRelease e load) (IsReleased mask) spares = (spares, rung_keep p r e mask)
call_keeps p r (CallSteal e) (HasStolen load) spares = (tt, tt)
call_keeps p r (CallDequeue e) (IsFreed size) spares = (spares, (tt, tt))
call_keeps p r (CallDelete e) a spares = (tt, tt)
call_keeps p r call a spares = tt

-- a row that h holds is the very same, with its count, after a call that spares it
pub call_spares : (p : Plan) (h r : ℕ) (x : Row) (s0 s1 : List Deed) (call : Call) (answer : Answer) → Meets p h s0 s1 call answer → Spares r call → row_at (after p.opening s0) r ≡ Some x → x.state ≡ Locked h → row_at (after p.opening s1) r ≡ Some x
call_spares p h r x s0 s1 call answer m spares found held =
    row_held p.opening s0 s1 h r x (acts_of p call answer) m.grows m.legal m.own_acts (call_keeps p r call answer spares) found held
