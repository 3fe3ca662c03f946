-- entries that are dropped
use Rattle.std.proofs.Common.{◌≡◌, ◌≤◌, ◌+◌, ℕ, Bool, true, false, not, ◌⊎◌, Some, None, List, [], ◌∷◌, ◌++◌, refl, sym, ap, ◌∙◌, subst, inl, inr, eq-eqb, append_assoc, append-nil, arith}
use Rattle.std.proofs.lemmas.List.{length-append}
use Rattle.std.proofs.lemmas.List.Elements.{filter-append}
use Rattle.queue_model.specs.declared.queues.Depth.{Depth}
use Rattle.queue_model.specs.declared.queues.Limits.{Limits}
use Rattle.queue_model.specs.declared.rows.RowState.TheVariants.{Locked}
use Rattle.queue_model.specs.State.{IsIn}
use Rattle.acts_core.specs.Asked.{IsSightOf}
use Rattle.acts_core.specs.Calls.{Call, CallDepth, CallOldest, CallDequeue, CallDelete, Answer, IsDepth, IsGot, IsEmpty, IsFreed, IsDone}
use Rattle.acts_core.specs.Hands.{InHand}
use Rattle.acts_core.specs.Load.{Load}
use Rattle.acts_core.specs.Meaning.{Called}
use Rattle.acts_core.specs.Sight.{Build, Sight, known}
use Rattle.overflow_core.specs.Calls.{IsWithin, Trims}
use Rattle.overflow_core.specs.Limits.{is_ring}
use Rattle.report_core.specs.declared.answers.Dropped.{Dropped}
use Rattle.line_core.specs.Fits as fit
use Rattle.line_core.specs.Fits.{Did, DropsNoMore, DropsOldest, DropsOlder, On, TrimsRing, drop, dropped, let_go}
use Rattle.line_core.specs.Hands.{Hand, gained, hand, is_this, lost, without}
use Rattle.line_core.specs.Runs.{RanOn, calls_on}
use Rattle.line_core.proofs.LineLists.{calls_append}
use Rattle.line_core.proofs.Running.{ran_append, ran_call, ran_none}
use Rattle.workers_core.specs.Drops.{left_to}
use Rattle.workers_core.specs.Hold.{Hold, HoldsAlso, KeepsOthers, Mine, MineOn}
use Rattle.workers_core.specs.Lines.{Drops}
use Rattle.workers_core.proofs.AckLines.{ack_keeps}
use Rattle.workers_core.proofs.Calls.{gains_mine, keeps_call, keeps_none}
use Rattle.workers_core.proofs.Deletions.{left_call, left_delete}
use Rattle.workers_core.proofs.Holds.{hold_gained, hold_lost, hold_same}
use Rattle.workers_core.proofs.Lists.{filter_past, same_self}
use Rattle.workers_core.proofs.Onward.{all_last}

-- Hands

-- what was taken once is not there to be taken again
without_twice : (q id : ℕ) (hands : List Hand) → without q id (without q id hands) ≡ without q id hands
without_twice q id [] = refl
without_twice q id (k ∷ hands) = by_test (is_this q id k) refl (without_twice q id hands) where
  by_test : (b : Bool) → is_this q id k ≡ b → without q id (without q id hands) ≡ without q id hands → without q id (without q id (k ∷ hands)) ≡ without q id (k ∷ hands)
  by_test true is rest = rw is rest
  by_test false is rest = rw is (rw is (ap (λ (ks : List Hand). k ∷ ks) rest))

-- an entry that came and went
pub lost_gained : (k : Hand) (hands : List Hand) → lost k (gained k hands) ≡ without k.queue k.id hands
lost_gained k hands =
    filter-append (λ j. not (is_this k.queue k.id j)) (without k.queue k.id hands) (k ∷ [])
    ∙ ap (λ (ks : List Hand). without k.queue k.id (without k.queue k.id hands) ++ ks) (filter_past (λ j. not (is_this k.queue k.id j)) k [] (ap not (same_self k)))
    ∙ append-nil (without k.queue k.id (without k.queue k.id hands))
    ∙ without_twice k.queue k.id hands

-- the entry that was acquired is the caller's
pub also_mine : (t : Sight) (q r : ℕ) (load : Load) (hands : List Hand) → HoldsAlso t q (Some (r, load)) hands → Mine t (hand q r load.id (Some load))
also_mine t q r load hands also =
    let k : Hand = hand q r load.id (Some load) in
    all_last (MineOn t q) (without k.queue k.id hands) k also.0.mine refl

-- and locked
pub also_locked : (t : Sight) (q r : ℕ) (load : Load) (hands : List Hand) → HoldsAlso t q (Some (r, load)) hands → IsIn (known t) r (Locked t.caller)
also_locked t q r load hands also =
    let stands : InHand t r (Some load) = (also_mine t q r load hands also).stands in
    (stands.row, stands.found, stands.held)

-- the hands when it went
pub drop_hold : (build : Build) (a b c : Sight) (q r size : ℕ) (load : Load) (hands hands' : List Hand) → HoldsAlso a q (Some (r, load)) hands → Called build a b (CallDequeue r) (IsFreed size) → Called build b c (CallDelete r) IsDone → hands' ≡ without q load.id hands → Hold c q hands'
drop_hold build a b c q r size load hands hands' also deq del gone =
    let k : Hand = hand q r load.id (Some load) in
    subst (Hold c q) (lost_gained k hands ∙ sym gone)
    (hold_lost a c q k (gained k hands) also.0 refl (also_mine a q r load hands also) (ack_keeps build a a b c r size (keeps_none a r) deq del))

-- An entry that is dropped

drop_calls : (build : Build) (a b c : Sight) (q r size : ℕ) → Called build a b (CallDequeue r) (IsFreed size) → Called build b c (CallDelete r) IsDone → RanOn build (calls_on q (drop q r size)) a c
drop_calls build a b c q r size deq del =
    let pairs : List (Call × Answer) = (CallDequeue r, IsFreed size) ∷ (CallDelete r, IsDone) ∷ [] in
    let same : calls_on q (drop q r size) ≡ pairs = rw (eq-eqb q q refl) refl in
    rw same (ran_append build ((CallDequeue r, IsFreed size) ∷ []) ((CallDelete r, IsDone) ∷ []) a b c (ran_call build a b (CallDequeue r) (IsFreed size) deq) (ran_call build b c (CallDelete r) IsDone del))

pub drop_left : (build : Build) (a b c : Sight) (r size : ℕ) → Called build a b (CallDequeue r) (IsFreed size) → Called build b c (CallDelete r) IsDone → IsSightOf build c → left_to build c + 1 ≤ left_to build a
drop_left build a b c r size deq del opens = omega (arith, left_call build a b (CallDequeue r) (IsFreed size) deq, left_delete build b c r del opens)

pub drop_did : (build : Build) (a b c : Sight) (q r size : ℕ) (load : Load) (hands hands' : List Hand) (drops drops' : List Dropped)
    → Called build a b (CallDequeue r) (IsFreed size) → Called build b c (CallDelete r) IsDone → IsSightOf build c → hands' ≡ without q load.id hands → drops' ≡ drops ++ dropped q load.id ∷ []
    → Drops (DropsOlder q (Some (r, load))) build q a hands drops c hands' drops'
drop_did build a b c q r size load hands hands' drops drops' deq del opens gone named = record {
  own = dropped q load.id ∷ [];
  dids = drop q r size;
  fact = (size, refl, refl);
  ran = drop_calls build a b c q r size deq del;
  named = named;
  gone = gone;
  fewer = omega (arith, drop_left build a b c r size deq del opens);
}

-- nothing was displaced
pub drop_none : (build : Build) (a : Sight) (q : ℕ) (hands : List Hand) (drops : List Dropped) → Drops (DropsOlder q None) build q a hands drops a hands drops
drop_none build a q hands drops = record { own = []; dids = []; fact = (refl, refl); ran = ran_none build a; named = sym (append-nil drops); gone = refl; fewer = omega arith }

-- Drops that follow others

pub let_go_append : (xs ys : List Dropped) (hands : List Hand) → let_go (xs ++ ys) hands ≡ let_go ys (let_go xs hands)
let_go_append [] ys hands = refl
let_go_append (x ∷ xs) ys hands = let_go_append xs ys (without x.queue x.id hands)

pub drops_then : (P Q R : List Dropped → List Did → Type 0) (build : Build) (q : ℕ) (a b c : Sight) (hs is ks : List Hand) (xs ys zs : List Dropped)
    → ((o p : List Dropped) (d e : List Did) → P o d → Q p e → R (o ++ p) (d ++ e)) → Drops P build q a hs xs b is ys → Drops Q build q b is ys c ks zs → Drops R build q a hs xs c ks zs
drops_then P Q R build q a b c hs is ks xs ys zs both first second = record {
  own = first.own ++ second.own;
  dids = first.dids ++ second.dids;
  fact = both first.own second.own first.dids second.dids first.fact second.fact;
  ran = rw (calls_append q first.dids second.dids) (ran_append build (calls_on q first.dids) (calls_on q second.dids) a b c first.ran second.ran);
  named = second.named ∙ ap (λ (ds : List Dropped). ds ++ second.own) first.named ∙ append_assoc xs first.own second.own;
  gone = second.gone ∙ ap (let_go second.own) first.gone ∙ sym (let_go_append first.own second.own hs);
  fewer = omega (arith, first.fewer, second.fewer, length-append first.own second.own);
}

-- A ring that is trimmed

-- what was done so far: further drops may follow; and a queue that is no ring drops nothing
abbrev pub Trimming : Limits → ℕ → List Dropped → List Did → Type 0
Trimming limits q own dids =
    ((xs : List Dropped) (es : List Did) → fit.Trims limits q xs es → fit.Trims limits q (own ++ xs) (dids ++ es)) × (is_ring limits ≡ false → (own ≡ []) × (dids ≡ []))

pub trim_start : (build : Build) (limits : Limits) (q : ℕ) (a : Sight) (hands : List Hand) (drops : List Dropped) → Drops (Trimming limits q) build q a hands drops a hands drops
trim_start build limits q a hands drops = record {
  own = [];
  dids = [];
  fact = (λ xs es trims. trims, λ no. (refl, refl));
  ran = ran_none build a;
  named = sym (append-nil drops);
  gone = refl;
  fewer = omega arith;
}

two_calls : (build : Build) (a m b : Sight) (q : ℕ) (d : Depth) (answer : Answer) → Called build a m CallDepth (IsDepth d) → Called build m b CallOldest answer → RanOn build (calls_on q (On q CallDepth (IsDepth d) ∷ (On q CallOldest answer ∷ []))) a b
two_calls build a m b q d answer looked asked =
    let pairs : List (Call × Answer) = (CallDepth, IsDepth d) ∷ (CallOldest, answer) ∷ [] in
    let same : calls_on q (On q CallDepth (IsDepth d) ∷ (On q CallOldest answer ∷ [])) ≡ pairs = rw (eq-eqb q q refl) refl in
    rw same (ran_append build ((CallDepth, IsDepth d) ∷ []) ((CallOldest, answer) ∷ []) a m b (ran_call build a m CallDepth (IsDepth d) looked) (ran_call build m b CallOldest answer asked))

one_call : (build : Build) (a b : Sight) (q : ℕ) (d : Depth) → Called build a b CallDepth (IsDepth d) → RanOn build (calls_on q (On q CallDepth (IsDepth d) ∷ [])) a b
one_call build a b q d looked =
    let pairs : List (Call × Answer) = (CallDepth, IsDepth d) ∷ [] in
    let same : calls_on q (On q CallDepth (IsDepth d) ∷ []) ≡ pairs = rw (eq-eqb q q refl) refl in
    rw same (ran_call build a b CallDepth (IsDepth d) looked)

-- no row was deleted by a look and a question
pub trims_left : (build : Build) (a b : Sight) (limits : Limits) (answer : Answer) → Trims build a b limits answer → left_to build b ≤ left_to build a
trims_left build a b limits answer t = omega (arith, left_call build a t.between CallDepth (IsDepth t.shown) t.looked, left_call build t.between b CallOldest answer t.asked)

-- the oldest entry was acquired
pub over_hold : (build : Build) (a b : Sight) (limits : Limits) (q r l : ℕ) (load : Load) (hands : List Hand) → Trims build a b limits (IsGot r l load) → Hold a q hands → HoldsAlso b q (Some (r, load)) hands
over_hold build a b limits q r l load hands t hold =
    let k : Hand = hand q r load.id (Some load) in
    let looked : Hold t.between q hands = hold_same a t.between q hands (λ e. keeps_call build a t.between CallDepth (IsDepth t.shown) t.looked e tt) hold in (
      hold_gained build t.between b CallOldest (IsGot r l load) q k hands t.asked looked refl
          (gains_mine build t.between b CallOldest (IsGot r l load) t.asked q r load load.count refl (omega arith)) (keeps_call build t.between b CallOldest (IsGot r l load) t.asked r refl),
      hold.apart,
    )

-- no entry was to be had
pub nothing_hold : (build : Build) (a b : Sight) (limits : Limits) (q : ℕ) (hands : List Hand) → Trims build a b limits IsEmpty → Hold a q hands → Hold b q hands
nothing_hold build a b limits q hands t hold =
    let looked : Hold t.between q hands = hold_same a t.between q hands (λ e. keeps_call build a t.between CallDepth (IsDepth t.shown) t.looked e tt) hold in
    hold_same t.between b q hands (λ e. keeps_call build t.between b CallOldest IsEmpty t.asked e tt) looked

pub fits_hold : (build : Build) (a b : Sight) (limits : Limits) (q : ℕ) (hands : List Hand) → ((is_ring limits ≡ false) × (b ≡ a)) ⊎ IsWithin build a b limits → Hold a q hands → Hold b q hands
fits_hold build a b limits q hands (inl none) hold = subst (λ (z : Sight). Hold z q hands) (sym none.1) hold
fits_hold build a b limits q hands (inr within) hold = hold_same a b q hands (λ e. keeps_call build a b CallDepth (IsDepth within.shown) within.looked e tt) hold

-- one more entry was dropped
pub trim_more : (build : Build) (limits : Limits) (q : ℕ) (a b c : Sight) (r l : ℕ) (load : Load) (hs is ks : List Hand) (xs ys zs : List Dropped)
    → (z : Sight) → Drops (Trimming limits q) build q z hs xs a is ys → Trims build a b limits (IsGot r l load) → Drops (DropsOlder q (Some (r, load))) build q b is ys c ks zs → Drops (Trimming limits q) build q z hs xs c ks zs
trim_more build limits q a b c r l load hs is ks xs ys zs z first t second =
    let front : List Did = On q CallDepth (IsDepth t.shown) ∷ (On q CallOldest (IsGot r l load) ∷ []) in
    let x : Dropped = dropped q load.id in
    let one : Drops (λ own dids. (own ≡ x ∷ []) × DropsOldest limits q x dids) build q a is ys c ks zs = record {
      own = second.own;
      dids = front ++ second.dids;
      fact = (second.fact.1, record { depth = t.shown; beyond = t.beyond; row = r; list = l; load = load; size = second.fact.0; named = refl; did = ap (λ (ds : List Did). front ++ ds) second.fact.2 });
      ran = rw (calls_append q front second.dids) (ran_append build (calls_on q front) (calls_on q second.dids) a b c (two_calls build a t.between b q t.shown (IsGot r l load) t.looked t.asked) second.ran);
      named = second.named;
      gone = second.gone;
      fewer = omega (arith, second.fewer, trims_left build a b limits (IsGot r l load) t);
    } in
    drops_then (Trimming limits q) (λ own dids. (own ≡ x ∷ []) × DropsOldest limits q x dids) (Trimming limits q) build q z a c hs is ks xs ys zs join first one
  where
    join : (o p : List Dropped) (d e : List Did) → Trimming limits q o d → (p ≡ dropped q load.id ∷ []) × DropsOldest limits q (dropped q load.id) e → Trimming limits q (o ++ p) (d ++ e)
    join o p d e before now = (
      λ us es trims.
          let more : fit.Trims limits q (dropped q load.id ∷ us) (e ++ es) = (e, es, now.1, trims, refl) in
          let all : fit.Trims limits q (o ++ dropped q load.id ∷ us) (d ++ (e ++ es)) = before.0 (dropped q load.id ∷ us) (e ++ es) more in
          let named : o ++ dropped q load.id ∷ us ≡ (o ++ p) ++ us = sym (append_assoc o (dropped q load.id ∷ []) us) ∙ ap (λ (v : List Dropped). (o ++ v) ++ us) (sym now.0) in
          subst (λ (v : List Dropped). fit.Trims limits q v ((d ++ e) ++ es)) named (subst (λ (v : List Did). fit.Trims limits q (o ++ dropped q load.id ∷ us) v) (sym (append_assoc d e es)) all),
      λ no. absurd (let bad : true ≡ false = sym t.ring ∙ no in cc),
    )

-- Ends

-- a ring that was found as it is to be
ends : (build : Build) (limits : Limits) (q : ℕ) (z a b : Sight) (hs is : List Hand) (xs ys : List Dropped) (es : List Did)
    → is_ring limits ≡ true → DropsNoMore limits q es → RanOn build (calls_on q es) a b → left_to build b ≤ left_to build a → Drops (Trimming limits q) build q z hs xs a is ys → Drops (TrimsRing (is_ring limits) limits q) build q z hs xs b is ys
ends build limits q z a b hs is xs ys es ring no_more ran fewer first = record {
  own = first.own;
  dids = first.dids ++ es;
  fact = subst (λ (r : Bool). TrimsRing r limits q first.own (first.dids ++ es)) (sym ring) (subst (λ (os : List Dropped). fit.Trims limits q os (first.dids ++ es)) (append-nil first.own) (first.fact.0 [] es no_more));
  ran = rw (calls_append q first.dids es) (ran_append build (calls_on q first.dids) (calls_on q es) z a b first.ran ran);
  named = first.named;
  gone = first.gone;
  fewer = omega (arith, first.fewer, fewer);
}

pub trim_nothing : (build : Build) (limits : Limits) (q : ℕ) (z a b : Sight) (hs is : List Hand) (xs ys : List Dropped) → Trims build a b limits IsEmpty → Drops (Trimming limits q) build q z hs xs a is ys → Drops (TrimsRing (is_ring limits) limits q) build q z hs xs b is ys
trim_nothing build limits q z a b hs is xs ys t first =
    ends build limits q z a b hs is xs ys (On q CallDepth (IsDepth t.shown) ∷ (On q CallOldest IsEmpty ∷ [])) t.ring
    (t.shown, inr (t.beyond, refl)) (two_calls build a t.between b q t.shown IsEmpty t.looked t.asked) (trims_left build a b limits IsEmpty t) first

pub trim_fits : (build : Build) (limits : Limits) (q : ℕ) (z a b : Sight) (hs is : List Hand) (xs ys : List Dropped) → ((is_ring limits ≡ false) × (b ≡ a)) ⊎ IsWithin build a b limits → Drops (Trimming limits q) build q z hs xs a is ys → Drops (TrimsRing (is_ring limits) limits q) build q z hs xs b is ys
trim_fits build limits q z a b hs is xs ys (inl none) first =
    subst (λ (t : Sight). Drops (TrimsRing (is_ring limits) limits q) build q z hs xs t is ys) (sym none.1)
    (record {
      own = first.own;
      dids = first.dids;
      fact = subst (λ (r : Bool). TrimsRing r limits q first.own first.dids) (sym none.0) (first.fact.1 none.0);
      ran = first.ran;
      named = first.named;
      gone = first.gone;
      fewer = first.fewer;
    })
trim_fits build limits q z a b hs is xs ys (inr w) first =
    ends build limits q z a b hs is xs ys (On q CallDepth (IsDepth w.shown) ∷ []) w.ring
    (w.shown, inl (w.within, refl)) (one_call build a b q w.shown w.looked) (left_call build a b CallDepth (IsDepth w.shown) w.looked) first

-- entries of other queues stay, over this and over that
pub others_then : (q : ℕ) (hs is ks : List Hand) → KeepsOthers q hs is → KeepsOthers q is ks → KeepsOthers q hs ks
others_then q hs is ks x y = record { mine = λ t r apart mine. y.mine t r apart (x.mine t r apart mine); within = λ n less each. y.within n less (x.within n less each) }
