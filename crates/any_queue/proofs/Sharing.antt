-- what the tests that share a queue among threads rest on
use Rattle.std.proofs.Common.{◌≡◌, ℕ, zero, suc, ◌+◌, ◌-◌, ◌<◌, ◌≤◌, ◌^◌, List, [], ◌∷◌, length, refl, sym, ap, ◌∙◌, subst, arith, ⊎_elim, inl}
use Rattle.std.specs.Prelude.{Option, Some, None}
use mathlib.Core.List.{Mem, mem-cons_self}
use Rattle.queue_model.specs.declared.queues.Queue.{Queue}
use Rattle.queue_model.specs.declared.rows.RowState.TheVariants.{Available, Dequeued, Locked}
use Rattle.queue_model.specs.declared.rows.Row.{Row}
use Rattle.queue_model.specs.declared.rows.Slip.{Slip}
use Rattle.queue_model.specs.declared.deeds.Deed.{Deed}
use Rattle.queue_model.specs.History.{after}
use Rattle.queue_model.proofs.KeyedLemmas.{all-find}
use Rattle.queue_model.specs.State.{IsIn, is_row}
use Rattle.entry_table.specs.Resting.{Settled}
use Rattle.queue_model.specs.Table.{FitsQueue, most_entries}
use Rattle.acts_core.specs.Asked.{KeyFits, most_callers}
use Rattle.acts_core.specs.Calls.{CallNext, CallOldest, CallLock, CallSteal, IsGot, IsLocked, HasStolen}
use Rattle.acts_core.specs.Hands.{InHand}
use Rattle.acts_core.specs.Load.{Load}
use Rattle.acts_core.specs.Meaning.{Called}
use Rattle.acts_core.specs.Sight.{Kind, Listed, Sorted, LastValue, Build, Sight, known}
use Rattle.acts_core.proofs.Passes.{pass_gains, pass_hands}
use Rattle.acts_core.proofs.Running.{lists_stay}
use Rattle.entry_table.specs.Plays.{not_in}
use Rattle.entry_table.specs.Rule.{below}
use Rattle.any_queue.specs.Parting.{IsFresh, IsLast, IsSplit, MayPart, StartsApart}
use Rattle.any_queue.proofs.Parting.{has_mem, mem_has}

-- an entry that two consumers want fits a queue of one list and two consumers
pub fits_two : (s : Sight) (slip : Slip) → s.opening.lists ≡ 1 → s.opening.consumers ≡ 2 → slip.size ≡ 0 → slip.mask ≡ 3 → slip.list ≡ 0
    → FitsQueue (known s).lists (known s).consumers slip
fits_two s slip one two size mask list =
    let stay = lists_stay s.opening s.seen in
    record {
      size = omega (arith, size);
      list = let lists = stay.0 in omega (arith, lists, one, list);
      mask = subst (λ (n : ℕ). slip.mask < 2 ^ n) (sym (stay.1 ∙ two)) (omega (arith, mask));
    }

-- an entry that one consumer wants fits a queue of one list and that consumer
pub fits_one : (s : Sight) (slip : Slip) → s.opening.lists ≡ 1 → s.opening.consumers ≡ 1 → slip.size ≡ 0 → slip.mask ≡ 1 → slip.list ≡ 0
    → FitsQueue (known s).lists (known s).consumers slip
fits_one s slip one also size mask list =
    let stay = lists_stay s.opening s.seen in
    record {
      size = omega (arith, size);
      list = let lists = stay.0 in omega (arith, lists, one, list);
      mask = subst (λ (n : ℕ). slip.mask < 2 ^ n) (sym (stay.1 ∙ also)) (omega (arith, mask));
    }

-- any queue may start with nothing
pub none_apart : {C : Type 0} (kind : Kind) (start : List (Slip × C)) → start ≡ [] → StartsApart kind start
none_apart {C} kind start none = subst (StartsApart kind) (sym none) (by_kind kind) where
  by_kind : (k : Kind) → StartsApart {C = C} k []
  by_kind Listed = tt
  by_kind Sorted = tt
  by_kind LastValue = λ i j less low. absurd (omega (arith, low))

-- each kind of queue takes an entry without a key
pub none_fits : (kind : Kind) (key : Option (List ℕ)) → key ≡ None → KeyFits kind key
none_fits Listed key none = none
none_fits Sorted key none = tt
none_fits LastValue key none = tt

-- of a new queue the boss's pass is the last
pub fresh_last : {C : Type 0} (load : C → Load) (kind : Kind) (lists rows n : ℕ) (start : List (Slip × C)) (build : Build) (s : Sight) → IsFresh load kind lists rows n start build s → IsLast s
fresh_last load kind lists rows n start build s f = record {
  boss = ap (λ (z : Sight). z.caller) f.sight;
  every = λ k low.
      let made = ap (λ (z : Sight). z.made) f.sight in
      let caller = ap (λ (z : Sight). z.caller) f.sight in
      let is : s.caller ≡ k = omega (arith, low, made, caller) in
      subst (λ (h : ℕ). Mem h (s.caller ∷ s.ended)) is mem-cons_self;
  settled = subst (λ (ds : List Deed). Settled (after s.opening ds)) (sym (ap (λ (z : Sight). z.seen) f.sight)) rests;
} where
  rests : Settled s.opening
  rests r x e =
      let free : x.state ≡ Available = all-find (λ (y : Row). y.state ≡ Available) (is_row r) s.opening.rows x f.opened.available e in
      ((λ gone. let bad : Available ≡ Dequeued = sym free ∙ gone in absurd (cc)), λ h held. let bad : Available ≡ Locked h = sym free ∙ held in absurd (cc))

-- the boss's pass of a new queue of two consumers has the first
pub has_zero : {C : Type 0} (load : C → Load) (kind : Kind) (lists rows n : ℕ) (start : List (Slip × C)) (build : Build) (s : Sight) → IsFresh load kind lists rows n start build s → n ≡ 2 → Mem 0 s.consumers
has_zero load kind lists rows n start build s f two = subst (Mem 0) (sym (ap (λ (z : Sight). z.consumers) f.sight ∙ ap below two)) mem-cons_self

-- the boss's pass, as its splits leave it
pub record Leads (o : Queue) (m a n : ℕ) (cs : List ℕ) (s : Sight) : Type 0 where
  pub opening : s.opening ≡ o
  pub caller : s.caller ≡ 0
  pub made : s.made ≡ m
  pub allowance : s.allowance ≡ a
  pub share : s.share ≡ n
  pub consumers : s.consumers ≡ cs

module _ {C : Type 0} (load : C → Load) where
  pub leads_fresh : (kind : Kind) (lists rows consumers : ℕ) (start : List (Slip × C)) (build : Build) (s : Sight) → IsFresh load kind lists rows consumers start build s → start ≡ [] → consumers ≡ 2
      → Leads s.opening 1 most_entries rows (0 ∷ 1 ∷ []) s
  leads_fresh kind lists rows consumers start build s f nothing two =
      let none : length start ≡ 0 = ap (λ (xs : List (Slip × C)). length xs) nothing in record {
        opening = refl;
        caller = ap (λ (z : Sight). z.caller) f.sight;
        made = ap (λ (z : Sight). z.made) f.sight;
        allowance = let sum = f.allowance in omega (arith, sum, none);
        share = let sum = f.share in omega (arith, sum, none);
        consumers = ap (λ (z : Sight). z.consumers) f.sight ∙ ap below two;
      }

module _ (o : Queue) (m a k : ℕ) (cs xs : List ℕ) (n : ℕ) (old boss new : Sight) (l : Leads o m a k cs old) where
  pub leads_split : IsSplit old boss new xs n → Leads o (m + 1) (a - n) (k - n) (not_in xs cs) boss
  leads_split t = record {
    opening = ap (λ (z : Sight). z.opening) t.boss_is ∙ l.opening;
    caller = ap (λ (z : Sight). z.caller) t.boss_is ∙ l.caller;
    made = ap (λ (z : Sight). z.made) t.boss_is ∙ ap (λ (x : ℕ). x + 1) l.made;
    allowance = ap (λ (z : Sight). z.allowance) t.boss_is ∙ ap (λ (x : ℕ). x - n) l.allowance;
    share = ap (λ (z : Sight). z.share) t.boss_is ∙ ap (λ (x : ℕ). x - n) l.share;
    consumers = ap (λ (z : Sight). z.consumers) t.boss_is ∙ ap (not_in xs) l.consumers;
  }

  pub may_part : m < most_callers → n ≤ a → n ≤ k → ((c : ℕ) → Mem c xs → Mem c cs) → MayPart old xs n
  may_part few allowed room has = record {
    boss = l.caller;
    made = subst (λ (x : ℕ). x < most_callers) (sym l.made) few;
    has = λ c i. subst (Mem c) (sym l.consumers) (has c i);
    allowance = subst (λ (x : ℕ). n ≤ x) (sym l.allowance) allowed;
    share = subst (λ (x : ℕ). n ≤ x) (sym l.share) room;
  }

-- a new pass has the consumer that it got
pub new_serves : (old boss new : Sight) (c n : ℕ) → IsSplit old boss new (c ∷ []) n → Mem c new.consumers
new_serves old boss new c n t = subst (Mem c) (sym (ap (λ (z : Sight). z.consumers) t.new_is)) mem-cons_self

-- the first of two
pub first_of_two : (c : ℕ) → Mem c (0 ∷ []) → Mem c (0 ∷ 1 ∷ [])
first_of_two c i = has_mem c (0 ∷ 1 ∷ []) (⊎_elim (λ e. inl e) (λ z. absurd z) (mem_has c (0 ∷ []) i))

-- the oldest entry that was got is held
pub oldest_held : (build : Build) (a b : Sight) (r l : ℕ) (load : Load) → Called build a b CallOldest (IsGot r l load) → IsIn (known b) r (Locked b.caller)
oldest_held build a b r l load m =
    let t = (pass_gains build a b CallOldest (IsGot r l load) r load m refl).0 in
    (t.row, t.found, t.held)

-- and in hand
pub oldest_hand : (build : Build) (a b : Sight) (r l : ℕ) (load : Load) → Called build a b CallOldest (IsGot r l load) → InHand b r (Some load)
oldest_hand build a b r l load m = pass_hands build a b CallOldest (IsGot r l load) r load load.count m refl (omega arith)

-- the next entry of a consumer that was got is in hand
pub next_hand : (build : Build) (a b : Sight) (c r l : ℕ) (load : Load) → Called build a b (CallNext c) (IsGot r l load) → InHand b r (Some load)
next_hand build a b c r l load m = pass_hands build a b (CallNext c) (IsGot r l load) r load load.count m refl (omega arith)

-- what was stolen is held
pub stolen_held : (build : Build) (a b : Sight) (r : ℕ) (load : Load) → Called build a b (CallSteal r) (HasStolen load) → IsIn (known b) r (Locked b.caller)
stolen_held build a b r load m =
    let t = (pass_gains build a b (CallSteal r) (HasStolen load) r load m refl).0 in
    (t.row, t.found, t.held)

-- what was locked again is in hand
pub locked_hand : (build : Build) (a b : Sight) (r : ℕ) (load : Load) → Called build a b (CallLock r) (IsLocked load) → InHand b r (Some load)
locked_hand build a b r load m = pass_hands build a b (CallLock r) (IsLocked load) r load load.count m refl (omega arith)
