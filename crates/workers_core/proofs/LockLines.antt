-- lines that lock or unlock an entry in its place
use Rattle.std.proofs.Common.{◌≡◌, ℕ, zero, suc, false, nat_eq, Option, Some, None, List, [], ◌∷◌, slice_get, slice_set, refl, sym, ap, ◌∙◌, subst, eq-eqb, ne_eqb}
use Rattle.queue_model.specs.declared.rows.RowState.{RowState}
use Rattle.queue_model.specs.Keyed.{Apart}
use Rattle.acts_core.specs.Calls.{CallLock, CallUnlock, IsDone, IsLocked, IsStolen}
use Rattle.acts_core.specs.Load.{Load}
use Rattle.acts_core.specs.Meaning.{Called}
use Rattle.acts_core.specs.Sight.{Build, Sight}
use Rattle.script_read.specs.declared.lines.What.TheVariants.{Lock, Unlock}
use Rattle.report_core.specs.declared.answers.Answer.TheVariants.{Locked, Unlocked, Stolen, NotHeld}
use Rattle.line_core.specs.Fits.{NoneLocked, NoneUnlocked, On}
use Rattle.line_core.specs.Hands.{Hand, hand, lost, meant, replaced, same_hand}
use Rattle.workers_core.specs.Hold.{Hold}
use Rattle.workers_core.specs.Lines.{DidHands}
use Rattle.workers_core.proofs.Calls.{keeps_call, leaves_mine, locks_mine}
use Rattle.workers_core.proofs.Holds.{hold_lost, hold_mine, hold_replaced, set_replaced}
use Rattle.line_core.proofs.Running.{ran_call, ran_none}

off : (r q : ℕ) → (r ≡ q → ⊥) → nat_eq q r ≡ false
off r q apart = ne_eqb q r (λ e. apart (sym e))

module _ (build : Build) (a b : Sight) (q : ℕ) (named : Option ℕ) (hands : List Hand) (r id : ℕ) where
  pub locked : (load : Load) → meant q named hands ≡ Some (hand q r id None) → Called build a b (CallLock r) (IsLocked load)
      → DidHands build q a hands (Lock q named) (Locked id) b (replaced (hand q r id (Some load)) hands)
  locked load is_meant m defs s same =
      let k : Hand = hand q r id None in
      record {
        dids = On q (CallLock r) (IsLocked load) ∷ [];
        fits = record { hand = k; is_meant = ap (meant q named) same ∙ is_meant; fact = record { same_id = refl; unlocked = refl; load = load; does = record { did = refl; leaves = ap (λ (hs : List Hand). record s { hands = replaced (hand q r id (Some load)) hs }) (sym same) } } };
        here = rw (eq-eqb q q refl) (ran_call build a b (CallLock r) (IsLocked load) m);
        elsewhere = λ e apart. rw (off e q apart) refl;
      }

  pub taken : (state : RowState) → meant q named hands ≡ Some (hand q r id None) → Called build a b (CallLock r) (IsStolen state)
      → DidHands build q a hands (Lock q named) (Stolen state) b (lost (hand q r id None) hands)
  taken state is_meant m defs s same =
      let k : Hand = hand q r id None in
      record {
        dids = On q (CallLock r) (IsStolen state) ∷ [];
        fits = record { hand = k; is_meant = ap (meant q named) same ∙ is_meant; fact = (refl, record { did = refl; leaves = ap (λ (hs : List Hand). record s { hands = lost k hs }) (sym same) }) };
        here = rw (eq-eqb q q refl) (ran_call build a b (CallLock r) (IsStolen state) m);
        elsewhere = λ e apart. rw (off e q apart) refl;
      }

  pub unlocked : (load : Load) → meant q named hands ≡ Some (hand q r id (Some load)) → Called build a b (CallUnlock r load) IsDone
      → DidHands build q a hands (Unlock q named) (Unlocked id) b (replaced (hand q r id None) hands)
  unlocked load is_meant m defs s same =
      let k : Hand = hand q r id (Some load) in
      record {
        dids = On q (CallUnlock r load) IsDone ∷ [];
        fits = record { hand = k; is_meant = ap (meant q named) same ∙ is_meant; fact = record { same_id = refl; load = load; locked = refl; does = record { did = refl; leaves = ap (λ (hs : List Hand). record s { hands = replaced (hand q r id None) hs }) (sym same) } } };
        here = rw (eq-eqb q q refl) (ran_call build a b (CallUnlock r load) IsDone m);
        elsewhere = λ e apart. rw (off e q apart) refl;
      }

  -- the hands after each
  pub locked_hold : (i : ℕ) (load : Load) → Called build a b (CallLock r) (IsLocked load) → Hold a q hands → slice_get hands i ≡ Some (hand q r id None) → Hold b q (replaced (hand q r id (Some load)) hands)
  locked_hold i load m hold at =
      let mine = hold_mine a q hands i r id None hold at in
      hold_replaced a b q (hand q r id None) (hand q r id (Some load)) hands hold refl refl refl mine (locks_mine build a b q r id load m mine) (keeps_call build a b (CallLock r) (IsLocked load) m r refl)

  pub taken_hold : (i : ℕ) (state : RowState) → Called build a b (CallLock r) (IsStolen state) → Hold a q hands → slice_get hands i ≡ Some (hand q r id None) → Hold b q (lost (hand q r id None) hands)
  taken_hold i state m hold at = hold_lost a b q (hand q r id None) hands hold refl (hold_mine a q hands i r id None hold at) (keeps_call build a b (CallLock r) (IsStolen state) m r refl)

  pub unlocked_hold : (i : ℕ) (load : Load) → Called build a b (CallUnlock r load) IsDone → Hold a q hands → slice_get hands i ≡ Some (hand q r id (Some load)) → Hold b q (replaced (hand q r id None) hands)
  unlocked_hold i load m hold at =
      let mine = hold_mine a q hands i r id (Some load) hold at in
      hold_replaced a b q (hand q r id (Some load)) (hand q r id None) hands hold refl refl refl mine (leaves_mine build a b q r id load m mine) (keeps_call build a b (CallUnlock r load) IsDone m r refl)

-- nothing was done
module _ (build : Build) (a : Sight) (q : ℕ) (named : Option ℕ) (hands : List Hand) where
  pub no_lock : NoneUnlocked (meant q named hands) → DidHands build q a hands (Lock q named) NotHeld a hands
  no_lock none defs s same = record {
    dids = [];
    fits = (subst (λ (hs : List Hand). NoneUnlocked (meant q named hs)) (sym same) none, record { did = refl; same = ap (λ (hs : List Hand). record s { hands = hs }) (sym same) });
    here = ran_none build a;
    elsewhere = λ e apart. refl;
  }

  pub no_unlock : NoneLocked (meant q named hands) → DidHands build q a hands (Unlock q named) NotHeld a hands
  no_unlock none defs s same = record {
    dids = [];
    fits = (subst (λ (hs : List Hand). NoneLocked (meant q named hs)) (sym same) none, record { did = refl; same = ap (λ (hs : List Hand). record s { hands = hs }) (sym same) });
    here = ran_none build a;
    elsewhere = λ e apart. refl;
  }

set_same : (ks : List Hand) (i : ℕ) (k : Hand) → slice_get ks i ≡ Some k → slice_set ks i k ≡ ks
set_same [] zero k at = refl
set_same [] (suc i) k at = refl
set_same (x ∷ ks) zero k at = let same : x ≡ k = cc in ap (λ (z : Hand). z ∷ ks) (sym same)
set_same (x ∷ ks) (suc i) k at = ap (λ (zs : List Hand). x ∷ zs) (set_same ks i k at)

-- an entry that is as it was
pub replaced_self : (ks : List Hand) (i : ℕ) (k : Hand) → Apart same_hand ks → slice_get ks i ≡ Some k → replaced k ks ≡ ks
replaced_self ks i k apart at = sym (set_replaced ks i k k apart at refl refl) ∙ set_same ks i k at
