-- what leaves a cursor true
use Rattle.std.proofs.Common.{◌≡◌, ◌≢◌, Bool, true, false, cond, ◌==◌, ℕ, zero, suc, ◌+◌, ◌-◌, None, Some, List, [], ◌∷◌, ◌++◌, refl, sym, ap, ◌∙◌, subst, append-nil, ne_eqb}
use Rattle.std.proofs.lemmas.Bool.{cond-false}
use Rattle.std.specs.Int.{bit_at}
use mathlib.Core.List.{Mem}
use Rattle.queue_model.specs.declared.deeds.Act.{Act}
use Rattle.queue_model.specs.declared.deeds.Act.TheVariants.{Acq, Bell, Take}
use Rattle.queue_model.specs.declared.deeds.Deed.{Deed}
use Rattle.queue_model.specs.declared.queues.Queue.{Queue}
use Rattle.queue_model.specs.History.{deed, deeds_of}
use Rattle.acts_core.specs.Calls.{Call, CallReserve, CallGiveBack, CallPut, CallNext, CallOldest, CallLock, CallUnlock, CallRelease, CallSteal, CallDequeue, CallDelete, Answer, IsAt, IsGot, IsEmpty, IsLocked, IsReleased, HasStolen, IsFreed, takes_down, rings_up, acts_of}
use Rattle.acts_core.specs.Meaning.{Called}
use Rattle.acts_core.specs.Owed.{taken_any}
use Rattle.acts_core.specs.Sight.{Build, Plan, Sight, plan_of}
use Rattle.acts_core.proofs.Chaining.{deeds_append}
use Rattle.acts_core.proofs.Stepping.{taken-append}
use Rattle.entry_table.specs.declared.pass.Pass.{Pass}
use Rattle.entry_table.specs.declared.view.View.{View}
use Rattle.entry_table.specs.Passes.{callers, consumers, opening, seen, view}
use Rattle.entry_table.specs.Plays.{DidSplit, Joined}
use Rattle.entry_table.specs.Sights.{sight}
use Rattle.entry_table.specs.Views.{concerning}
use Rattle.entry_table.proofs.Sighting.{takes_more}
use Rattle.cursor_core.specs.declared.cursor.Cursor.{Cursor}
use Rattle.cursor_core.specs.Listing.{IsTrueOf}
use Rattle.cursor_core.specs.Truths.{TrueOf}
use Rattle.cursor_core.proofs.Truths.{true_more, call_outlasts}

-- Calls

-- a walk of another consumer takes none of the consumer's bells
down_untaken : (h c d l n : ℕ) → d ≢ c → taken_any c (deeds_of h (takes_down d l n)) ≡ []
down_untaken h c d l zero other = refl
down_untaken h c d l (suc n) other =
    cond-false (d == c) (deed h (Take d (l + n)) ∷ taken_any c (deeds_of h (takes_down d l n))) (taken_any c (deeds_of h (takes_down d l n))) (ne_eqb d c other)
    ∙ down_untaken h c d l n other

-- nor does a release
up_untaken : (h c r mask k n : ℕ) → taken_any c (deeds_of h (rings_up r mask k n)) ≡ []
up_untaken h c r mask k zero = refl
up_untaken h c r mask k (suc n) =
    elim (bit_at mask k == 1) as (λ b. taken_any c (deeds_of h (cond b (Bell r k ∷ rings_up r mask (k + 1) n) (rings_up r mask (k + 1) n))) ≡ [])
    [ true ↦ up_untaken h c r mask (k + 1) n | false ↦ up_untaken h c r mask (k + 1) n ]

-- where bells are used or not
either : (h c : ℕ) (bells : Bool) (acts : List Act) → taken_any c (deeds_of h acts) ≡ [] → taken_any c (deeds_of h (cond bells acts [])) ≡ []
either h c true acts none = none
either h c false acts none = refl

both_untaken : (h c : ℕ) (xs ys : List Act) → taken_any c (deeds_of h xs) ≡ [] → taken_any c (deeds_of h ys) ≡ [] → taken_any c (deeds_of h (xs ++ ys)) ≡ []
both_untaken h c xs ys a b =
    ap (taken_any c) (deeds_append h xs ys) ∙ taken-append c (deeds_of h xs) (deeds_of h ys)
    ∙ ap (λ (l : List Deed). l ++ taken_any c (deeds_of h ys)) a ∙ b

pub call_untaken : (p : Plan) (h c : ℕ) (call : Call) (answer : Answer) → call ≢ CallNext c → taken_any c (deeds_of h (acts_of p call answer)) ≡ []
call_untaken p h c (CallNext d) (IsGot r l load) other =
    both_untaken h c (cond p.bells (takes_down d l (p.opening.lists - l)) []) (Acq r ∷ [])
    (either h c p.bells (takes_down d l (p.opening.lists - l)) (down_untaken h c d l (p.opening.lists - l) (λ e. other (ap (λ (n : ℕ). CallNext n) e)))) refl
call_untaken p h c (CallNext d) IsEmpty other = either h c p.bells (takes_down d 0 (p.opening.lists - 0)) (down_untaken h c d 0 (p.opening.lists - 0) (λ e. other (ap (λ (n : ℕ). CallNext n) e)))
call_untaken p h c (CallRelease r load) (IsReleased mask) other = either h c p.bells (rings_up r mask 0 p.opening.consumers) (up_untaken h c r mask 0 p.opening.consumers)
call_untaken p h c (CallPut slip load) (IsAt r None) other = refl
call_untaken p h c (CallPut slip load) (IsAt r (Some d)) other = refl
call_untaken p h c (CallReserve size) a other = refl
call_untaken p h c (CallGiveBack size) a other = refl
call_untaken p h c (CallUnlock r load) a other = refl
call_untaken p h c (CallDelete r) a other = refl
call_untaken p h c CallOldest (IsGot r l load) other = refl
call_untaken p h c (CallLock r) (IsLocked load) other = refl
call_untaken p h c (CallSteal r) (HasStolen load) other = refl
call_untaken p h c (CallDequeue r) (IsFreed size) other = refl
call_untaken p h c call a other = refl

pub cursor_outlasts : (build : Build) (old new : Sight) (call : Call) (answer : Answer) (k : Cursor) → Called build old new call answer → Mem k.consumer old.consumers → taken_any k.consumer (deeds_of old.caller (acts_of (plan_of build old.opening) call answer)) ≡ []
    → IsTrueOf old k → IsTrueOf new k
cursor_outlasts build old new call answer k m mem none t =
    subst (λ (o : Queue). TrueOf o k.consumer k.stops new.seen) (sym (ap (λ (s : Sight). s.opening) m.rest))
    (call_outlasts (plan_of build old.opening) old new call answer k.consumer k.stops m mem none t)

-- Splits and joins

-- a longer history in which nothing more concerns the pass takes no bell of its consumers
taken_same : (hs cs : List ℕ) (c : ℕ) (s0 s1 : List Deed) → Mem c cs → concerning hs cs s1 ≡ concerning hs cs s0 ++ [] → taken_any c s1 ≡ taken_any c s0
taken_same hs cs c s0 s1 mem e = takes_more hs cs c s0 s1 [] mem e ∙ append-nil (taken_any c s0)

pub split_outlasts : (old new made : Pass) (cs : List ℕ) (n : ℕ) (k : Cursor) → DidSplit (view old) (view new) (view made) cs n → Mem k.consumer (sight old).consumers → IsTrueOf (sight old) k → IsTrueOf (sight new) k × IsTrueOf (sight made) k
split_outlasts old new made cs n k d mem t =
    let more : TrueOf (opening old) k.consumer k.stops (seen new) =
    true_more (opening old) k.consumer k.stops (seen old) (seen new) d.went.steps.prefix (taken_same (callers old) (consumers old) k.consumer (seen old) (seen new) mem d.went.steps.concern_more) t
    in (
      subst (λ (o : Queue). TrueOf o k.consumer k.stops (seen new)) (sym (ap (λ (v : View). v.opening) d.boss)) more,
      subst (λ (o : Queue). TrueOf o k.consumer k.stops (seen made)) (sym (ap (λ (v : View). v.opening) d.new))
          (subst (λ (ds : List Deed). TrueOf (opening old) k.consumer k.stops ds) (sym (ap (λ (v : View). v.seen) d.new)) more),
    )

pub join_outlasts : (old gone new : Pass) (k : Cursor) → Joined (view old) (view gone) (view new) → opening gone ≡ opening old
    → (Mem k.consumer (sight old).consumers → IsTrueOf (sight old) k → IsTrueOf (sight new) k) × (Mem k.consumer (sight gone).consumers → IsTrueOf (sight gone) k → IsTrueOf (sight new) k)
join_outlasts old gone new k j same =
    let back : opening new ≡ opening old = ap (λ (v : View). v.opening) j.view in (
      λ mem t.
          subst (λ (o : Queue). TrueOf o k.consumer k.stops (seen new)) (sym back)
          (true_more (opening old) k.consumer k.stops (seen old) (seen new) j.mine.prefix (taken_same (callers old) (consumers old) k.consumer (seen old) (seen new) mem j.mine.concern_more) t),
      λ mem t.
          subst (λ (o : Queue). TrueOf o k.consumer k.stops (seen new)) (same ∙ sym back)
          (true_more (opening gone) k.consumer k.stops (seen gone) (seen new) j.gone.prefix
          (taken_same (callers gone) (consumers gone) k.consumer (seen gone) (seen new) mem (j.gone.concerned ∙ sym (append-nil (concerning (callers gone) (consumers gone) (seen gone))))) t),
    )
