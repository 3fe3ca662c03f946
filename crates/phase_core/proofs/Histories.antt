-- the histories of queues whose actors' passes were joined
use Rattle.std.proofs.Common.{◌≡◌, ◌≢◌, ℕ, zero, suc, ◌+◌, ◌<◌, ◌≤◌, ◌==◌, Bool, true, false, cond, Some, List, [], ◌∷◌, length, refl, sym, ap, ◌∙◌, subst, ⊎_elim, eq-eqb, arith}
use Rattle.std.specs.List.{AllByRecursion}
use Rattle.std.proofs.lemmas.Bool.{cases_Bool}
use mathlib.Core.List.{Mem, mem-cons_self, mem-cons_of_mem}
use Rattle.queue_model.specs.declared.deeds.Deed.{Deed}
use Rattle.queue_model.specs.declared.rows.Row.{Row}
use Rattle.queue_model.specs.declared.rows.RowState.TheVariants.{Locked, Dequeued}
use Rattle.queue_model.specs.History.{after, own}
use Rattle.queue_model.specs.State.{row_at}
use Rattle.acts_core.specs.Rest.{Rests}
use Rattle.acts_core.specs.Sight.{Sight}
use Rattle.any_queue.specs.Parting.{IsLast}
use Rattle.account_core.specs.Played.{IsByActor}
use Rattle.phase_core.specs.Joining.{HasJoined}

-- Callers

-- a caller with no deed has none among these
none_of : (k : ℕ) (d : Deed) (ds : List Deed) → own k (d ∷ ds) ≡ [] → (d.caller ≢ k) × (own k ds ≡ [])
none_of k d ds none = ⊎_elim
    (λ (hit : (d.caller == k) ≡ true).
    let more : own k (d ∷ ds) ≡ d ∷ own k ds = ap (λ (b : Bool). cond b (d ∷ own k ds) (own k ds)) hit in
    let bad : [] ≡ d ∷ own k ds = sym none ∙ more in
    absurd (cc))
    (λ (miss : (d.caller == k) ≡ false). (
      λ e. let both : true ≡ false = sym (eq-eqb d.caller k e) ∙ miss in cc,
      sym (ap (λ (b : Bool). cond b (d ∷ own k ds) (own k ds)) miss) ∙ none,
    ))
    (cases_Bool (d.caller == k))

-- the deeds are of the callers that are left
pub by_actors : (n : ℕ) (ds : List Deed) → own 0 ds ≡ [] → ((k : ℕ) → n + 1 ≤ k → own k ds ≡ []) → AllByRecursion (IsByActor n) ds
by_actors n [] boss others = tt
by_actors n (d ∷ ds) boss others =
    let some : d.caller ≢ 0 = (none_of 0 d ds boss).0 in
    let low : n + 1 ≤ d.caller → ⊥ = λ high. (none_of d.caller d ds (others d.caller high)).0 refl in (
      record { first = omega (arith, some); last = omega (arith, low) },
      by_actors n ds (none_of 0 d ds boss).1 (λ k high. (none_of k d ds (others k high)).1),
    )

-- Ends

rest_settled : (x : Row) → Rests x.state → (x.state ≢ Dequeued) × ((h : ℕ) → x.state ≢ Locked h)
rest_settled x rests = (λ e. let bad : Rests Dequeued = subst Rests e rests in bad, λ h e. let bad : Rests (Locked h) = subst Rests e rests in bad)

-- the boss of a queue of which no row is locked or dequeued is its last
pub is_last : (q n : ℕ) (passes : List (List Sight)) (old new : Sight) → HasJoined q passes old new → old.made ≡ n + 1 → length passes ≡ n
    → ((r : ℕ) (x : Row) → row_at (after new.opening new.seen) r ≡ Some x → Rests x.state) → IsLast new
is_last q n passes old new joined made many rests = record {
  boss = joined.boss.caller;
  every = every;
  settled = λ r x at. rest_settled x (rests r x at);
} where
  every : (k : ℕ) → k < new.made → Mem k (new.caller ∷ new.ended)
  every zero less = subst (λ (h : ℕ). Mem h (new.caller ∷ new.ended)) joined.boss.caller mem-cons_self
  every (suc k) less =
      let count = joined.boss.made in
      let low : k < length passes = omega (arith, less, count, made, many) in
      let is : k + 1 ≡ suc k = omega arith in
      mem-cons_of_mem new.caller (subst (λ (h : ℕ). Mem h new.ended) is (joined.every k low))
