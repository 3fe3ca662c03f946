-- the passes of actors, joined one actor after the other
use Rattle.std.proofs.Common.{◌≡◌, ◌≢◌, ℕ, suc, ◌+◌, ◌<◌, ◌≤◌, Some, List, [], ◌∷◌, ◌++◌, length, map, take, drop, slice_get, refl, sym, ap, ◌∙◌, subst, ⊎_elim, arith}
use Rattle.std.proofs.lemmas.Bool.{cases_eq}
use Rattle.std.proofs.lemmas.List.{length-map, length_push}
use Rattle.std.proofs.lemmas.Option.{slice_get_within}
use mathlib.Core.List.{IsPrefix, Mem, mem-append_left, mem-append_right, mem-cons_self}
use Rattle.queue_model.specs.declared.queues.Queue.{Queue}
use Rattle.queue_model.specs.History.{Legal, own}
use Rattle.queue_model.proofs.Prefixes.{prefix_trans}
use Rattle.acts_core.specs.Sight.{Sight}
use Rattle.any_queue.specs.Parting.{IsJoined}
use Rattle.phase_actors.specs.Passes.{IsBoss}
use Rattle.phase_core.specs.Joining.{AreJoined, AreOfCaller, HasJoined, HaveJoined, IsOfCaller, SameOpenings}
use Rattle.phase_core.proofs.Places.{at_front, at_last, same_at, shown_one, taken_length, there}

-- One more pass of queue q was joined into its boss's.
module _ (q : ℕ) (passes : List (List Sight)) (gs : List Sight) (old mid g new : Sight) (so_far : HasJoined q passes old mid) (of : IsOfCaller old.opening (length passes + 1) g) (in_place : slice_get gs q ≡ Some g) (j : IsJoined mid g new) where
  still_boss : IsBoss old.opening old.made new.ended new
  still_boss = record {
    opening = ap (λ (z : Sight). z.opening) j.sight ∙ so_far.boss.opening;
    caller = ap (λ (z : Sight). z.caller) j.sight ∙ so_far.boss.caller;
    made = ap (λ (z : Sight). z.made) j.sight ∙ so_far.boss.made;
    ended = refl;
    legal = subst (λ (o : Queue). Legal o new.seen) so_far.boss.opening j.legal;
    idle = ap (λ (h : ℕ). own h new.seen) (sym so_far.boss.caller) ∙ j.own_acts ∙ ap (λ (h : ℕ). own h mid.seen) so_far.boss.caller ∙ so_far.boss.idle;
    unmade = λ k high. j.unmade so_far.boss.caller k (subst (λ (n : ℕ). n ≤ k) (sym so_far.boss.made) high);
  }

  ended_now : new.ended ≡ mid.ended ++ g.caller ∷ g.ended
  ended_now = ap (λ (z : Sight). z.ended) j.sight

  itself : Mem g.caller new.ended
  itself = subst (Mem g.caller) (sym ended_now) (mem-append_right mid.ended mem-cons_self)

  every_now : (i : ℕ) → i < length (passes ++ gs ∷ []) → Mem (i + 1) new.ended
  every_now i less = ⊎_elim
      (λ (e : i ≡ length passes). subst (λ (h : ℕ). Mem h new.ended) (of.caller ∙ ap (λ (n : ℕ). n + 1) (sym e)) itself)
      (λ (other : i ≢ length passes).
      let low : i < length passes = omega (arith, less, length_push passes gs, other) in
      subst (Mem (i + 1)) (sym ended_now) (mem-append_left (g.caller ∷ g.ended) (so_far.every i low)))
      (cases_eq i (length passes))

  -- the pass that was joined last
  last_pass : (i : ℕ) (ts : List Sight) (t : Sight) → i ≡ length passes → slice_get (passes ++ gs ∷ []) i ≡ Some ts → slice_get ts q ≡ Some t → t ≡ g
  last_pass i ts t e at_ts at_t = same_at gs q g t in_place (ap (λ (zs : List Sight). slice_get zs q) (sym (at_last passes gs ts i e at_ts)) ∙ at_t)

  tells_now : (i : ℕ) (ts : List Sight) (t : Sight) → slice_get (passes ++ gs ∷ []) i ≡ Some ts → slice_get ts q ≡ Some t → IsPrefix t.seen new.seen
  tells_now i ts t at_ts at_t = ⊎_elim
      (λ (e : i ≡ length passes). subst (λ (z : Sight). IsPrefix z.seen new.seen) (sym (last_pass i ts t e at_ts at_t)) j.tells)
      (λ (other : i ≢ length passes). prefix_trans t.seen mid.seen new.seen (so_far.tells i ts t (at_front passes gs ts i other at_ts) at_t) j.grows)
      (cases_eq i (length passes))

  whole_now : (i : ℕ) (ts : List Sight) (t : Sight) → slice_get (passes ++ gs ∷ []) i ≡ Some ts → slice_get ts q ≡ Some t → own (i + 1) new.seen ≡ own (i + 1) t.seen
  whole_now i ts t at_ts at_t = ⊎_elim
      (λ (e : i ≡ length passes).
      let h : g.caller ≡ i + 1 = of.caller ∙ ap (λ (n : ℕ). n + 1) (sym e) in
      j.gone_acts (i + 1) (subst (λ (k : ℕ). Mem k (g.caller ∷ g.ended)) h mem-cons_self)
      ∙ ap (λ (z : Sight). own (i + 1) z.seen) (sym (last_pass i ts t e at_ts at_t)))
      (λ (other : i ≢ length passes).
      let at_i = at_front passes gs ts i other at_ts in
      j.ended_acts (i + 1) (so_far.every i (slice_get_within passes i ts at_i)) ∙ so_far.whole i ts t at_i at_t)
      (cases_eq i (length passes))

  pub joins_one : HasJoined q (passes ++ gs ∷ []) old new
  joins_one = record { boss = still_boss; every = every_now; tells = tells_now; whole = whole_now }

-- One more actor's passes were joined.
pub join_more : (passes : List (List Sight)) (gs olds mids news : List Sight) → HaveJoined passes olds mids → AreOfCaller olds (length passes + 1) gs → AreJoined mids gs news → HaveJoined (passes ++ gs ∷ []) olds news
join_more passes gs olds mids news so_far of joined = record { as_many = joined.as_many ∙ so_far.as_many; each = each } where
  each : (q : ℕ) (s t : Sight) → slice_get olds q ≡ Some s → slice_get news q ≡ Some t → HasJoined q (passes ++ gs ∷ []) s t
  each q s t at_s at_t =
      let within : q < length olds = slice_get_within olds q s at_s in
      let mid = there mids q (omega (arith, within, so_far.as_many)) in
      let g = there gs q (omega (arith, within, of.as_many)) in
      joins_one q passes gs s mid.0 g.0 t (so_far.each q s mid.0 at_s mid.1) (of.each q s g.0 at_s g.1) g.1 (joined.each q mid.0 g.0 t mid.1 g.1 at_t)

-- before any pass was joined
joins_none : (q n : ℕ) (s : Sight) → IsBoss s.opening n [] s → HasJoined q [] s s
joins_none q n s b = record {
  boss = record {
    opening = refl;
    caller = b.caller;
    made = refl;
    ended = refl;
    legal = b.legal;
    idle = b.idle;
    unmade = λ k high. b.unmade k (subst (λ (m : ℕ). m ≤ k) b.made high);
  };
  every = λ i less. absurd (omega (arith, less));
  tells = λ i ts t at_ts at_t. absurd (cc);
  whole = λ i ts t at_ts at_t. absurd (cc);
}

pub join_none : (n : ℕ) (olds : List Sight) → ((q : ℕ) (s : Sight) → slice_get olds q ≡ Some s → IsBoss s.opening n [] s) → HaveJoined [] olds olds
join_none n olds bosses = record {
  as_many = refl;
  each = λ q s t at_s at_t. subst (λ (z : Sight). HasJoined q [] s z) (sym (same_at olds q s t at_s at_t)) (joins_none q n s (bosses q s at_s));
}

-- the next actor's passes are of the queues that the bosses' are of, whatever was joined so far
pub openings_so_far : (passes : List (List Sight)) (olds mids gs : List Sight) (h : ℕ) → HaveJoined passes olds mids → AreOfCaller olds h gs → SameOpenings mids gs
openings_so_far passes olds mids gs h so_far of q s t at_s at_t =
    let within : q < length mids = slice_get_within mids q s at_s in
    let old = there olds q (omega (arith, within, so_far.as_many)) in
    (of.each q old.0 t old.1 at_t).opening ∙ sym (so_far.each q old.0 s old.1 at_s).boss.opening

-- what the first actors had, and the next one
module _ {A : Type 0} (all rest : List A) (n : ℕ) (x : A) (next : x ∷ rest ≡ drop n all) (sights : A → List Sight) where
  pub join_next : (olds mids news : List Sight) → HaveJoined (map sights (take n all)) olds mids → AreOfCaller olds (n + 1) (sights x) → AreJoined mids (sights x) news → HaveJoined (map sights (take (suc n) all)) olds news
  join_next olds mids news so_far of joined =
      let long : length (map sights (take n all)) ≡ n = length-map (take n all) sights ∙ taken_length all rest n x next in
      subst (λ (ps : List (List Sight)). HaveJoined ps olds news) (sym (shown_one all rest n x next sights))
      (join_more (map sights (take n all)) (sights x) olds mids news so_far (subst (λ (m : ℕ). AreOfCaller olds (m + 1) (sights x)) (sym long) of) joined)
