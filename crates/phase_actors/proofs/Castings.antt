-- a phase's actors that were made, and those that are left
use Rattle.std.proofs.Common.{◌≡◌, ◌<◌, ◌≤◌, ℕ, suc, ◌+◌, Bool, Some, Vec, List, [], ◌∷◌, ◌++◌, length, map, slice_get, refl, sym, ap, ◌∙◌, subst, arith, append-nil, append_assoc}
use Rattle.std.specs.List.{AllByRecursion, IsDistinct}
use Rattle.std.specs.Str.{bytes_eq}
use Rattle.std.proofs.lemmas.List.{length-append, length-map}
use Rattle.std.proofs.lemmas.Map.Keys.{IsDistinct-tail}
use Rattle.acts_core.specs.Sight.{Sight}
use Rattle.target_core.specs.Seats.{Seats, seat_at}
use Rattle.defs_read.specs.Defined.{Defined}
use Rattle.script_read.specs.Allowed.{HasOwnOps, ops_in}
use Rattle.script_read.specs.Phases.{Actors}
use Rattle.script_read.specs.declared.lines.Op.{Op}
use Rattle.phase_actors.specs.Cast.{IsCast}
use Rattle.phase_actors.specs.Passes.{AllMayCast, AreBosses, AreSplit}
use Rattle.phase_actors.specs.Targets.{HasTargets, LacksTargets}
use Rattle.phase_actors.proofs.Actors.{AllKept, all_there, left_of, has_more, is_cast, kept_more, lacks_more}
use Rattle.phase_actors.proofs.Lists.{at_last, map_push}
use Rattle.phase_actors.proofs.Moving.{same_refl}
use Rattle.phase_actors.proofs.Parting.{all_cast_on, are_bosses, cast_first, openings_stay}

-- These of a phase's actors were made, and those are left: each that was made is as it should be, and the passes of
-- those that are left may be split off.
pub record Casting {A : Type 0} (made : List A) (name : A → List ℕ) (lines : A → List Op) (number : A → ℕ) (sights : A → List Sight) (seats : A → Seats)
    (defs : List Defined) (first : List Sight) (begin : Seats) (all rest : Actors) (next : ℕ) (bosses : List Sight) (roster : Seats) : Type 0 where
  pub whole : map (λ a. (name a, lines a)) made ++ rest ≡ all
  pub counted : next ≡ length made + 1
  pub as_many : length bosses ≡ length defs
  pub may : AllMayCast defs rest next bosses
  pub openings : map (λ s. s.opening) bosses ≡ map (λ s. s.opening) first
  pub cast : (i : ℕ) (a : A) → slice_get made i ≡ Some a → (number a ≡ i + 1) × IsCast defs first begin (i + 1) (name a) (lines a) (sights a) (seats a)
  pub lacks : LacksTargets begin (ops_in (map (λ a. (name a, lines a)) made)) roster
  pub kept : AllKept begin roster (map seats made)

distinct_rest : (done rest : Actors) → IsDistinct bytes_eq (map (λ a. a.0) (done ++ rest)) → IsDistinct bytes_eq (map (λ a. a.0) rest)
distinct_rest [] rest apart = apart
distinct_rest (d ∷ done) rest apart = distinct_rest done rest (IsDistinct-tail bytes_eq d.0 (map (λ a. a.0) (done ++ rest)) apart)

-- a phase in order: its actors have names of their own, and lines of their own
pub record InOrder (defs : List Defined) (j : Bool) (all : Actors) : Type 0 where
  pub distinct : IsDistinct bytes_eq (map (λ a. a.0) all)
  pub own : AllByRecursion (HasOwnOps defs j) all

module _ {A : Type 0} (name : A → List ℕ) (lines : A → List Op) (number : A → ℕ) (sights : A → List Sight) (seats : A → Seats)
    (defs : List Defined) (first : List Sight) (begin : Seats) (all : Actors) (long : length first ≡ length defs) where
  -- before the first is made
  pub none_cast : (none : List A) (rest : Actors) → none ≡ [] → rest ≡ all → AllMayCast defs all 1 first → Casting none name lines number sights seats defs first begin all rest 1 first begin
  none_cast none rest e same may = subst (λ (l : List A). Casting l name lines number sights seats defs first begin all rest 1 first begin) (sym e) (record {
    whole = same;
    counted = refl;
    as_many = long;
    may = subst (λ (l : Actors). AllMayCast defs l 1 first) (sym same) may;
    openings = refl;
    cast = λ i a at. absurd (let bad = at in cc);
    lacks = λ c. same_refl (seat_at begin c);
    kept = λ c. same_refl (seat_at begin c);
  })

  headed : (made : List A) (ops : List Op) (nm : List ℕ) (before rest : Actors) (next : ℕ) (bosses : List Sight) (roster : Seats)
      → before ≡ (nm, ops) ∷ rest → Casting made name lines number sights seats defs first begin all before next bosses roster
      → Casting made name lines number sights seats defs first begin all ((nm, ops) ∷ rest) next bosses roster
  headed made ops nm before rest next bosses roster head y = subst (λ (l : Actors). Casting made name lines number sights seats defs first begin all l next bosses roster) head y

  -- one more was made
  pub one_cast : (j : Bool) (made after : List A) (a : A) (ops : List Op) (nm : List ℕ) (before rest : Actors) (next : ℕ) (bosses news : List Sight) (roster left : Seats)
      → before ≡ (nm, ops) ∷ rest → InOrder defs j all → after ≡ made ++ a ∷ [] → name a ≡ nm → lines a ≡ ops → number a ≡ next
      → AreSplit defs nm ops bosses news (sights a) → HasTargets roster ops (seats a) → LacksTargets roster ops left
      → Casting made name lines number sights seats defs first begin all before next bosses roster
      → Casting after name lines number sights seats defs first begin all rest (next + 1) news left
  one_cast j made after a ops nm before rest next bosses news roster left head order e named same numbered split has lacks y =
      subst (λ (l : List A). Casting l name lines number sights seats defs first begin all rest (next + 1) news left) (sym e) (record {
        whole = ap (λ (l : Actors). l ++ rest) pushed ∙ append_assoc done ((nm, ops) ∷ []) rest ∙ x.whole;
        counted = omega (arith, x.counted, length-append made (a ∷ []));
        as_many = split.bosses ∙ x.as_many;
        may = all_cast_on defs nm ops rest next bosses news (sights a) x.as_many split (distinct_rest done ((nm, ops) ∷ rest) there.distinct) x.may;
        openings = openings_stay defs nm ops rest next bosses news (sights a) x.as_many split ∙ x.openings;
        cast = at_last (λ i b. (number b ≡ i + 1) × IsCast defs first begin (i + 1) (name b) (lines b) (sights b) (seats b)) made a x.cast (numbered ∙ x.counted, now);
        lacks = subst (λ (l : Actors). LacksTargets begin (ops_in l) left) (sym pushed) (lacks_more begin roster left done nm ops x.lacks lacks);
        kept = subst (λ (l : List Seats). AllKept begin left l) (sym (map_push seats made (made ++ a ∷ []) a refl)) (kept_more begin roster left (map seats made) (seats a) ops x.kept has lacks);
      })
    where
      x : Casting made name lines number sights seats defs first begin all ((nm, ops) ∷ rest) next bosses roster
      x = headed made ops nm before rest next bosses roster head y

      done : Actors
      done = map (λ b. (name b, lines b)) made

      pair : ◌≡◌ {A = List ℕ × List Op} (name a, lines a) (nm, ops)
      pair i = (named i, same i)

      pushed : map (λ b. (name b, lines b)) (made ++ a ∷ []) ≡ done ++ (nm, ops) ∷ []
      pushed = map_push (λ b. (name b, lines b)) made (made ++ a ∷ []) a refl ∙ ap (λ p. done ++ p ∷ []) pair

      there : InOrder defs j (done ++ (nm, ops) ∷ rest)
      there = subst (InOrder defs j) (sym x.whole) order

      has_first : HasTargets begin ops (seats a)
      has_first = has_more defs j begin roster (seats a) done nm ops rest there.distinct there.own x.lacks has

      now : IsCast defs first begin (length made + 1) (name a) (lines a) (sights a) (seats a)
      now = subst (λ p. IsCast defs first begin (length made + 1) p.0 p.1 (sights a) (seats a)) (sym pair)
          (subst (λ n. IsCast defs first begin n nm ops (sights a) (seats a)) x.counted
          (is_cast defs first bosses news (sights a) begin (seats a) nm ops rest next long x.as_many x.openings split x.may has_first))

  -- what holds of each actor holds of the next one
  pub next_holds : (P : List ℕ × List Op → Type 0) (made : List A) (ops : List Op) (nm : List ℕ) (before rest : Actors) (next : ℕ) (bosses : List Sight) (roster : Seats)
      → before ≡ (nm, ops) ∷ rest → AllByRecursion P all → Casting made name lines number sights seats defs first begin all before next bosses roster → P (nm, ops)
  next_holds P made ops nm before rest next bosses roster head each y =
      let x = headed made ops nm before rest next bosses roster head y in
      all_there P (map (λ a. (name a, lines a)) made) (nm, ops) rest (subst (AllByRecursion P) (sym x.whole) each)

  -- its passes may be split off
  pub next_may : (made : List A) (ops : List Op) (nm : List ℕ) (before rest : Actors) (next : ℕ) (bosses : List Sight) (roster : Seats)
      → before ≡ (nm, ops) ∷ rest → Casting made name lines number sights seats defs first begin all before next bosses roster → AllMayCast defs ((nm, ops) ∷ []) next bosses
  next_may made ops nm before rest next bosses roster head y = cast_first defs nm ops rest next bosses (headed made ops nm before rest next bosses roster head y).may

  -- and its number is low
  pub next_low : (made : List A) (ops : List Op) (nm : List ℕ) (before rest : Actors) (next : ℕ) (bosses : List Sight) (roster : Seats)
      → before ≡ (nm, ops) ∷ rest → length all ≤ 32 → Casting made name lines number sights seats defs first begin all before next bosses roster → next < 64
  next_low made ops nm before rest next bosses roster head few y =
      let x = headed made ops nm before rest next bosses roster head y in
      let done : Actors = map (λ a. (name a, lines a)) made in
      let many : length all ≡ length made + suc (length rest) = sym (ap length x.whole) ∙ length-append done ((nm, ops) ∷ rest) ∙ ap (λ n. n + suc (length rest)) (length-map made (λ a. (name a, lines a))) in
      omega (arith, few, many, x.counted)

  -- all were made
  pub all_cast : (made : List A) (next : ℕ) (bosses : List Sight) (roster : Seats) (rest : Actors) → rest ≡ [] → Casting made name lines number sights seats defs first begin all rest next bosses roster
      → (map (λ a. (name a, lines a)) made ≡ all) × AreBosses first (length made + 1) bosses × LacksTargets begin (ops_in all) roster
  all_cast made next bosses roster rest none y =
      let x : Casting made name lines number sights seats defs first begin all [] next bosses roster = subst (λ (l : Actors). Casting made name lines number sights seats defs first begin all l next bosses roster) none y in
      let whole = sym (append-nil (map (λ a. (name a, lines a)) made)) ∙ x.whole in
      let may = subst (λ n. AllMayCast defs [] n bosses) x.counted x.may in
      (whole, are_bosses defs (length made + 1) first bosses x.as_many x.openings may, subst (λ (l : Actors). LacksTargets begin (ops_in l) roster) whole x.lacks)

-- no actor is left
pub none_left : {Z : Type 0} (actors : List (List ℕ × Vec Op Z)) → length actors ≡ 0 → left_of actors ≡ []
none_left [] none = refl
none_left (a ∷ actors) none = absurd (omega (arith, none))
