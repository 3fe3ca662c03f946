-- the targets of actors, put back one roster after the other; and where they were and are
use Rattle.std.proofs.Common.{◌≡◌, ◌≢◌, ℕ, suc, Option, Some, None, List, [], ◌∷◌, ◌++◌, length, map, take, drop, slice_get, refl, sym, ap, ◌∙◌, subst, ⊎_elim, arith}
use Rattle.std.proofs.lemmas.Bool.{cases_eq}
use Rattle.std.proofs.lemmas.Option.{slice_get_within}
use Rattle.target_core.specs.Seats.{Seat, Seats, seat_at}
use Rattle.phase_actors.specs.Targets.{TakesBack, first_target}
use Rattle.phase_core.specs.Joining.{HaveReturned}
use Rattle.phase_core.proofs.Places.{at_front, at_last, get_front, get_last, shown_one}

first_alone : (o : Option Seat) → first_target o None ≡ o
first_alone None = refl
first_alone (Some s) = refl

-- One more roster was emptied.
module _ (old mid own new : Seats) (owns : List Seats) (so_far : HaveReturned old owns mid) (back : TakesBack mid own new) where
  at_end : slice_get (owns ++ own ∷ []) (length owns) ≡ Some own
  at_end = get_last owns own

  sooner : (j : ℕ) (other : Seats) → slice_get owns j ≡ Some other → slice_get (owns ++ own ∷ []) j ≡ Some other
  sooner j other at = get_front owns own j (slice_get_within owns j other at) ∙ at

  -- where the roster has none
  as_before : (c : ℕ) → seat_at own c ≡ None → seat_at new c ≡ seat_at mid c
  as_before c none = back c ∙ ap (first_target (seat_at mid c)) none ∙ first_alone (seat_at mid c)

  now_kept : (c : ℕ) → ((j : ℕ) (other : Seats) → slice_get (owns ++ own ∷ []) j ≡ Some other → seat_at other c ≡ None) → seat_at new c ≡ seat_at old c
  now_kept c none = as_before c (none (length owns) own at_end) ∙ so_far.kept c (λ j other at. none j other (sooner j other at))

  now_given : (c i : ℕ) (it : Seats) → slice_get (owns ++ own ∷ []) i ≡ Some it → seat_at old c ≡ None → ((j : ℕ) (other : Seats) → slice_get (owns ++ own ∷ []) j ≡ Some other → (j ≡ i → ⊥) → seat_at other c ≡ None) → seat_at new c ≡ seat_at it c
  now_given c i it at bare alone = ⊎_elim
      (λ (e : i ≡ length owns).
      let no_front : (j : ℕ) (other : Seats) → slice_get owns j ≡ Some other → seat_at other c ≡ None = λ j other at_j. alone j other (sooner j other at_j) (λ same. let low = slice_get_within owns j other at_j in omega (arith, low, same, e)) in
      let none : seat_at mid c ≡ None = so_far.kept c no_front ∙ bare in
      back c ∙ ap (λ (o : Option Seat). first_target o (seat_at own c)) none ∙ ap (λ (z : Seats). seat_at z c) (sym (at_last owns own it i e at)))
      (λ (other : i ≢ length owns).
      let at_i : slice_get owns i ≡ Some it = at_front owns own it i other at in
      as_before c (alone (length owns) own at_end (λ same. other (sym same)))
      ∙ so_far.given c i it at_i bare (λ j one at_j apart. alone j one (sooner j one at_j) apart))
      (cases_eq i (length owns))

  pub return_more : HaveReturned old (owns ++ own ∷ []) new
  return_more = record { given = now_given; kept = now_kept }

pub return_none : (old : Seats) → HaveReturned old [] old
return_none old = record { given = λ c i it at bare alone. absurd (cc); kept = λ c none. refl }

-- the first rosters, and the next one
pub return_next : {A : Type 0} (all rest : List A) (n : ℕ) (x : A) → x ∷ rest ≡ drop n all → (seats : A → Seats) (old mid new : Seats)
    → HaveReturned old (map seats (take n all)) mid → TakesBack mid (seats x) new → HaveReturned old (map seats (take (suc n) all)) new
return_next all rest n x next seats old mid new so_far back =
    subst (λ (ss : List Seats). HaveReturned old ss new) (sym (shown_one all rest n x next seats)) (return_more old mid (seats x) new (map seats (take n all)) so_far back)
