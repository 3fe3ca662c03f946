-- targets that are prepared for the takes of an actor's lines
use Rattle.std.proofs.Common.{◌≡◌, ◌≢◌, ◌<◌, ◌≤◌, ◌+◌, ℕ, Option, Some, None, List, length, slice_get, refl, sym, ap, ◌∙◌, subst, ⊎_elim, arith}
use Rattle.std.specs.Prelude.{Result, Ok, Err}
use Rattle.std.specs.List.{AllByRecursion, count_by}
use Rattle.std.proofs.lemmas.Bool.{cases_eq, cases_lt}
use Rattle.target_core.specs.Hands.{PreparesPlace, PreparesRoster}
use Rattle.target_core.specs.Seats.{Seat, Seats, in_place, left_of, seat_at}
use Rattle.line_core.specs.Places.{IsReady}
use Rattle.workers_core.specs.Jobs.{takes_for}
use Rattle.workers_core.specs.Made.{SeatsStay, StaysPlace, TakesWithin}
use Rattle.workers_core.specs.Ready.{MayTakeAll}
use Rattle.workers_core.specs.declared.jobs.Job.{Job}
use Rattle.workers_core.proofs.Served.{none_past}
use Rattle.workers_core.proofs.Ones.{set_other}

stays_self : (o : Option Seat) → StaysPlace o o
stays_self None = tt
stays_self (Some s) = record { deliveries = refl; limit = refl; room = omega arith }

-- targets that nobody touched stay
pub stays_all : (seats : Seats) → SeatsStay seats seats
stays_all seats c = stays_self (seat_at seats c)

stays_then : (a b c : Option Seat) → StaysPlace a b → StaysPlace b c → StaysPlace a c
stays_then None None c x y = y
stays_then None (Some t) c x y = absurd x
stays_then (Some s) None c x y = absurd x
stays_then (Some s) (Some t) None x y = absurd y
stays_then (Some s) (Some t) (Some u) x y = record {
  deliveries = y.deliveries ∙ x.deliveries;
  limit = y.limit ∙ x.limit;
  room = omega (arith, x.room, y.room);
}

prepared_ready : (E : Type 0) (u : Unit {0}) (more : ℕ) (old new : Option Seat) → PreparesPlace {E = E} (Ok u) more old new → IsReady more new
prepared_ready E u more (Some old) (Some new) p = p.1
prepared_ready E u more (Some old) None p = absurd p
prepared_ready E u more None (Some new) p = absurd p
prepared_ready E u more None None p = tt

module _ {E : Type 0} where
  prepared_stays : (result : Result (Unit {0}) E) (more : ℕ) (old new : Option Seat) → PreparesPlace result more old new → StaysPlace old new
  prepared_stays (Ok u) more (Some old) (Some new) p = p.0
  prepared_stays (Ok u) more (Some old) None p = absurd p
  prepared_stays (Ok u) more None (Some new) p = absurd p
  prepared_stays (Ok u) more None None p = tt
  prepared_stays (Err e) more (Some old) (Some new) p = p
  prepared_stays (Err e) more (Some old) None p = absurd p
  prepared_stays (Err e) more None (Some new) p = absurd p
  prepared_stays (Err e) more None None p = absurd p

  module _ (result : Result (Unit {0}) E) (c more : ℕ) (now new : Seats) (p : PreparesRoster result c more now new) where
    others_stay : (d : ℕ) → d ≢ c → seat_at new d ≡ seat_at now d
    others_stay d other = ap (λ (seats : Seats). seat_at seats d) p.only ∙ ap in_place (set_other now c d (seat_at new c) other)

    -- one target more was prepared, or wasn't
    pub stays_more : (first : Seats) → SeatsStay first now → SeatsStay first new
    stays_more first stay d = ⊎_elim
        (λ (same : d ≡ c). subst (λ (k : ℕ). StaysPlace (seat_at first k) (seat_at new k)) (sym same) (stays_then (seat_at first c) (seat_at now c) (seat_at new c) (stay c) (prepared_stays result more (seat_at now c) (seat_at new c) p.place)))
        (λ (other : d ≢ c). subst (StaysPlace (seat_at first d)) (sym (others_stay d other)) (stay d))
        (cases_eq d c)

-- those before consumer c are ready for so many takes
abbrev pub ReadyBelow : List ℕ → ℕ → Seats → Type 0
ReadyBelow takes c seats = (d n : ℕ) → d < c → slice_get takes d ≡ Some n → IsReady n (seat_at seats d)

pub ready_more : {E : Type 0} (result : Result (Unit {0}) E) (u : Unit {0}) (takes : List ℕ) (c c' more : ℕ) (now new : Seats) → result ≡ Ok u → PreparesRoster result c more now new → c' ≡ c + 1 → slice_get takes c ≡ Some more → ReadyBelow takes c now → ReadyBelow takes c' new
ready_more {E} result u takes c c' more now new ok p next at ready d n below there = ⊎_elim
    (λ (same : d ≡ c).
    let one : Some n ≡ Some more = sym there ∙ ap (slice_get takes) same ∙ at in
    let number : n ≡ more = cc in
    subst (λ (k : ℕ). IsReady k (seat_at new d)) (sym number) (subst (λ (k : ℕ). IsReady more (seat_at new k)) (sym same) (prepared_ready E u more (seat_at now c) (seat_at new c) (subst (λ (r : Result (Unit {0}) E). PreparesPlace r more (seat_at now c) (seat_at new c)) ok p.place))))
    (λ (other : d ≢ c). subst (IsReady n) (sym (others_stay result c more now new p d other)) (ready d n (omega (arith, below, next, other)) there))
    (cases_eq d c)

ready_none : (o : Option Seat) → IsReady 0 o
ready_none None = tt
ready_none (Some s) = by_limit s.limit
  where
    by_limit : (limit : Option ℕ) → left_of limit (length s.deliveries) 0 ≤ s.room
    by_limit None = omega arith
    by_limit (Some limit) = omega arith

-- targets that are ready for the takes of each consumer are ready for the lines
pub may_take : (seats : Seats) (jobs : List Job) (takes : List ℕ) → AllByRecursion (λ (j : Job). TakesWithin j.op.what) jobs
    → ((c : ℕ) → c < 64 → slice_get takes c ≡ Some (count_by (λ (j : Job). takes_for c j.op.what) jobs))
    → ((c n : ℕ) → slice_get takes c ≡ Some n → IsReady n (seat_at seats c))
    → MayTakeAll seats jobs
may_take seats jobs takes within counts ready c = ⊎_elim
    (λ (below : c < 64). ready c (count_by (λ (j : Job). takes_for c j.op.what) jobs) (counts c below))
    (λ (past : 64 ≤ c). subst (λ (n : ℕ). IsReady n (seat_at seats c)) (sym (none_past c past jobs within)) (ready_none (seat_at seats c)))
    (cases_lt c 64)
