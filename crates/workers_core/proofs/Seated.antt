-- takes, and the targets that they are for
use Rattle.std.proofs.Common.{◌≡◌, ◌<◌, ◌≤◌, ℕ, Bool, true, false, nat_eq, Option, Some, None, List, [], ◌∷◌, length, slice_set, refl, sym, ap, ◌∙◌, subst, eq-eqb, ne_eqb, arith}
use Rattle.std.specs.Option.{option_map}
use Rattle.std.proofs.lemmas.Bool.Decides.{nat_tests}
use Rattle.acts_core.specs.Calls.{CallNext, IsEmpty, IsGot}
use Rattle.acts_core.specs.Load.{Load}
use Rattle.acts_core.specs.Meaning.{Called}
use Rattle.acts_core.specs.Sight.{Build, Sight}
use Rattle.defs_read.specs.Defined.{Defined}
use Rattle.script_read.specs.declared.lines.What.TheVariants.{Take}
use Rattle.report_core.specs.declared.answers.Answer.TheVariants.{Closed, Empty, Got, NoCredit}
use Rattle.report_core.specs.declared.answers.Dropped.{Dropped}
use Rattle.target_core.specs.Seats.{IsWithin, Seat, Seats, left_of, seat_at, served}
use Rattle.target_core.specs.declared.deliveries.Delivery.{Delivery}
use Rattle.txn_core.specs.Shown.{number_after}
use Rattle.line_core.specs.Fits.{On, Standing, delivered, in_hands}
use Rattle.line_core.specs.Hands.{Hand, gained, hand}
use Rattle.line_core.specs.Places.{IsDelivery, IsReady, is_at, is_full, place_of}
use Rattle.line_core.specs.Runs.{DidOn}
use Rattle.line_core.proofs.Running.{ran_call, ran_none}

-- a target that has room isn't at its limit
not_at : (limit : Option ℕ) (taken room : ℕ) → IsWithin limit taken room → 0 < room → is_at limit taken ≡ false
not_at None taken room within some = refl
not_at (Some limit) taken room within some = grind (arith, nat_tests)

pub not_full : (s : Seat) → IsWithin s.limit (length s.deliveries) s.room → 0 < s.room → is_full s ≡ false
not_full s within some = not_at s.limit (length s.deliveries) s.room within some

-- one that has none, and could have, is
at_limit : (limit : Option ℕ) (taken room : ℕ) → left_of limit taken 1 ≤ room → room ≡ 0 → is_at limit taken ≡ true
at_limit None taken room ready none = absurd (omega (arith, ready, none))
at_limit (Some limit) taken room ready none = let less : limit ≤ taken = omega (arith, ready, none) in grind (arith, nat_tests)

pub full : (s : Seat) → IsReady 1 (Some s) → s.room ≡ 0 → is_full s ≡ true
full s ready none = at_limit s.limit (length s.deliveries) s.room ready none

pub some_seat : (o : Option Seat) (n : ℕ) → Some n ≡ option_map (λ s. s.room) o → (s : Seat) × (o ≡ Some s) × (s.room ≡ n)
some_seat None n is = absurd (cc)
some_seat (Some s) n is = let e : n ≡ s.room = cc in (s, refl, sym e)

-- a delivery of a cargo whose count was raised is one of the cargo
pub told_of : (c q n m : ℕ) (load raised : Load) (d : Delivery) → raised ≡ delivered m load → n ≡ raised.count → IsDelivery c q raised.count raised d → IsDelivery c q n load d
told_of c q n m load raised d is count t =
    let u : IsDelivery c q n (delivered m load) d = subst (λ (x : ℕ). IsDelivery c q x (delivered m load) d) (sym count) (subst (λ (l : Load). IsDelivery c q raised.count l d) is t) in
    record { message = u.message; whole = u.whole; told = u.told }

-- and the entry is the cargo's, with the count
pub entry_of : (q row i n : ℕ) (load raised : Load) → i ≡ load.id → raised ≡ delivered (number_after load.count) load → n ≡ number_after load.count → hand q row i (Some raised) ≡ in_hands q row (delivered n load)
entry_of q row i n load raised id is number =
    ap (λ (x : ℕ). hand q row x (Some raised)) id
    ∙ ap (λ (l : Load). hand q row load.id (Some l)) is
    ∙ ap (λ (x : ℕ). hand q row load.id (Some (delivered x load))) (sym number)

module _ (build : Build) (a : Sight) (q k c : ℕ) (hands : List Hand) (seats : Seats) (stopped : List Bool) (drops : List Dropped) where
  abbrev stands : Standing
  stands = record { hands = hands; seats = seats; stopped = stopped; drops = drops }

  pub closed : seat_at seats c ≡ None → (defs : List Defined) → DidOn defs build q a stands (Take c) Closed a stands
  closed none defs = record { dids = []; fits = (none, record { did = refl; same = refl }); here = ran_none build a; elsewhere = λ e apart. refl }

  pub no_credit : (s : Seat) → seat_at seats c ≡ Some s → is_full s ≡ true → (defs : List Defined) → DidOn defs build q a stands (Take c) NoCredit a stands
  no_credit s there at_end defs = record { dids = []; fits = ((s, there, at_end), record { did = refl; same = refl }); here = ran_none build a; elsewhere = λ e apart. refl }

  off : (r : ℕ) → (r ≡ q → ⊥) → nat_eq q r ≡ false
  off r apart = ne_eqb q r (λ e. apart (sym e))

  pub missed : (b : Sight) (s : Seat) → seat_at seats c ≡ Some s → is_full s ≡ false → Called build a b (CallNext k) IsEmpty → (defs : List Defined) → place_of defs c ≡ Some (q, k) → DidOn defs build q a stands (Take c) Empty b stands
  missed b s there more m defs place = record {
    dids = On q (CallNext k) IsEmpty ∷ [];
    fits = record { queue = q; place = k; seat = s; serves = record { place = place; there = there; more = more }; did = refl; same = refl };
    here = rw (eq-eqb q q refl) (ran_call build a b (CallNext k) IsEmpty m);
    elsewhere = λ e apart. rw (off e apart) refl;
  }

  pub got : (b : Sight) (s : Seat) (row list id n : ℕ) (load : Load) (d : Delivery) (hands' : List Hand) (seats' : Seats) → seat_at seats c ≡ Some s → is_full s ≡ false → Called build a b (CallNext k) (IsGot row list load)
      → id ≡ load.id → n ≡ number_after load.count → IsDelivery c q n load d → hands' ≡ gained (in_hands q row (delivered n load)) hands → seats' ≡ slice_set seats c (Some (served s d))
      → (defs : List Defined) → place_of defs c ≡ Some (q, k) → DidOn defs build q a stands (Take c) (Got id n) b (record { hands = hands'; seats = seats'; stopped = stopped; drops = drops })
  got b s row list id n load d hands' seats' there more m ids number told after seated defs place = record {
    dids = On q (CallNext k) (IsGot row list load) ∷ [];
    fits = record {
      queue = q;
      place = k;
      row = row;
      list = list;
      seat = s;
      load = load;
      serves = record { place = place; there = there; more = more };
      did = refl;
      id_is = ids;
      number = number;
      delivery = d;
      told = told;
      leaves = rw (after, seated) refl;
    };
    here = rw (eq-eqb q q refl) (ran_call build a b (CallNext k) (IsGot row list load) m);
    elsewhere = λ e apart. rw (off e apart) refl;
  }
