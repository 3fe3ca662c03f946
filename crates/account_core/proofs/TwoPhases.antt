-- the accounts of put, take, rest, take
use Rattle.std.proofs.Common.{arith, append-nil, eq-eqb, ne_eqb, ◌≡◌, ◌≢◌, ◌⊎◌, inl, inr, ℕ, zero, suc, ◌<◌, ◌+◌, ◌==◌, false, Some, None, List, [], ◌∷◌, refl, sym, ap, subst, slice_get, find}
use Rattle.std.specs.Int.{bit_at}
use Rattle.std.specs.Fmt.{digits}
use Rattle.std.proofs.lemmas.Nat.Bits.{bit_at_ones_above}
use Rattle.std.proofs.lemmas.Bool.{cases_eq}
use Rattle.queue_model.specs.declared.deeds.Act.TheVariants.{Reserve, Enq, Acq, Take}
use Rattle.queue_model.specs.declared.deeds.Deed.{Deed}
use Rattle.queue_model.specs.declared.rows.Row.{Row}
use Rattle.queue_model.specs.declared.rows.RowState.TheVariants.{Available, Locked, Unlocked}
use Rattle.queue_model.specs.History.{after, Legal, deeds_of}
use Rattle.queue_model.specs.State.{row_at, empty, place_at}
use Rattle.message_core.specs.Spelling.{Content, content}
use Rattle.defs_read.specs.Slips.{IsSlip, IsMask}
use Rattle.queue_model.specs.Order.{Precedes, ByList}
use Rattle.acts_core.specs.Lists.{Passed}
use Rattle.acts_core.specs.Sight.{Plan, Forgotten}
use Rattle.acts_core.specs.Calls.{CallReserve, CallPut, CallNext, CallUnlock, IsDepth, IsAt, IsGot, IsDone}
use Rattle.acts_core.specs.Chains.{Made, Quiet, Chain}
use Rattle.acts_core.specs.Meaning.{Meets}
use Rattle.acts_core.specs.Rest.{Rests}
use Rattle.script_read.specs.declared.lines.Op.{Op}
use Rattle.target_core.specs.Seats.{Seat, Seats, seat_at}
use Rattle.line_core.specs.Fits.{delivered}
use Rattle.line_core.specs.Runs.{calls_on}
use Rattle.account_core.specs.Accounts.{SeatsGo, Names, Uses, SameTarget}
use Rattle.account_core.specs.Carry.{Opens}
use Rattle.account_core.specs.Phases.{IsPhase}
use Rattle.account_core.specs.Played.{Played, IsPlayed, IsByActor, Makes, rest_of}
use Rattle.account_core.specs.Stories.{Story, IsStory, calls_of}
use Rattle.account_core.specs.TwoPhases.{one_queue, queue_q, message, slip, load, delivery, seat_of, first, played_first, second, carried_row, played_second, TwoPhasesText, TwoPhasesRuns}

pub row25_text : TwoPhasesText
unfolding digits
row25_text = refl

-- the mask of one consumer that wants all
mask_is : (m : Content) → IsMask 1 queue_q.consumers m
mask_is m zero = (λ set. tt, λ wanted. refl)
mask_is m (suc c) = (λ (set : bit_at 1 (suc c) ≡ 1). let none : bit_at 1 (suc c) ≡ 0 = bit_at_ones_above 1 (suc c) (omega arith) in absurd (cc), λ wanted. elim wanted [ ])

slip_is : IsSlip queue_q message slip
slip_is = record { id = refl; size = refl; mask = mask_is message; list = refl; key = refl }

first_is : IsStory one_queue first
first_is = (
  _,
  _,
  _,
  (
    refl,
    refl,
    (
      [],
      refl,
      record {
        asks = record { def = queue_q; defined = refl; slip = slip; fits = slip_is; depth = record { entries = 0; bytes = 0 }; was = false; before = refl; now = false; verdict = refl };
        row = 0;
        displaced = None;
        older = [];
        older_dids = [];
        drops_older = (refl, refl);
        oldest = [];
        oldest_dids = [];
        trims = (refl, refl);
        all = refl;
        did = refl;
        leaves = refl;
      },
    ),
  ),
  (
    _,
    _,
    _,
    record { queue = 0; place = 0; row = 0; list = 0; seat = seat_of 1 []; load = load; serves = record { place = refl; there = refl; more = refl }; did = refl; id_is = refl; number = refl; delivery = delivery 1; told = record { message = message; whole = λ here. refl; told = refl }; leaves = refl },
    (refl, refl),
    refl,
  ),
  refl,
)

second_is : IsStory one_queue second
second_is = (
  _,
  _,
  _,
  record { queue = 0; place = 0; row = 0; list = 0; seat = seat_of 1 (delivery 1 ∷ []); load = delivered 1 load; serves = record { place = refl; there = refl; more = refl }; did = refl; id_is = refl; number = refl; delivery = delivery 2; told = record { message = message; whole = λ here. refl; told = refl }; leaves = refl },
  (refl, refl),
  refl,
)

-- the one row of a queue of one row
only : (x y : Row) (r : ℕ) → find (λ (z : Row). z.number == r) (x ∷ []) ≡ Some y → (x.number ≡ r) × (x ≡ y)
only x y r found = by_number (cases_eq x.number r) where
  by_number : (x.number ≡ r) ⊎ (x.number ≢ r) → (x.number ≡ r) × (x ≡ y)
  by_number (inl e) = let yes = eq-eqb x.number r e in let all : Some x ≡ Some y = rw yes at found in (e, cc)
  by_number (inr e) = let no = ne_eqb x.number r e in let none : None ≡ Some y = rw no at found in absurd (cc)

by_one : (d : Deed) → d.caller ≡ 1 → IsByActor 1 d
by_one d is = record { first = omega (arith, is); last = omega (arith, is) }

-- the first history
abbrev q : Plan
q = played_first.plan

abbrev reserved : List Deed
reserved = deeds_of 1 (Reserve 16 ∷ [])

abbrev enqueued : List Deed
enqueued = deeds_of 1 (Reserve 16 ∷ (Enq 0 slip (content message) (0 ∷ []) 0 ∷ []))

abbrev acquired : List Deed
acquired = deeds_of 1 (Reserve 16 ∷ (Enq 0 slip (content message) (0 ∷ []) 0 ∷ (Take 0 0 ∷ (Acq 0 ∷ []))))

-- the bell was taken
abbrev belled : List Deed
belled = deeds_of 1 (Reserve 16 ∷ (Enq 0 slip (content message) (0 ∷ []) 0 ∷ (Take 0 0 ∷ [])))

abbrev row : Row
row = record { number = 0; slip = slip; state = Available; content = content message; origin = 0 ∷ []; count = 0 }

abbrev locked : Row
locked = record row { state = Locked 1 }

legal1 : Legal (empty 1 1) reserved
legal1 = ((omega arith, omega arith), tt)

legal2 : Legal (empty 1 1) enqueued
legal2 = ((omega arith, omega arith), (record { new = refl; fits = record { size = omega arith; list = omega arith; mask = omega arith }; reserved = record { entry = omega arith; bytes = omega arith; rest = omega arith } }, tt))

legal3 : Legal (empty 1 1) acquired
legal3 = (legal2.0, (legal2.1.0, ((omega arith, omega arith), ((row, refl, refl), tt))))

legal4 : Legal (empty 1 1) played_first.history
legal4 = (legal2.0, (legal2.1.0, ((omega arith, omega arith), ((row, refl, refl), ((locked, refl, refl), tt)))))

got : Meets q 1 enqueued acquired (CallNext 0) (IsGot 0 0 load)
got = record {
  grows = (_, refl);
  legal = legal3;
  own_acts = refl;
  besides = record {
    gets = record { moment = belled; before = record { later = (_, refl); early = (_, refl) }; hands = record { row = row; found = refl; same = record { id = refl; size = refl; count = refl; content = refl; origin = refl } }; list = refl; fits = refl };
    passed = λ m from below.
        let low : m < 1 = below in
        let first : 0 ≡ m = omega (arith, low) in
        subst (λ (n : ℕ). Passed Forgotten q 1 0 enqueued acquired n (λ y. Precedes ByList (after (empty 1 1) acquired) y row)) first (enqueued, record { later = (_, refl); early = (_, refl) }, λ y there list before. not_before y there before);
  };
} where
  not_before : {P : Type 0} (y : Row) → find (λ (z : Row). z.number == y.number) (row ∷ []) ≡ Some y → (0 < y.slip.list) ⊎ ((y.slip.list ≡ 0) × (place_at (after (empty 1 1) acquired) y.number < 0)) → P
  not_before y there (inl e) = let is = ap (λ (z : Row). z.slip.list) (only row y y.number there).1 in absurd (omega (arith, is))
  not_before y there (inr e) = absurd (omega arith)

abbrev made : List Made
made =
    record { call = CallReserve 16; answer = IsDepth (record { entries = 0; bytes = 0 }); before = []; later = reserved }
    ∷ (record { call = CallPut slip load; answer = IsAt 0 None; before = reserved; later = enqueued }
    ∷ (record { call = CallNext 0; answer = IsGot 0 0 load; before = enqueued; later = acquired }
    ∷ (record { call = CallUnlock 0 (delivered 1 load); answer = IsDone; before = acquired; later = played_first.history }
    ∷ [])))

quiet : (s : List Deed) → Quiet 1 s s
quiet s = record { grows = ([], append-nil s); own_acts = refl }

chain : Chain q 1 [] made played_first.history
chain = (
  quiet [],
  record { grows = (_, refl); legal = legal1; own_acts = refl; besides = record { moment = []; before = record { later = (_, refl); early = (_, refl) }; state = refl } },
  (
    quiet reserved,
    record { grows = (_, refl); legal = legal2; own_acts = refl; besides = refl },
    (
      quiet enqueued,
      got,
      (quiet acquired, record { grows = (_, refl); legal = legal4; own_acts = refl; besides = tt }, quiet played_first.history),
    ),
  ),
)

-- the second history
abbrev q2 : Plan
q2 = played_second.plan

abbrev taken : List Deed
taken = deeds_of 1 (Take 0 0 ∷ (Acq 0 ∷ []))

legal5 : Legal q2.opening taken
legal5 = ((omega arith, omega arith), ((carried_row, refl, refl), tt))

legal6 : Legal q2.opening played_second.history
legal6 = ((omega arith, omega arith), ((carried_row, refl, refl), ((record carried_row { state = Locked 1 }, refl, refl), tt)))

got2 : Meets q2 1 [] taken (CallNext 0) (IsGot 0 0 (delivered 1 load))
got2 = record {
  grows = (_, refl);
  legal = legal5;
  own_acts = refl;
  besides = record {
    gets = record { moment = deeds_of 1 (Take 0 0 ∷ []); before = record { later = (_, refl); early = (_, refl) }; hands = record { row = carried_row; found = refl; same = record { id = refl; size = refl; count = refl; content = refl; origin = refl } }; list = refl; fits = refl };
    passed = λ m from below.
        let low : m < 1 = below in
        let first : 0 ≡ m = omega (arith, low) in
        subst (λ (n : ℕ). Passed Forgotten q2 1 0 [] taken n (λ y. Precedes ByList (after q2.opening taken) y carried_row)) first ([], record { later = (_, refl); early = (_, refl) }, λ y there list before. not_before y there before);
  };
} where
  not_before : {P : Type 0} (y : Row) → find (λ (z : Row). z.number == y.number) (carried_row ∷ []) ≡ Some y → (0 < y.slip.list) ⊎ ((y.slip.list ≡ 0) × (place_at (after q2.opening taken) y.number < 0)) → P
  not_before y there (inl e) = let is = ap (λ (z : Row). z.slip.list) (only carried_row y y.number there).1 in absurd (omega (arith, is))
  not_before y there (inr e) = absurd (omega arith)

abbrev made2 : List Made
made2 =
    record { call = CallNext 0; answer = IsGot 0 0 (delivered 1 load); before = []; later = taken }
    ∷ (record { call = CallUnlock 0 (delivered 2 load); answer = IsDone; before = taken; later = played_second.history }
    ∷ [])

chain2 : Chain q2 1 [] made2 played_second.history
chain2 = (quiet [], got2, (quiet taken, record { grows = (_, refl); legal = legal6; own_acts = refl; besides = tt }, quiet played_second.history))

-- Phases of one story and one queue

one_of : {A : Type 0} (x y : A) (i : ℕ) → slice_get (x ∷ []) i ≡ Some y → (i ≡ 0) × (x ≡ y)
one_of x y zero found = (refl, cc)
one_of x y (suc i) found = absurd (cc)

first_played : IsPlayed 0 (first ∷ []) played_first
first_played = record { legal = legal4; callers = (by_one _ refl, (by_one _ refl, (by_one _ refl, (by_one _ refl, (by_one _ refl, tt))))); makes = makes; rests = rests } where
  makes : (i : ℕ) (s : Story) → slice_get (first ∷ []) i ≡ Some s → Makes q (i + 1) played_first.history (calls_on 0 (calls_of s))
  makes i s found = let (at, is) = one_of first s i found in subst (λ (t : Story). Makes q (i + 1) played_first.history (calls_on 0 (calls_of t))) is (subst (λ (n : ℕ). Makes q (n + 1) played_first.history (calls_on 0 (calls_of first))) (sym at) (record { made = made; same = refl; chain = chain; own_acts = refl }))

  rests : (r : ℕ) (x : Row) → row_at (rest_of played_first) r ≡ Some x → Rests x.state
  rests r x found = subst (λ (y : Row). Rests y.state) (only (record row { state = Unlocked 1; count = 1 }) x r found).1 tt

second_played : IsPlayed 0 (second ∷ []) played_second
second_played = record { legal = legal6; callers = (by_one _ refl, (by_one _ refl, (by_one _ refl, tt))); makes = makes; rests = rests } where
  makes : (i : ℕ) (s : Story) → slice_get (second ∷ []) i ≡ Some s → Makes q2 (i + 1) played_second.history (calls_on 0 (calls_of s))
  makes i s found = let (at, is) = one_of second s i found in subst (λ (t : Story). Makes q2 (i + 1) played_second.history (calls_on 0 (calls_of t))) is (subst (λ (n : ℕ). Makes q2 (n + 1) played_second.history (calls_on 0 (calls_of second))) (sym at) (record { made = made2; same = refl; chain = chain2; own_acts = refl }))

  rests : (r : ℕ) (x : Row) → row_at (rest_of played_second) r ≡ Some x → Rests x.state
  rests r x found = subst (λ (y : Row). Rests y.state) (only (record row { state = Unlocked 1; count = 2 }) x r found).1 tt

-- the one story of a phase that takes with consumer 0 leads its target on
goes : (s : Story) (before taken given later : Seat) (n : ℕ) (op : Op) → s.seats ≡ Some taken ∷ [] → s.end.seats ≡ Some given ∷ []
    → SameTarget (Some before) (Some taken) → SameTarget (Some given) (Some later)
    → slice_get s.ops n ≡ Some op → Names 0 op.what → SeatsGo (Some before ∷ []) (s ∷ []) (Some later ∷ [])
goes s before taken given later n op at_first at_last came went line names = record {
  taken = λ c i t uses. subst (λ (u : Story). SameTarget (seat_at (Some before ∷ []) c) (seat_at u.seats c)) (one_of s t i uses.there).1 (subst (λ (z : Seats). SameTarget (seat_at (Some before ∷ []) c) (seat_at z c)) (sym at_first) (first_same c));
  given = λ c i t uses. subst (λ (u : Story). SameTarget (seat_at u.end.seats c) (seat_at (Some later ∷ []) c)) (one_of s t i uses.there).1 (subst (λ (z : Seats). SameTarget (seat_at z c) (seat_at (Some later ∷ []) c)) (sym at_last) (last_same c));
  kept = others;
} where
  first_same : (c : ℕ) → SameTarget (seat_at (Some before ∷ []) c) (seat_at (Some taken ∷ []) c)
  first_same zero = came
  first_same (suc c) = tt

  last_same : (c : ℕ) → SameTarget (seat_at (Some given ∷ []) c) (seat_at (Some later ∷ []) c)
  last_same zero = went
  last_same (suc c) = tt

  others : (c : ℕ) → ((i : ℕ) (t : Story) → Uses c (s ∷ []) i t → ⊥) → SameTarget (seat_at (Some before ∷ []) c) (seat_at (Some later ∷ []) c)
  others zero unused = absurd (unused 0 s (record { there = refl; at = n; op = op; line = line; names = names }))
  others (suc c) unused = tt

one_phase : (rows : List Row) (s : Story) (p : Played) (x y : Seat) → Opens queue_q rows p.plan → IsStory one_queue s → IsPlayed 0 (s ∷ []) p → SeatsGo (Some x ∷ []) (s ∷ []) (Some y ∷ [])
    → IsPhase one_queue (rows ∷ []) ((s.name, s.ops) ∷ []) (record { queues = p ∷ []; stories = s ∷ [] }) (Some x ∷ []) (Some y ∷ [])
one_phase rows s p x y opens story is_played seats = record {
  lines = refl;
  opens = (opens, tt);
  stories = λ i t found. subst (λ (u : Story). IsStory one_queue u) (one_of s t i found).1 story;
  queues = λ k r found. let (at, is) = one_of p r k found in subst (λ (u : Played). IsPlayed k (s ∷ []) u) is (subst (λ (n : ℕ). IsPlayed n (s ∷ []) p) (sym at) is_played);
  targets = seats;
}

opens_first : Opens queue_q [] played_first.plan
opens_first = record { kind = refl; rings = refl; lists = refl; consumers = refl; kept = refl; fits = record { rows_apart = tt; rows_fit = tt; available = tt; reserved = refl; bells = refl; few = omega arith } }

opens_second : Opens queue_q (carried_row ∷ []) played_second.plan
opens_second = record { kind = refl; rings = refl; lists = refl; consumers = refl; kept = refl; fits = record { rows_apart = (refl, tt); rows_fit = (record { size = omega arith; list = omega arith; mask = omega arith }, tt); available = (refl, tt); reserved = refl; bells = refl; few = omega arith } }

pub row25_runs : TwoPhasesRuns
row25_runs = (
  _,
  one_phase [] first played_first (seat_of 0 []) (seat_of 0 (delivery 1 ∷ [])) opens_first first_is first_played (goes first _ _ _ _ 1 _ refl refl (refl, refl) (refl, refl) refl refl),
  (
    _,
    one_phase (carried_row ∷ []) second played_second (seat_of 0 (delivery 1 ∷ [])) (seat_of 0 (delivery 1 ∷ (delivery 2 ∷ []))) opens_second second_is second_played (goes second _ _ _ _ 0 _ refl refl (refl, refl) (refl, refl) refl refl),
    refl,
  ),
)
