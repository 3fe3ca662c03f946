-- actors that are made one after the other
use Rattle.std.proofs.Common.{◌≡◌, ◌<◌, ℕ, ◌||◌, Bool, true, false, cond, Option, Some, None, Vec, List, [], ◌∷◌, ◌++◌, length, map, slice_get, refl, sym, ap, ◌∙◌, subst, arith, eqb-true, append-nil, ◌⊎◌, inl, inr, ⊎_elim}
use Rattle.std.specs.List.{AllByRecursion, IsDistinct}
use Rattle.std.specs.Option.{option_map}
use Rattle.std.specs.Prelude.{IsSomeAnd}
use Rattle.std.specs.Str.{bytes_eq}
use Rattle.std.proofs.lemmas.Bool.{cases_Bool}
use Rattle.std.proofs.lemmas.Grind.{flat_map-append}
use Rattle.std.proofs.lemmas.List.Folds.{list_any-append}
use Rattle.std.proofs.lemmas.Map.Keys.{IsDistinct-head, IsDistinct-tail}
use Rattle.std.proofs.lemmas.Option.{slice_get-map, slice_get_within}
use Rattle.queue_model.specs.declared.queues.Queue.{Queue}
use Rattle.acts_core.specs.Sight.{Sight}
use Rattle.target_core.specs.Seats.{Seat, Seats, seat_at}
use Rattle.defs_read.specs.Allowed.{AreAllowed}
use Rattle.defs_read.specs.Defined.{Defined, consumers_in}
use Rattle.defs_read.specs.declared.defs.ConsumerDef.{ConsumerDef}
use Rattle.script_read.specs.Allowed.{HasConsumer, HasOwnOps, IsDefined, IsOpOf, ops_in}
use Rattle.script_read.specs.Phases.{Actors}
use Rattle.script_read.specs.declared.lines.Op.{Op}
use Rattle.script_read.specs.declared.lines.What.{What}
use Rattle.script_read.specs.declared.lines.What.TheVariants.{Put, Take, Close, Ack, Release, Lock, Unlock, Steal, Begin, Commit, Rollback}
use Rattle.account_core.specs.Accounts.{SameTarget}
use Rattle.workers_core.specs.Made.{puts_in}
use Rattle.phase_actors.specs.Cast.{IsCast}
use Rattle.phase_actors.specs.Passes.{AllMayCast, AreSplit, IsFreshPass, places_of}
use Rattle.phase_actors.specs.Targets.{HasTargets, LacksTargets, NamesWithin, SameTargets, TakesBack, all_back, first_target, is_named, names}
use Rattle.phase_actors.proofs.Lists.{map_push, same_some, was}
use Rattle.phase_actors.proofs.Moving.{back_last, same_refl, same_trans}
use Rattle.phase_actors.proofs.Parting.{fresh_passes, same_names}

-- Consumers of one actor

one_actor : (o : Option ConsumerDef) (a b : List ℕ) → IsSomeAnd o (λ c. c.actor ≡ a) → IsSomeAnd o (λ c. c.actor ≡ b) → a ≡ b
one_actor None a b p q = absurd p
one_actor (Some c) a b p q = sym p ∙ q

-- the consumer that a line names is its actor's
named_own : (defs : List Defined) (name : List ℕ) (c : ℕ) (w : What) → IsDefined defs name w → names c w ≡ true → HasConsumer defs name c
named_own defs name c (Take d) is hit = subst (HasConsumer defs name) (eqb-true d c hit) is
named_own defs name c (Close d) is hit = subst (HasConsumer defs name) (eqb-true d c hit) is
named_own defs name c (Put q m) is hit = absurd (let bad : false ≡ true = hit in cc)
named_own defs name c (Ack q id) is hit = absurd (let bad : false ≡ true = hit in cc)
named_own defs name c (Release q id) is hit = absurd (let bad : false ≡ true = hit in cc)
named_own defs name c (Lock q id) is hit = absurd (let bad : false ≡ true = hit in cc)
named_own defs name c (Unlock q id) is hit = absurd (let bad : false ≡ true = hit in cc)
named_own defs name c (Steal q id) is hit = absurd (let bad : false ≡ true = hit in cc)
named_own defs name c Begin is hit = absurd (let bad : false ≡ true = hit in cc)
named_own defs name c Commit is hit = absurd (let bad : false ≡ true = hit in cc)
named_own defs name c Rollback is hit = absurd (let bad : false ≡ true = hit in cc)

or_cases : (a b : Bool) → (a || b) ≡ true → (a ≡ true) ⊎ (b ≡ true)
or_cases true b e = inl refl
or_cases false b e = inr e

named_consumer : (defs : List Defined) (j : Bool) (name : List ℕ) (c : ℕ) (ops : List Op) → AllByRecursion (IsOpOf defs j name) ops → is_named c ops ≡ true → HasConsumer defs name c
named_consumer defs j name c [] own hit = absurd (let bad : false ≡ true = hit in cc)
named_consumer defs j name c (op ∷ ops) own hit = ⊎_elim
    (λ (here : names c op.what ≡ true). named_own defs name c op.what own.0.defined here)
    (λ (later : is_named c ops ≡ true). named_consumer defs j name c ops own.1 later)
    (or_cases (names c op.what) (is_named c ops) hit)

-- a number of a consumer has a place in a roster
within : (defs : List Defined) (name : List ℕ) (c : ℕ) → AreAllowed defs → HasConsumer defs name c → c < 64
within defs name c allowed has = low (slice_get (consumers_in defs) c) refl has where
  low : (o : Option ConsumerDef) → slice_get (consumers_in defs) c ≡ o → IsSomeAnd o (λ x. x.actor ≡ name) → c < 64
  low None e some = absurd some
  low (Some x) e some = omega (arith, slice_get_within (consumers_in defs) c x e, allowed.consumers)

one_within : (defs : List Defined) (name : List ℕ) (w : What) → AreAllowed defs → IsDefined defs name w → NamesWithin w
one_within defs name (Take c) allowed is = within defs name c allowed is
one_within defs name (Close c) allowed is = within defs name c allowed is
one_within defs name (Put q m) allowed is = tt
one_within defs name (Ack q id) allowed is = tt
one_within defs name (Release q id) allowed is = tt
one_within defs name (Lock q id) allowed is = tt
one_within defs name (Unlock q id) allowed is = tt
one_within defs name (Steal q id) allowed is = tt
one_within defs name Begin allowed is = tt
one_within defs name Commit allowed is = tt
one_within defs name Rollback allowed is = tt

pub all_within : (defs : List Defined) (j : Bool) (name : List ℕ) (ops : List Op) → AreAllowed defs → AllByRecursion (IsOpOf defs j name) ops → AllByRecursion (λ op. NamesWithin op.what) ops
all_within defs j name [] allowed own = tt
all_within defs j name (op ∷ ops) allowed own = (one_within defs name op.what allowed own.0.defined, all_within defs j name ops allowed own.1)

-- No consumer is named by two actors

differs_at : (m : List ℕ) (done : Actors) (a : List ℕ × List Op) (rest : Actors) → AllByRecursion (λ y. bytes_eq m y ≡ false) (map (λ z. z.0) (done ++ a ∷ rest)) → bytes_eq m a.0 ≡ false
differs_at m [] a rest each = each.0
differs_at m (d ∷ done) a rest each = differs_at m done a rest each.1

pub all_there : {X : Type 0} (P : X → Type 0) (xs : List X) (x : X) (ys : List X) → AllByRecursion P (xs ++ x ∷ ys) → P x
all_there P [] x ys each = each.0
all_there P (y ∷ xs) x ys each = all_there P xs x ys each.1

none_twice : (defs : List Defined) (j : Bool) (done : Actors) (a : List ℕ × List Op) (rest : Actors) (c : ℕ)
    → IsDistinct bytes_eq (map (λ z. z.0) (done ++ a ∷ rest)) → AllByRecursion (HasOwnOps defs j) (done ++ a ∷ rest)
    → is_named c a.1 ≡ true → is_named c (ops_in done) ≡ false
none_twice defs j [] a rest c apart own hit = refl
none_twice defs j (d ∷ done) a rest c apart own hit =
    let own_a : HasOwnOps defs j a = all_there (HasOwnOps defs j) done a rest own.1 in
    let later : is_named c (ops_in done) ≡ false = none_twice defs j done a rest c (IsDistinct-tail bytes_eq d.0 (map (λ z. z.0) (done ++ a ∷ rest)) apart) own.1 hit in
    let not_here : is_named c d.1 ≡ false = ⊎_elim
    (λ (yes : is_named c d.1 ≡ true).
    let same : d.0 ≡ a.0 = one_actor (slice_get (consumers_in defs) c) d.0 a.0 (named_consumer defs j d.0 c d.1 own.0.own yes) (named_consumer defs j a.0 c a.1 own_a.own hit) in
    let bad : true ≡ false = sym (same_names d.0 a.0 same) ∙ differs_at d.0 done a rest (IsDistinct-head bytes_eq d.0 (map (λ z. z.0) (done ++ a ∷ rest)) apart) in
    absurd (cc))
    (λ (no : is_named c d.1 ≡ false). no)
    (cases_Bool (is_named c d.1)) in
    list_any-append (λ op. names c op.what) d.1 (ops_in done) ∙ ap (λ b. b || is_named c (ops_in done)) not_here ∙ later

-- The actors that are left

-- the actors of which these are the names and lines
abbrev pub left_of : {Z : Type 0} → List (List ℕ × Vec Op Z) → Actors
left_of actors = map (λ a. (a.0, a.1.items)) actors

-- Where the targets are

-- each target stands in the roster, or with one of the actors
abbrev pub AllKept : Seats → Seats → List Seats → Type 0
AllKept old now owns = (c : ℕ) → SameTarget (seat_at old c) (all_back c (seat_at now c) owns)

first_same : (x y z : Option Seat) → SameTarget x y → SameTarget (first_target x z) (first_target y z)
first_same None None z s = same_refl z
first_same None (Some t) z s = absurd s
first_same (Some r) None z s = absurd s
first_same (Some r) (Some t) z s = s

back_same : (c : ℕ) (x y : Option Seat) (owns : List Seats) → SameTarget x y → SameTarget (all_back c x owns) (all_back c y owns)
back_same c x y [] s = s
back_same c x y (o ∷ owns) s = first_same (all_back c x owns) (all_back c y owns) (seat_at o c) (back_same c x y owns s)

went : (b : Bool) (o n p : Option Seat) → SameTarget (cond b o None) p → SameTarget (cond b None o) n → SameTarget o (first_target n p)
went true o None p s t = s
went true o (Some n) p s t = absurd t
went false None None p s t = s
went false None (Some n) p s t = absurd t
went false (Some r) None p s t = absurd t
went false (Some r) (Some n) p s t = t

pub kept_more : (old now now' : Seats) (owns : List Seats) (own : Seats) (ops : List Op) → AllKept old now owns → HasTargets now ops own → LacksTargets now ops now' → AllKept old now' (owns ++ own ∷ [])
kept_more old now now' owns own ops kept has lacks c =
    let o = seat_at now c in
    let p = first_target (seat_at now' c) (seat_at own c) in
    subst (SameTarget (seat_at old c)) (sym (back_last c (seat_at now' c) owns own))
    (same_trans (seat_at old c) (all_back c o owns) (all_back c p owns) (kept c)
    (back_same c o p owns (went (is_named c ops) o (seat_at now' c) (seat_at own c) (has c) (lacks c))))

-- when an actor was not made, all go back
pub kept_back : (old now now' back : Seats) (owns : List Seats) → AllKept old now owns → SameTargets now now' → ((c : ℕ) → seat_at back c ≡ all_back c (seat_at now' c) owns) → SameTargets old back
kept_back old now now' back owns kept same is c =
    subst (SameTarget (seat_at old c)) (sym (is c))
    (same_trans (seat_at old c) (all_back c (seat_at now c) owns) (all_back c (seat_at now' c) owns) (kept c) (back_same c (seat_at now c) (seat_at now' c) owns (same c)))

gone : (a b : Bool) (o n n' : Option Seat) → SameTarget (cond a None o) n → SameTarget (cond b None n) n' → SameTarget (cond (a || b) None o) n'
gone true true o n n' s t = t
gone true false o None n' s t = t
gone true false o (Some n) n' s t = absurd s
gone false true o n n' s t = t
gone false false o n n' s t = same_trans o n n' s t

-- the roster lacks those of one actor more
pub lacks_more : (old now now' : Seats) (done : Actors) (name : List ℕ) (ops : List Op) → LacksTargets old (ops_in done) now → LacksTargets now ops now' → LacksTargets old (ops_in (done ++ (name, ops) ∷ [])) now'
lacks_more old now now' done name ops before more c =
    let all : is_named c (ops_in (done ++ (name, ops) ∷ [])) ≡ (is_named c (ops_in done) || is_named c ops) = ap (is_named c) (ops_last done name ops) ∙ list_any-append (λ op. names c op.what) (ops_in done) ops in
    subst (λ b. SameTarget (cond b None (seat_at old c)) (seat_at now' c)) (sym all)
    (gone (is_named c (ops_in done)) (is_named c ops) (seat_at old c) (seat_at now c) (seat_at now' c) (before c) (more c))
  where
    ops_last : (done : Actors) (name : List ℕ) (ops : List Op) → ops_in (done ++ (name, ops) ∷ []) ≡ ops_in done ++ ops
    ops_last done name ops = flat_map-append (λ (a : List ℕ × List Op). a.1) done ((name, ops) ∷ []) ∙ ap (λ l. ops_in done ++ l) (append-nil ops)

taken : (a b : Bool) (o n own : Option Seat) → (b ≡ true → a ≡ false) → SameTarget (cond a None o) n → SameTarget (cond b n None) own → SameTarget (cond b o None) own
taken true true o n own other s t = absurd (let bad : true ≡ false = other refl in cc)
taken false true o n own other s t = same_trans o n own s t
taken a false o n own other s t = t

-- and the actor has those that stood in the first roster
pub has_more : (defs : List Defined) (j : Bool) (old now own : Seats) (done : Actors) (name : List ℕ) (ops : List Op) (rest : Actors)
    → IsDistinct bytes_eq (map (λ z. z.0) (done ++ (name, ops) ∷ rest)) → AllByRecursion (HasOwnOps defs j) (done ++ (name, ops) ∷ rest)
    → LacksTargets old (ops_in done) now → HasTargets now ops own → HasTargets old ops own
has_more defs j old now own done name ops rest apart own_ops lacks has c =
    taken (is_named c (ops_in done)) (is_named c ops) (seat_at old c) (seat_at now c) (seat_at own c) (none_twice defs j done (name, ops) rest c apart own_ops) (lacks c) (has c)

-- Targets that are given back

-- the last actor's targets went back
pub back_step : {A : Type 0} (own : A → Seats) (c : ℕ) (all left : List A) (a : A) (now new : Seats) → all ≡ left ++ a ∷ [] → TakesBack now (own a) new
    → all_back c (seat_at new c) (map own left) ≡ all_back c (seat_at now c) (map own all)
back_step own c all left a now new e takes =
    ap (λ x. all_back c x (map own left)) (takes c)
    ∙ sym (back_last c (seat_at now c) (map own left) (own a))
    ∙ sym (ap (all_back c (seat_at now c)) (map_push own left all a e))

pub back_none : {A : Type 0} (own : A → Seats) (c : ℕ) (left : List A) (now : Option Seat) → length left ≡ 0 → all_back c now (map own left) ≡ now
back_none own c [] now none = refl
back_none own c (a ∷ left) now none = absurd (omega (arith, none))

-- An actor that was made

opening_at : (xs ys : List Sight) (q : ℕ) (s t : Sight) → map (λ z. z.opening) xs ≡ map (λ z. z.opening) ys → slice_get xs q ≡ Some s → slice_get ys q ≡ Some t → s.opening ≡ t.opening
opening_at xs ys q s t same at_s at_t =
    same_some s.opening t.opening
    (sym (slice_get-map (λ z. z.opening) xs q ∙ ap (option_map (λ z. z.opening)) at_s)
    ∙ ap (λ os. slice_get os q) same
    ∙ slice_get-map (λ z. z.opening) ys q ∙ ap (option_map (λ z. z.opening)) at_t)

pub is_cast : (defs : List Defined) (first olds news passes : List Sight) (seats own : Seats) (name : List ℕ) (ops : List Op) (rest : Actors) (made : ℕ)
    → length first ≡ length defs → length olds ≡ length defs → map (λ s. s.opening) olds ≡ map (λ s. s.opening) first → AreSplit defs name ops olds news passes → AllMayCast defs ((name, ops) ∷ rest) made olds
    → HasTargets seats ops own → IsCast defs first seats made name ops passes own
is_cast defs first olds news passes seats own name ops rest made long as_many openings split may has = record { as_many = split.as_many; passes = each; targets = has } where
  each : (q : ℕ) (def : Defined) (s t : Sight) → slice_get defs q ≡ Some def → slice_get first q ≡ Some s → slice_get passes q ≡ Some t
      → IsFreshPass s.opening made (places_of name def.consumers) (puts_in q ops) t
  each q def s t at_def at_s at_t =
      let old = was olds first q s (long ∙ sym as_many) at_s in
      let fresh = fresh_passes defs name ops rest made olds news passes as_many split may q def old.0 t at_def old.1 at_t in
      let same : old.0.opening ≡ s.opening = opening_at olds first q old.0 s openings old.1 at_s in
      subst (λ (o : Queue). IsFreshPass o made (places_of name def.consumers) (puts_in q ops) t) same fresh
