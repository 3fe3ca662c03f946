-- where the targets were, and where they are
use Rattle.std.proofs.Common.{◌≡◌, ◌⊎◌, inl, inr, ℕ, zero, suc, ◌<◌, ◌||◌, Bool, true, false, if◌then◌else◌, Option, Some, None, List, [], ◌∷◌, map, get_or, slice_get, refl, sym, ap, ◌∙◌, subst, ⊎_elim, eq-eqb, eqb-true, arith}
use Rattle.std.specs.List.{AllByRecursion, IsDistinct, list_any}
use Rattle.std.specs.Option.{IsSomeAnd, option_map}
use Rattle.std.specs.Str.{bytes_eq}
use Rattle.std.proofs.lemmas.Bool.{cases_Bool}
use Rattle.std.proofs.lemmas.List.{length-map}
use Rattle.std.proofs.lemmas.List.Folds.{list_any-append}
use Rattle.std.proofs.lemmas.Map.Keys.{any_passes_from_place, apart_from_distinct}
use Rattle.std.proofs.lemmas.Option.{get_or_from_slice_get, same_Some, slice_get-map, slice_get_within}
use Rattle.std.proofs.lemmas.Slice.Eq.{bytes_eq-Decides}
use Rattle.defs_read.specs.Defined.{Defined, consumers_in}
use Rattle.defs_read.specs.declared.defs.ConsumerDef.{ConsumerDef}
use Rattle.script_read.specs.Allowed.{HasConsumer, HasOwnOps, IsAllowedPhase, IsDefined, IsOpOf, ops_in}
use Rattle.script_read.specs.Phases.{Actors}
use Rattle.script_read.specs.declared.lines.Op.{Op}
use Rattle.script_read.specs.declared.lines.What.{What}
use Rattle.script_read.specs.declared.lines.What.TheVariants.{Put, Take, Close, Ack, Release, Lock, Unlock, Steal, Begin, Commit, Rollback}
use Rattle.target_core.specs.Seats.{Seat, Seats, seat_at}
use Rattle.account_core.specs.Accounts.{Names, SameSeats, SameTarget, SeatsGo, Uses}
use Rattle.account_core.specs.Counting.{actors_of}
use Rattle.account_core.specs.Served.{Grew, StoryServes, served_in}
use Rattle.account_core.specs.Settling.{AreStories}
use Rattle.account_core.specs.Stories.{Story}
use Rattle.phase_actors.specs.Targets.{HasTargets, LacksTargets, is_named, names}
use Rattle.phase_core.specs.Joining.{HaveReturned}
use Rattle.phase_core.proofs.Places.{there}

-- Targets

pub same_target : (o : Option Seat) → SameTarget o o
same_target None = tt
same_target (Some s) = (refl, refl)

pub same_seats : (seats : Seats) → SameSeats seats seats
same_seats seats c = same_target (seat_at seats c)

no_target : (o : Option Seat) → SameTarget None o → o ≡ None
no_target None same = refl
no_target (Some s) same = absurd same

none_grew : (c n : ℕ) (o : Option Seat) → Grew c n None o → o ≡ None
none_grew c n None grew = refl
none_grew c n (Some s) grew = absurd grew

-- Names of consumers

names_true : (c : ℕ) (w : What) → Names c w → names c w ≡ true
names_true c (Take d) same = eq-eqb d c same
names_true c (Close d) same = eq-eqb d c same
names_true c (Put q m) same = absurd same
names_true c (Ack q id) same = absurd same
names_true c (Release q id) same = absurd same
names_true c (Lock q id) same = absurd same
names_true c (Unlock q id) same = absurd same
names_true c (Steal q id) same = absurd same
names_true c Begin same = absurd same
names_true c Commit same = absurd same
names_true c Rollback same = absurd same

true_names : (c : ℕ) (w : What) → names c w ≡ true → Names c w
true_names c (Take d) same = eqb-true d c same
true_names c (Close d) same = eqb-true d c same
true_names c (Put q m) same = absurd (cc)
true_names c (Ack q id) same = absurd (cc)
true_names c (Release q id) same = absurd (cc)
true_names c (Lock q id) same = absurd (cc)
true_names c (Unlock q id) same = absurd (cc)
true_names c (Steal q id) same = absurd (cc)
true_names c Begin same = absurd (cc)
true_names c Commit same = absurd (cc)
true_names c Rollback same = absurd (cc)

-- the place of one that passes
any_at : {X : Type 0} (test : X → Bool) (xs : List X) → list_any test xs ≡ true → (i : ℕ) × (x : X) × (slice_get xs i ≡ Some x) × (test x ≡ true)
any_at test [] any = absurd (cc)
any_at test (x ∷ xs) any = ⊎_elim
    (λ (hit : test x ≡ true). (zero, x, refl, hit))
    (λ (miss : test x ≡ false).
    let rest = any_at test xs (sym (ap (λ (b : Bool). b || list_any test xs) miss) ∙ any) in
    (suc rest.0, rest.1, rest.2, rest.3))
    (cases_Bool (test x))

or_true : (a b : Bool) → (a || b) ≡ true → (a ≡ true) ⊎ (b ≡ true)
or_true true b is = inl refl
or_true false b is = inr is

or_left : (a b : Bool) → a ≡ true → (a || b) ≡ true
or_left a b is = ap (λ (x : Bool). x || b) is

or_right : (a b : Bool) → b ≡ true → (a || b) ≡ true
or_right true b is = refl
or_right false b is = is

-- a line of the story that names a consumer is one of all lines that does
named_among : (c i : ℕ) (s : Story) (stories : List Story) → slice_get stories i ≡ Some s → is_named c s.ops ≡ true → is_named c (ops_in (actors_of stories)) ≡ true
named_among c i s [] at named = absurd (cc)
named_among c zero s (t ∷ stories) at named =
    let same : is_named c t.ops ≡ true = ap (λ (z : Story). is_named c z.ops) (same_Some t s at) ∙ named in
    list_any-append (λ (op : Op). names c op.what) t.ops (ops_in (actors_of stories)) ∙ or_left (is_named c t.ops) (is_named c (ops_in (actors_of stories))) same
named_among c (suc i) s (t ∷ stories) at named =
    list_any-append (λ (op : Op). names c op.what) t.ops (ops_in (actors_of stories))
    ∙ or_right (is_named c t.ops) (is_named c (ops_in (actors_of stories))) (named_among c i s stories at named)

-- and the other way
among_named : (c : ℕ) (stories : List Story) → is_named c (ops_in (actors_of stories)) ≡ true → (i : ℕ) × (s : Story) × (slice_get stories i ≡ Some s) × (is_named c s.ops ≡ true)
among_named c [] named = absurd (cc)
among_named c (t ∷ stories) named = ⊎_elim
    (λ (here : is_named c t.ops ≡ true). (zero, t, refl, here))
    (λ (later : is_named c (ops_in (actors_of stories)) ≡ true). let r = among_named c stories later in (suc r.0, r.1, r.2, r.3))
    (or_true (is_named c t.ops) (is_named c (ops_in (actors_of stories))) (sym (list_any-append (λ (op : Op). names c op.what) t.ops (ops_in (actors_of stories))) ∙ named))

-- Who names a consumer

uses_named : (c i : ℕ) (s : Story) (stories : List Story) → Uses c stories i s → is_named c s.ops ≡ true
uses_named c i s stories u = any_passes_from_place (λ (op : Op). names c op.what) s.ops u.at u.op u.line (names_true c u.op.what u.names)

named_uses : (c i : ℕ) (s : Story) (stories : List Story) → slice_get stories i ≡ Some s → is_named c s.ops ≡ true → Uses c stories i s
named_uses c i s stories at named =
    let line = any_at (λ (op : Op). names c op.what) s.ops named in
    record { there = at; at = line.0; op = line.1; line = line.2; names = true_names c line.1.what line.3 }

-- a defined line names a consumer of its actor
names_own : (defs : List Defined) (name : List ℕ) (c : ℕ) (w : What) → Names c w → IsDefined defs name w → HasConsumer defs name c
names_own defs name c (Take d) same own = subst (HasConsumer defs name) same own
names_own defs name c (Close d) same own = subst (HasConsumer defs name) same own
names_own defs name c (Put q m) same own = absurd same
names_own defs name c (Ack q id) same own = absurd same
names_own defs name c (Release q id) same own = absurd same
names_own defs name c (Lock q id) same own = absurd same
names_own defs name c (Unlock q id) same own = absurd same
names_own defs name c (Steal q id) same own = absurd same
names_own defs name c Begin same own = absurd same
names_own defs name c Commit same own = absurd same
names_own defs name c Rollback same own = absurd same

one_owner : (o : Option ConsumerDef) (a b : List ℕ) → IsSomeAnd o (λ x. x.actor ≡ a) → IsSomeAnd o (λ x. x.actor ≡ b) → a ≡ b
one_owner None a b of_a of_b = absurd of_a
one_owner (Some x) a b of_a of_b = sym of_a ∙ of_b

all_at : {X : Type 0} (P : X → Type 0) (xs : List X) (i : ℕ) (x : X) → AllByRecursion P xs → slice_get xs i ≡ Some x → P x
all_at P [] i x all at = absurd (cc)
all_at P (y ∷ ys) zero x all at = subst P (same_Some y x at) all.0
all_at P (y ∷ ys) (suc i) x all at = all_at P ys i x all.1 at

-- names that are apart are not the same in two places
one_place : (ks : List (List ℕ)) (i j : ℕ) (a b : List ℕ) → IsDistinct bytes_eq ks → slice_get ks i ≡ Some a → slice_get ks j ≡ Some b → a ≡ b → i < j → ⊥
one_place ks i j a b distinct at_i at_j same less =
    let apart : bytes_eq (get_or ks i a) (get_or ks j a) ≡ false = apart_from_distinct bytes_eq ks i j a distinct less (slice_get_within ks j b at_j) in
    let is_a : get_or ks i a ≡ a = get_or_from_slice_get ks i a a at_i in
    let is_b : get_or ks j a ≡ b = get_or_from_slice_get ks j b a at_j in
    let hit : bytes_eq (get_or ks i a) (get_or ks j a) ≡ true = (bytes_eq-Decides (get_or ks i a) (get_or ks j a)).1 (is_a ∙ same ∙ sym is_b) in
    let bad : true ≡ false = sym hit ∙ apart in
    cc

-- The targets of the consumers that an actor's lines name are its own meanwhile, and nobody else's.
module _ (defs : List Defined) (journal : Bool) (actors : Actors) (stories : List Story) (seats left back : Seats) (law : StoryServes) (phase : IsAllowedPhase defs journal actors) (lines : map {B = List ℕ × List Op} (λ s. (s.name, s.ops)) stories ≡ actors) (fit : AreStories defs stories)
    (has : (i : ℕ) (s : Story) → slice_get stories i ≡ Some s → HasTargets seats s.ops s.seats) (lacks : LacksTargets seats (ops_in actors) left) (returned : HaveReturned left (map (λ s. s.end.seats) stories) back) where
  -- an actor whose lines don't name a consumer has no target of it in the end
  has_none : (c i : ℕ) (s : Story) → slice_get stories i ≡ Some s → is_named c s.ops ≡ false → seat_at s.end.seats c ≡ None
  has_none c i s at unnamed =
      let begun : SameTarget None (seat_at s.seats c) = subst (λ (b : Bool). SameTarget (if b then seat_at seats c else None) (seat_at s.seats c)) unnamed (has i s at c) in
      let grew : Grew c (served_in c s.ops s.answers) None (seat_at s.end.seats c) = subst (λ (o : Option Seat). Grew c (served_in c s.ops s.answers) o (seat_at s.end.seats c)) (no_target (seat_at s.seats c) begun) (law defs s (fit i s at) c) in
      none_grew c (served_in c s.ops s.answers) (seat_at s.end.seats c) grew

  actor_at : (i : ℕ) (s : Story) → slice_get stories i ≡ Some s → slice_get actors i ≡ Some (s.name, s.ops)
  actor_at i s at = ap (λ (zs : Actors). slice_get zs i) (sym lines) ∙ slice_get-map (λ (z : Story). (z.name, z.ops)) stories i ∙ ap (option_map (λ (z : Story). (z.name, z.ops))) at

  owner : (c i : ℕ) (s : Story) → slice_get stories i ≡ Some s → is_named c s.ops ≡ true → HasConsumer defs s.name c
  owner c i s at named =
      let line = any_at (λ (op : Op). names c op.what) s.ops named in
      let own : HasOwnOps defs journal (s.name, s.ops) = all_at (HasOwnOps defs journal) actors i (s.name, s.ops) phase.own (actor_at i s at) in
      let op : IsOpOf defs journal s.name line.1 = all_at (IsOpOf defs journal s.name) s.ops line.0 line.1 own.own line.2 in
      names_own defs s.name c line.1.what (true_names c line.1.what line.3) op.defined

  name_at : (i : ℕ) (s : Story) → slice_get stories i ≡ Some s → slice_get (map (λ actor. actor.0) actors) i ≡ Some s.name
  name_at i s at = slice_get-map (λ (a : List ℕ × List Op). a.0) actors i ∙ ap (option_map (λ (a : List ℕ × List Op). a.0)) (actor_at i s at)

  -- one actor alone names a consumer
  alone : (c i j : ℕ) (s t : Story) → slice_get stories i ≡ Some s → slice_get stories j ≡ Some t → is_named c s.ops ≡ true → is_named c t.ops ≡ true → (j ≡ i → ⊥) → ⊥
  alone c i j s t at_s at_t of_s of_t apart =
      let same : s.name ≡ t.name = one_owner (slice_get (consumers_in defs) c) s.name t.name (owner c i s at_s of_s) (owner c j t at_t of_t) in
      let up : i < j → ⊥ = one_place (map (λ actor. actor.0) actors) i j s.name t.name phase.distinct (name_at i s at_s) (name_at j t at_t) same in
      let down : j < i → ⊥ = one_place (map (λ actor. actor.0) actors) j i t.name s.name phase.distinct (name_at j t at_t) (name_at i s at_s) (sym same) in
      apart (omega (arith, up, down))

  lacks_of : (c : ℕ) (b : Bool) → is_named c (ops_in (actors_of stories)) ≡ b → SameTarget (if b then None else seat_at seats c) (seat_at left c)
  lacks_of c b is = subst (λ (x : Bool). SameTarget (if x then None else seat_at seats c) (seat_at left c)) (ap (λ (zs : Actors). is_named c (ops_in zs)) (sym lines) ∙ is) (lacks c)

  end_at : (j : ℕ) (other : Seats) → slice_get (map (λ s. s.end.seats) stories) j ≡ Some other → (t : Story) × (slice_get stories j ≡ Some t) × (t.end.seats ≡ other)
  end_at j other at =
      let within = slice_get_within (map (λ (s : Story). s.end.seats) stories) j other at in
      let t = there stories j (omega (arith, within, length-map stories (λ (s : Story). s.end.seats))) in
      let both : slice_get (map (λ (s : Story). s.end.seats) stories) j ≡ Some t.0.end.seats = slice_get-map (λ (s : Story). s.end.seats) stories j ∙ ap (option_map (λ (s : Story). s.end.seats)) t.1 in
      (t.0, t.1, same_Some t.0.end.seats other (sym both ∙ at))

  taken : (c i : ℕ) (s : Story) → Uses c stories i s → SameTarget (seat_at seats c) (seat_at s.seats c)
  taken c i s u = subst (λ (b : Bool). SameTarget (if b then seat_at seats c else None) (seat_at s.seats c)) (uses_named c i s stories u) (has i s u.there c)

  given : (c i : ℕ) (s : Story) → Uses c stories i s → SameTarget (seat_at s.end.seats c) (seat_at back c)
  given c i s u =
      let named = uses_named c i s stories u in
      let bare : seat_at left c ≡ None = no_target (seat_at left c) (lacks_of c true (named_among c i s stories u.there named)) in
      let at : slice_get (map (λ s. s.end.seats) stories) i ≡ Some s.end.seats = slice_get-map (λ (z : Story). z.end.seats) stories i ∙ ap (option_map (λ (z : Story). z.end.seats)) u.there in
      let others : (j : ℕ) (other : Seats) → slice_get (map (λ s. s.end.seats) stories) j ≡ Some other → (j ≡ i → ⊥) → seat_at other c ≡ None = λ j other at_j apart.
      let t = end_at j other at_j in
      subst (λ (z : Seats). seat_at z c ≡ None) t.2 (⊎_elim
      (λ (yes : is_named c t.0.ops ≡ true). absurd (alone c i j s t.0 u.there t.1 named yes apart))
      (λ (no : is_named c t.0.ops ≡ false). has_none c j t.0 t.1 no)
      (cases_Bool (is_named c t.0.ops))) in
      subst (SameTarget (seat_at s.end.seats c)) (sym (returned.given c i s.end.seats at bare others)) (same_target (seat_at s.end.seats c))

  kept : (c : ℕ) → ((i : ℕ) (s : Story) → Uses c stories i s → ⊥) → SameTarget (seat_at seats c) (seat_at back c)
  kept c unused =
      let none_named : is_named c (ops_in (actors_of stories)) ≡ false = ⊎_elim
      (λ (yes : is_named c (ops_in (actors_of stories)) ≡ true). let r = among_named c stories yes in absurd (unused r.0 r.1 (named_uses c r.0 r.1 stories r.2 r.3)))
      (λ (no : is_named c (ops_in (actors_of stories)) ≡ false). no)
      (cases_Bool (is_named c (ops_in (actors_of stories)))) in
      let others : (j : ℕ) (other : Seats) → slice_get (map (λ s. s.end.seats) stories) j ≡ Some other → seat_at other c ≡ None = λ j other at_j.
      let t = end_at j other at_j in
      subst (λ (z : Seats). seat_at z c ≡ None) t.2 (⊎_elim
      (λ (yes : is_named c t.0.ops ≡ true). absurd (unused j t.0 (named_uses c j t.0 stories t.1 yes)))
      (λ (no : is_named c t.0.ops ≡ false). has_none c j t.0 t.1 no)
      (cases_Bool (is_named c t.0.ops))) in
      subst (SameTarget (seat_at seats c)) (sym (returned.kept c others)) (lacks_of c false none_named)

  pub seats_go : SeatsGo seats stories back
  seats_go = record { taken = taken; given = given; kept = kept }

-- The targets with which the stories begin are those of the actors that they tell of.
module _ {A : Type 0} (name : A → List ℕ) (ops : A → List Op) (own : A → Seats) (seats : Seats) where
  pub has_of : (actors : List A) (stories : List Story) → map {B = List ℕ × List Op} (λ s. (s.name, s.ops)) stories ≡ map {B = List ℕ × List Op} (λ a. (name a, ops a)) actors → map (λ s. s.seats) stories ≡ map own actors
      → ((i : ℕ) (a : A) → slice_get actors i ≡ Some a → HasTargets seats (ops a) (own a))
      → (i : ℕ) (s : Story) → slice_get stories i ≡ Some s → HasTargets seats s.ops s.seats
  has_of [] [] lines begun has i s at = absurd (cc)
  has_of [] (t ∷ stories) lines begun has i s at = absurd (cc)
  has_of (a ∷ actors) [] lines begun has i s at = absurd (cc)
  has_of (a ∷ actors) (t ∷ stories) lines begun has zero s at =
      let first : (t.name, t.ops) ≡ (name a, ops a) = (cc) in
      let lined : t.ops ≡ ops a = ap (λ (p : List ℕ × List Op). p.1) first in
      let seated : t.seats ≡ own a = (cc) in
      subst (λ (z : Story). HasTargets seats z.ops z.seats) (same_Some t s at)
      (subst (λ (z : List Op). HasTargets seats z t.seats) (sym lined)
      (subst (λ (z : Seats). HasTargets seats (ops a) z) (sym seated) (has zero a refl)))
  has_of (a ∷ actors) (t ∷ stories) lines begun has (suc i) s at =
      let lined : map {B = List ℕ × List Op} (λ s. (s.name, s.ops)) stories ≡ map {B = List ℕ × List Op} (λ a. (name a, ops a)) actors = (cc) in
      let seated : map (λ s. s.seats) stories ≡ map own actors = (cc) in
      has_of actors stories lined seated (λ j. has (suc j)) i s at

pub has_for : {A : Type 0} (actors : List A) (name : A → List ℕ) (ops : A → List Op) (own : A → Seats) (seats : Seats) (stories : List Story)
    → map {B = List ℕ × List Op} (λ s. (s.name, s.ops)) stories ≡ map {B = List ℕ × List Op} (λ a. (name a, ops a)) actors → map (λ s. s.seats) stories ≡ map own actors
    → ((i : ℕ) (a : A) → slice_get actors i ≡ Some a → HasTargets seats (ops a) (own a))
    → (i : ℕ) (s : Story) → slice_get stories i ≡ Some s → HasTargets seats s.ops s.seats
has_for actors name ops own seats stories lines begun has = has_of name ops own seats actors stories lines begun has
