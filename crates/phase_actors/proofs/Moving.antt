-- targets that are moved one by one
use Rattle.std.proofs.Common.{◌≡◌, ◌≢◌, ◌<◌, ◌≤◌, ℕ, zero, suc, ◌+◌, ◌==◌, ◌||◌, Bool, true, false, cond, Option, Some, None, List, [], ◌∷◌, ◌++◌, length, map, take, get_or, slice_set, refl, sym, ap, ◌∙◌, subst, arith, eq-eqb, ne_eqb, ⊎_elim}
use Rattle.std.proofs.lemmas.List.{length-map, take_all}
use Rattle.std.proofs.lemmas.List.Folds.{list_any_more}
use Rattle.std.proofs.lemmas.Option.{slice_get_past}
use Rattle.std.proofs.lemmas.Bool.{cases_eq, cases_lt, cond-true}
use Rattle.target_core.specs.Seats.{Seat, Seats, in_place, seat_at}
use Rattle.script_read.specs.declared.lines.Op.{Op}
use Rattle.account_core.specs.Accounts.{SameTarget}
use Rattle.workers_core.specs.Made.{SeatsStay, StaysPlace}
use Rattle.workers_core.proofs.Ones.{set_other}
use Rattle.phase_actors.specs.Targets.{HasTargets, LacksTargets, MovesNamed, MovesOne, SameTargets, TakesBack, all_back, first_target, is_at, is_named, named_in, names, without_target}

pub seat_here : (seats : Seats) (c : ℕ) (s : Option Seat) → c < length seats → seat_at (slice_set seats c s) c ≡ s
seat_here [] c s within = absurd (omega arith)
seat_here (x ∷ xs) zero s within = refl
seat_here (x ∷ xs) (suc c) s within = let w : c < length xs = omega (arith, within) in seat_here xs c s w

pub seat_other : (seats : Seats) (c k : ℕ) (s : Option Seat) → k ≢ c → seat_at (slice_set seats c s) k ≡ seat_at seats k
seat_other seats c k s apart = ap in_place (set_other seats c k s apart)

pub moved : (consumer : ℕ) (from to from' to' : Seats) → consumer < length from → consumer < length to → seat_at to consumer ≡ None
    → from' ≡ slice_set from consumer None → to' ≡ slice_set to consumer (seat_at from consumer) → MovesOne consumer from to from' to'
moved consumer from to from' to' low within none is_from is_to = record {
  others = λ c apart. (
    ap (λ (s : Seats). seat_at s c) is_from ∙ seat_other from consumer c None apart,
    ap (λ (s : Seats). seat_at s c) is_to ∙ seat_other to consumer c (seat_at from consumer) apart,
  );
  left = ap (λ (s : Seats). seat_at s consumer) is_from ∙ seat_here from consumer None low
      ∙ sym (ap (λ (o : Option Seat). without_target o (seat_at from consumer)) none);
  there = ap (λ (s : Seats). seat_at s consumer) is_to ∙ seat_here to consumer (seat_at from consumer) within
      ∙ sym (ap (λ (o : Option Seat). first_target o (seat_at from consumer)) none);
}

-- where a target stands there, nothing was moved
pub stayed : (consumer : ℕ) (from to : Seats) (s : Seat) → seat_at to consumer ≡ Some s → MovesOne consumer from to from to
stayed consumer from to s some = record {
  others = λ c apart. (refl, refl);
  left = sym (ap (λ (o : Option Seat). without_target o (seat_at from consumer)) some);
  there = some ∙ sym (ap (λ (o : Option Seat). first_target o (seat_at from consumer)) some);
}

-- nor where none stands here
pub none_moved : (consumer : ℕ) (from to : Seats) → seat_at from consumer ≡ None → MovesOne consumer from to from to
none_moved consumer from to none = record {
  others = λ c apart. (refl, refl);
  left = without_none (seat_at to consumer) (seat_at from consumer) none;
  there = first_none (seat_at to consumer) (seat_at from consumer) none;
} where
  without_none : (o p : Option Seat) → p ≡ None → p ≡ without_target o p
  without_none None p e = e
  without_none (Some s) p e = refl

  first_none : (o p : Option Seat) → p ≡ None → o ≡ first_target o p
  first_none None p e = sym e
  first_none (Some s) p e = refl

-- the targets of the first n consumers are back, and those of the others are where they were
pub record Returning (n : ℕ) (from to from' to' : Seats) : Type 0 where
  pub back : (c : ℕ) → c < n → seat_at to' c ≡ first_target (seat_at to c) (seat_at from c)
  pub still : (c : ℕ) → n ≤ c → (seat_at from' c ≡ seat_at from c) × (seat_at to' c ≡ seat_at to c)

pub none_returned : (from to : Seats) → Returning 0 from to from to
none_returned from to = record { back = λ c low. absurd (omega (arith, low)); still = λ c high. (refl, refl) }

pub returning : (n : ℕ) (from to from' to' from'' to'' : Seats) → Returning n from to from' to' → MovesOne n from' to' from'' to'' → Returning (n + 1) from to from'' to''
returning n from to from' to' from'' to'' r m = record {
  back = λ c low. ⊎_elim
      (λ (e : c ≡ n).
      let here = r.still n (omega arith) in
      subst (λ (k : ℕ). seat_at to'' k ≡ first_target (seat_at to k) (seat_at from k)) (sym e)
      (m.there ∙ ap (λ (o : Option Seat). first_target o (seat_at from' n)) here.1 ∙ ap (first_target (seat_at to n)) here.0))
      (λ (apart : c ≢ n). (m.others c apart).1 ∙ r.back c (let less : c < n = omega (arith, low, apart) in less))
      (cases_eq c n);
  still = λ c high.
      let apart : c ≢ n = (λ e. omega (arith, high, e)) in
      let r' = r.still c (omega (arith, high)) in
      ((m.others c apart).0 ∙ r'.0, (m.others c apart).1 ∙ r'.1);
}

none_past : (seats : Seats) (c : ℕ) → length seats ≤ c → seat_at seats c ≡ None
none_past seats c past = ap in_place (slice_get_past seats c past)

pub returned : {A : Type 0} (f : A → Option Seat) (n : ℕ) (from to : List A) (from' to' : Seats) → length from ≡ 64 → length to ≡ 64 → 64 ≤ n
    → Returning n (map f from) (map f to) from' to' → (c : ℕ) → seat_at to' c ≡ first_target (seat_at (map f to) c) (seat_at (map f from) c)
returned f n from to from' to' here there all r c = ⊎_elim
    (λ (low : c < n). r.back c low)
    (λ (high : n ≤ c).
    let past_from : length (map f from) ≤ c = omega (arith, length-map from f, here, all, high) in
    let past_to : length (map f to) ≤ c = omega (arith, length-map to f, there, all, high) in
    let empty_from = none_past (map f from) c past_from in
    let empty_to = none_past (map f to) c past_to in
    (r.still c high).1 ∙ empty_to ∙ sym (ap (λ (o : Option Seat). first_target o (seat_at (map f from) c)) empty_to ∙ empty_from))
    (cases_lt c n)

-- The lines one after the other

-- the targets that the first lines name were moved
abbrev pub Moving : ℕ → List Op → Seats → Seats → Seats → Type 0
Moving i ops old new own = MovesNamed (take i ops) old new own

pub none_named : (ops : List Op) (old own : Seats) → ((c : ℕ) → seat_at own c ≡ None) → Moving 0 ops old old own
none_named ops old own bare = record { left = λ c. refl; moved = bare }

named_more : (c : ℕ) (ops : List Op) (i : ℕ) (op : Op) → i < length ops → op ≡ get_or ops i op → is_named c (take (i + 1) ops) ≡ (is_named c (take i ops) || names c op.what)
named_more c ops i op below is = list_any_more (λ (z : Op). names c z.what) ops i op below ∙ ap (λ (z : Op). is_named c (take i ops) || names c z.what) (sym is)

left_one : (b : Bool) (o from to : Option Seat) → from ≡ cond b None o → to ≡ cond b o None → without_target to from ≡ None
left_one b o from to e f = ap (λ x. without_target x from) f ∙ ap (without_target (cond b o None)) e ∙ by_case b o where
  by_case : (b : Bool) (o : Option Seat) → without_target (cond b o None) (cond b None o) ≡ None
  by_case true None = refl
  by_case true (Some s) = refl
  by_case false o = refl

there_one : (b : Bool) (o from to : Option Seat) → from ≡ cond b None o → to ≡ cond b o None → first_target to from ≡ o
there_one b o from to e f = ap (λ x. first_target x from) f ∙ ap (first_target (cond b o None)) e ∙ by_case b o where
  by_case : (b : Bool) (o : Option Seat) → first_target (cond b o None) (cond b None o) ≡ o
  by_case true None = refl
  by_case true (Some s) = refl
  by_case false o = refl

or_true : (a b : Bool) → b ≡ true → (a || b) ≡ true
or_true true b e = refl
or_true false b e = e

or_false : (a b : Bool) → b ≡ false → (a || b) ≡ a
or_false true b e = refl
or_false false b e = e

-- a line that names a consumer
pub moved_more : (ops : List Op) (i : ℕ) (op : Op) (k : ℕ) (old new own new' own' : Seats) → i < length ops → op ≡ get_or ops i op → named_in op.what ≡ Some k
    → Moving i ops old new own → MovesOne k new own new' own' → Moving (i + 1) ops old new' own'
moved_more ops i op k old new own new' own' below is has v m = record { left = λ c. (both c).0; moved = λ c. (both c).1 } where
  named : (c : ℕ) → is_named c (take (i + 1) ops) ≡ (is_named c (take i ops) || (k == c))
  named c = named_more c ops i op below is ∙ ap (λ o. is_named c (take i ops) || is_at c o) has

  both : (c : ℕ) → (seat_at new' c ≡ cond (is_named c (take (i + 1) ops)) None (seat_at old c)) × (seat_at own' c ≡ cond (is_named c (take (i + 1) ops)) (seat_at old c) None)
  both c = ⊎_elim
      (λ (e : c ≡ k).
      let hit : is_named c (take (i + 1) ops) ≡ true = named c ∙ or_true (is_named c (take i ops)) (k == c) (eq-eqb k c (sym e)) in
      let at_left : seat_at new' c ≡ None = ap (seat_at new') e ∙ m.left ∙ left_one (is_named k (take i ops)) (seat_at old k) (seat_at new k) (seat_at own k) (v.left k) (v.moved k) in
      let at_own : seat_at own' c ≡ seat_at old c = ap (seat_at own') e ∙ m.there ∙ there_one (is_named k (take i ops)) (seat_at old k) (seat_at new k) (seat_at own k) (v.left k) (v.moved k) ∙ ap (seat_at old) (sym e) in
      (at_left ∙ sym (cond-true (is_named c (take (i + 1) ops)) None (seat_at old c) hit), at_own ∙ sym (cond-true (is_named c (take (i + 1) ops)) (seat_at old c) None hit)))
      (λ (apart : c ≢ k).
      let same : is_named c (take i ops) ≡ is_named c (take (i + 1) ops) = sym (named c ∙ or_false (is_named c (take i ops)) (k == c) (ne_eqb k c (λ e. apart (sym e)))) in
      let o = m.others c apart in
      (o.0 ∙ v.left c ∙ ap (λ b. cond b None (seat_at old c)) same, o.1 ∙ v.moved c ∙ ap (λ b. cond b (seat_at old c) None) same))
      (cases_eq c k)

-- and one that names none
pub moved_none : (ops : List Op) (i : ℕ) (op : Op) (old new own : Seats) → i < length ops → op ≡ get_or ops i op → named_in op.what ≡ None → Moving i ops old new own → Moving (i + 1) ops old new own
moved_none ops i op old new own below is none v = record {
  left = λ c. v.left c ∙ ap (λ b. cond b None (seat_at old c)) (same c);
  moved = λ c. v.moved c ∙ ap (λ b. cond b (seat_at old c) None) (same c);
} where
  same : (c : ℕ) → is_named c (take i ops) ≡ is_named c (take (i + 1) ops)
  same c = sym (named_more c ops i op below is ∙ ap (λ o. is_named c (take i ops) || is_at c o) none ∙ or_false (is_named c (take i ops)) false refl)

pub moved_all : (ops : List Op) (i : ℕ) (old new own : Seats) → length ops ≤ i → Moving i ops old new own → MovesNamed ops old new own
moved_all ops i old new own past v = subst (λ (l : List Op). MovesNamed l old new own) (take_all i ops past) v

-- Targets that are given back

pub back_last : (c : ℕ) (now : Option Seat) (owns : List Seats) (own : Seats) → all_back c now (owns ++ own ∷ []) ≡ all_back c (first_target now (seat_at own c)) owns
back_last c now [] own = refl
back_last c now (o ∷ owns) own = ap (λ x. first_target x (seat_at o c)) (back_last c now owns own)

pub same_refl : (o : Option Seat) → SameTarget o o
same_refl None = tt
same_refl (Some s) = (refl, refl)

pub same_trans : (o p q : Option Seat) → SameTarget o p → SameTarget p q → SameTarget o q
same_trans None None None a b = tt
same_trans None None (Some u) a b = absurd b
same_trans None (Some t) q a b = absurd a
same_trans (Some s) None q a b = absurd a
same_trans (Some s) (Some t) None a b = absurd b
same_trans (Some s) (Some t) (Some u) a b = (b.0 ∙ a.0, b.1 ∙ a.1)

pub same_eq : (o p : Option Seat) → p ≡ o → SameTarget o p
same_eq o p e = subst (SameTarget o) (sym e) (same_refl o)

pub all_same : (a b : Seats) → b ≡ a → SameTargets a b
all_same a b e c = same_eq (seat_at a c) (seat_at b c) (ap (λ s. seat_at s c) e)

stays_same : (o p : Option Seat) → StaysPlace o p → SameTarget o p
stays_same None None s = tt
stays_same None (Some t) s = absurd s
stays_same (Some r) None s = absurd s
stays_same (Some r) (Some t) s = (s.deliveries, s.limit)

-- An actor was made, or it was not

pub has_targets : (ops : List Op) (old new own made : Seats) → MovesNamed ops old new own → SeatsStay own made → HasTargets old ops made
has_targets ops old new own made m stays c = subst (λ o. SameTarget o (seat_at made c)) (m.moved c) (stays_same (seat_at own c) (seat_at made c) (stays c))

pub lacks_targets : (ops : List Op) (old new own : Seats) → MovesNamed ops old new own → LacksTargets old ops new
lacks_targets ops old new own m c = same_eq (cond (is_named c ops) None (seat_at old c)) (seat_at new c) (m.left c)

pub unmade_back : (ops : List Op) (old new own made here back : Seats) → MovesNamed ops old new own → SeatsStay own made → here ≡ made → TakesBack new here back → SameTargets old back
unmade_back ops old new own made here back m stays is takes c =
    subst (SameTarget (seat_at old c)) (sym (takes c ∙ ap (λ (s : Seats). first_target (seat_at new c) (seat_at s c)) is))
    (by_case (is_named c ops) (seat_at old c) (seat_at new c) (seat_at own c) (seat_at made c) (m.left c) (m.moved c) (stays_same (seat_at own c) (seat_at made c) (stays c)))
  where
    by_case : (b : Bool) (o n p q : Option Seat) → n ≡ cond b None o → p ≡ cond b o None → SameTarget p q → SameTarget o (first_target n q)
    by_case true o n p q e f s = subst (λ x. SameTarget o (first_target x q)) (sym e) (subst (λ x. SameTarget x q) f s)
    by_case false o n p q e f s = subst (λ x. SameTarget o (first_target x q)) (sym e) (kept o q (subst (λ x. SameTarget x q) f s)) where
      kept : (o q : Option Seat) → SameTarget None q → SameTarget o (first_target o q)
      kept None q s = s
      kept (Some t) q s = (refl, refl)
