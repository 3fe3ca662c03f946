-- One session after another.
use Rattle.std.proofs.Common.{◌≡◌, ◌⊎◌, inl, inr, ⊎_elim, ◌<◌, ◌≤◌, ℕ, List, [], ◌∷◌, ◌++◌, refl, sym, ◌∙◌, ap, subst, arith, append_assoc, take, drop, length, length-append}
use Rattle.std.proofs.lemmas.List.{append-nil}
use Rattle.std.proofs.lemmas.Bool.{cases_lt}
use Rattle.std.specs.Prelude.{true, false, Option, Some, None, IfSome}
use Rattle.disk_core.specs.declared.trails.Step.{Step}
use Rattle.disk_core.specs.declared.trails.Trail.{Trail}
use Rattle.disk_core.specs.Trails.{Extends, SinceIn, IsSince}
use Rattle.disk_core.specs.Images.{Over}
use Rattle.journal_format.specs.Spelling.{Txn}
use Rattle.journal_format.specs.declared.events.Event.{Event}
use Rattle.journal_core.specs.History.{Ledger, happens, from, after, empty, IsFirst, IsBy, IsTimed, IsOneOf, Each}
use Rattle.journal_format.specs.declared.events.Event.TheVariants.{Sub, Settle, Lost}
use Rattle.journal_core.specs.Kept.{IsMore, Fits, Kept}
use Rattle.journal_core.proofs.Keeping.{from_append, each_append, each_as, fits_more, timed_later}

-- a ledger that stands on another: what was stored before, and maybe more in doubt
record Above (s : List Txn) (l m : Ledger) : Type 0 where
  waiting : m.waiting ≡ l.waiting
  stored : m.stored ≡ s ++ l.stored
  doubtful : (X : List Txn) → IsOneOf l.doubtful X → IsOneOf m.doubtful X

above_step : (s : List Txn) (l m : Ledger) (e : Event) → Above s l m → Above s (happens l e) (happens m e)
above_step s l m (Sub c t) a = record { waiting = ap (λ (w : List Txn). w ++ (t ∷ [])) a.waiting; stored = a.stored; doubtful = a.doubtful }
above_step s l m (Settle n true x y z) a = record {
  waiting = ap (λ (w : List Txn). drop n w) a.waiting;
  stored = (λ i. a.stored i ++ take n (a.waiting i)) ∙ append_assoc s l.stored (take n l.waiting);
  doubtful = λ X p. p;
}
above_step s l m (Settle n false x y z) a = record {
  waiting = ap (λ (w : List Txn). drop n w) a.waiting;
  stored = a.stored;
  doubtful = λ X p. ⊎_elim (λ is. inl (is ∙ ap (λ (w : List Txn). take n w) (sym a.waiting))) (λ old. inr (a.doubtful X old)) p;
}
above_step s l m (Lost c f) a = a

above_all : (s : List Txn) (l m : Ledger) (es : List Event) → Above s l m → Above s (from l es) (from m es)
above_all s l m [] a = a
above_all s l m (e ∷ es) a = above_all s (happens l e) (happens m e) es (above_step s l m e a)

first_above : (s : List Txn) (l m : Ledger) (es : List Event) (X : List Txn) → Above s l m → IsFirst l es X → IsFirst m es X
first_above s l m [] X a p = p
first_above s l m (Sub c t ∷ es) X a p = first_above s (happens l (Sub c t)) (happens m (Sub c t)) es X (above_step s l m (Sub c t) a) p
first_above s l m (Settle n ok x y z ∷ es) X a p = p ∙ ap (λ (w : List Txn). take n w) (sym a.waiting)
first_above s l m (Lost c f ∷ es) X a p = first_above s l m es X a p

-- an image of the second session is one of both
lift : (stands : List ℕ → List Txn → Type 0) (C : List Txn) (J1 J2 : List Event) (t u : ℕ) (c : List ℕ) → (after J1).waiting ≡ [] → t ≤ u → Fits stands (C ++ (after J1).stored) J2 u c → Fits stands C (J1 ++ J2) t c
lift stands C J1 J2 t u c none le f =
    let s = (after J1).stored in
    let base : Above s empty (after J1) = record { waiting = none; stored = sym (append-nil s); doubtful = λ X p. absurd p } in
    let whole = from_append empty J1 f.front in
    let a = above_all s empty (after J1) f.front base in
    record {
      front = J1 ++ f.front;
      rest = f.rest;
      is = ap (λ (l : List Event). J1 ++ l) f.is ∙ sym (append_assoc J1 f.front f.rest);
      late = each_as (λ e. IsBy u e → ⊥) (λ e. IsBy t e → ⊥) f.rest (not_sooner t u le) f.late;
      more = f.more;
      why = subst (λ l. IsMore l f.rest f.more) (sym whole) (⊎_elim (λ nil. inl nil) (λ some. inr (⊎_elim (λ first. inl (first_above s _ _ f.rest f.more a first)) (λ old. inr (a.doubtful f.more old)) some)) f.why);
      commits = subst (λ l. stands c (C ++ (l.stored ++ f.more))) (sym whole) (subst (λ (x : List Txn). stands c (C ++ (x ++ f.more))) (sym a.stored) (subst (λ (x : List Txn). stands c x) (joined C s (after f.front).stored f.more) f.commits));
    }
  where
    not_sooner : (t u : ℕ) → t ≤ u → (e : Event) → (IsBy u e → ⊥) → IsBy t e → ⊥
    not_sooner t u le (Sub c x) p by = by
    not_sooner t u le (Settle n ok m s f) p by = p (omega (arith, le, by))
    not_sooner t u le (Lost c f) p by = by

    joined : (C s x y : List Txn) → (C ++ s) ++ (x ++ y) ≡ C ++ ((s ++ x) ++ y)
    joined C s x y = append_assoc C s (x ++ y) ∙ ap (λ (l : List Txn). C ++ l) (sym (append_assoc s x y))

module _ {D : Type 0} (moment : D → ℕ) (since : D → ℕ → List ℕ → Type 0) (images : D → List ℕ → Type 0) (only_now : (d : D) (c : List ℕ) → since d (moment d) c → images d c)
    (from_later : (d : D) (t u : ℕ) (c : List ℕ) → t ≤ u → since d u c → since d t c) (stands : List ℕ → List Txn → Type 0) where
  pub sessions : (t0 : ℕ) (d1 d2 d3 : D) (C : List Txn) (J1 J2 : List Event) → t0 ≤ moment d1 → (after J1).waiting ≡ [] → Kept moment since stands t0 d1 C J1
      → ((c : List ℕ) → images d1 c → stands c (C ++ (after J1).stored)) → Over moment since d1 d2 (λ c. stands c (C ++ (after J1).stored))
      → Kept moment since stands (moment d2) d3 (C ++ (after J1).stored) J2 → Over moment since d2 d3 (Fits stands (C ++ (after J1).stored) J2 (moment d2))
      → Kept moment since stands t0 d3 C (J1 ++ J2)
  sessions t0 d1 d2 d3 C J1 J2 began none one end between two later = record {
    timed = each_append (IsTimed t0 (moment d3)) J1 J2 (each_as _ _ J1 (timed_later t0 (moment d1) (moment d3) (omega (arith, between.later, later.later))) one.timed) (each_as _ _ J2 (timed_from t0 (moment d2) (moment d3) (omega (arith, began, between.later))) two.timed);
    each = λ t c le0 le s. ⊎_elim (λ (lt : t < moment d2). early t c le0 lt s) (λ (ge : moment d2 ≤ t). lift stands C J1 J2 t t c none (omega arith) (two.each t c ge le s)) (cases_lt t (moment d2));
  }
    where
      timed_from : (t u v : ℕ) → t ≤ u → (e : Event) → IsTimed u v e → IsTimed t v e
      timed_from t u v le (Sub c x) p = tt
      timed_from t u v le (Settle n ok m s f) p = (omega (arith, le, p.0), p.1)
      timed_from t u v le (Lost c f) p = tt

      not_yet : (t u v : ℕ) → t < u → (e : Event) → IsTimed u v e → IsBy t e → ⊥
      not_yet t u v lt (Sub c x) p by = by
      not_yet t u v lt (Settle n ok m s f) p by = absurd (omega (arith, lt, p.0, by))
      not_yet t u v lt (Lost c f) p by = by

      late_at : (t : ℕ) → t < moment d2 → Each (λ e. IsBy t e → ⊥) J2
      late_at t lt = each_as _ _ J2 (not_yet t (moment d2) (moment d3) lt) two.timed

      rested : (t : ℕ) (c : List ℕ) → t < moment d2 → stands c (C ++ (after J1).stored) → Fits stands C (J1 ++ J2) t c
      rested t c lt p = record { front = J1; rest = J2; is = refl; late = late_at t lt; more = []; why = inl refl; commits = subst (λ (l : List Txn). stands c (C ++ l)) (sym (append-nil (after J1).stored)) p }

      early : (t : ℕ) (c : List ℕ) → t0 ≤ t → t < moment d2 → since d3 t c → Fits stands C (J1 ++ J2) t c
      early t c le0 lt s = ⊎_elim
          (λ (was : since d2 t c). ⊎_elim
          (λ (within : t ≤ moment d1). ⊎_elim (λ first. fits_more stands C J1 J2 t c (one.each t c le0 within first) (late_at t lt)) (λ p. rested t c lt p) (between.adds t c within was))
          (λ (past : moment d1 < t). ⊎_elim (λ at. rested t c lt (end c (only_now d1 c at))) (λ p. rested t c lt p) (between.adds (moment d1) c (omega arith) (from_later d2 (moment d1) t c (omega (arith, past)) was)))
          (⊎_elim (λ (l : moment d1 < t). inr l) (λ (g : t ≤ moment d1). inl g) (cases_lt (moment d1) t)))
          (λ f. lift stands C J1 J2 t (moment d2) c none (omega (arith, lt)) f)
          (later.adds t c (omega (arith, lt)) s)

-- a later disk adds to the images since a moment only those since it began
since_split : (first : List ℕ) (t : ℕ) (more old : List Step) (c : List ℕ) → IsSince first t (more ++ old) c → IsSince first t old c ⊎ IsSince first (length old) (more ++ old) c
since_split first t [] old c p = inl p
since_split first t (s ∷ more) old c (inl p) = inr (inl (omega (arith, length-append more old), p.1))
since_split first t (s ∷ more) old c (inr p) = ⊎_elim (λ was. inl was) (λ now. inr (inr now)) (since_split first t more old c p)

-- what lies between, by what a trail has
pub linked : (t n : ℕ) (a b : Option Trail) (c : List ℕ) → Extends a b → IfSome a (λ x. n ≡ length x.steps) → SinceIn b t c → SinceIn a t c ⊎ SinceIn b n c
linked t n a None c e size p = absurd p
linked t n None (Some y) c e size p = absurd e
linked t n (Some x) (Some y) c e size p =
    let q = subst (λ (f : List ℕ). IsSince f t (e.more ++ x.steps) c) e.first (subst (λ (l : List Step). IsSince y.first t l c) e.steps p) in
    ⊎_elim (λ was. inl was)
    (λ now. inr (subst (λ (l : List Step). IsSince y.first n l c) (sym e.steps) (subst (λ (f : List ℕ). IsSince f n (e.more ++ x.steps) c) (sym e.first) (subst (λ m. IsSince x.first m (e.more ++ x.steps) c) (sym size) now))))
    (since_split x.first t e.more x.steps c q)
