-- How a session goes on.
use Rattle.std.proofs.Common.{◌≡◌, ◌⊎◌, inl, inr, ⊎_elim, ◌<◌, ◌≤◌, ℕ, List, [], ◌∷◌, ◌++◌, refl, sym, ◌∙◌, ap, subst, arith, append_assoc}
use Rattle.std.proofs.lemmas.Bool.{cases_lt}
use Rattle.disk_core.specs.Images.{Over}
use Rattle.journal_format.specs.Spelling.{Txn}
use Rattle.journal_format.specs.declared.events.Event.{Event}
use Rattle.journal_core.specs.History.{Ledger, happens, from, after, IsFirst, IsBy, IsTimed, Each}
use Rattle.journal_format.specs.declared.events.Event.TheVariants.{Sub, Settle, Lost}
use Rattle.journal_core.specs.Kept.{IsMore, Fits, Kept}

pub each_append : (P : Event → Type 0) (es fs : List Event) → Each P es → Each P fs → Each P (es ++ fs)
each_append P [] fs p q = q
each_append P (e ∷ es) fs p q = (p.0, each_append P es fs p.1 q)

pub each_as : (P Q : Event → Type 0) (es : List Event) → ((e : Event) → P e → Q e) → Each P es → Each Q es
each_as P Q [] to p = tt
each_as P Q (e ∷ es) to p = (to e p.0, each_as P Q es to p.1)

pub from_append : (l : Ledger) (es fs : List Event) → from l (es ++ fs) ≡ from (from l es) fs
from_append l [] fs = refl
from_append l (e ∷ es) fs = from_append (happens l e) es fs

first_append : (l : Ledger) (es fs : List Event) (X : List Txn) → IsFirst l es X → IsFirst l (es ++ fs) X
first_append l [] fs X p = absurd p
first_append l (Sub c t ∷ es) fs X p = first_append (happens l (Sub c t)) es fs X p
first_append l (Settle n ok m s f ∷ es) fs X p = p
first_append l (Lost c f ∷ es) fs X p = first_append l es fs X p

pub timed_later : (t u v : ℕ) → u ≤ v → (e : Event) → IsTimed t u e → IsTimed t v e
timed_later t u v le (Sub c x) p = tt
timed_later t u v le (Settle n ok m s f) p = (p.0, omega (arith, le, p.1))
timed_later t u v le (Lost c f) p = tt

-- more history after it, all of which is later
pub fits_more : (stands : List ℕ → List Txn → Type 0) (C : List Txn) (J new : List Event) (t : ℕ) (c : List ℕ) → Fits stands C J t c → Each (λ e. IsBy t e → ⊥) new → Fits stands C (J ++ new) t c
fits_more stands C J new t c f late = record {
  front = f.front;
  rest = f.rest ++ new;
  is = ap (λ (l : List Event). l ++ new) f.is ∙ append_assoc f.front f.rest new;
  late = each_append _ f.rest new f.late late;
  more = f.more;
  why = ⊎_elim (λ none. inl none) (λ some. inr (⊎_elim (λ first. inl (first_append (after f.front) f.rest new f.more first)) (λ one. inr one) some)) f.why;
  commits = f.commits;
}

-- An image that stands for what the whole history has stored, and maybe for more.
pub record FitsNow (stands : List ℕ → List Txn → Type 0) (C : List Txn) (J new : List Event) (c : List ℕ) : Type 0 where
  pub more : List Txn
  pub why : IsMore (after J) new more
  pub commits : stands c (C ++ ((after J).stored ++ more))

fits_now : (stands : List ℕ → List Txn → Type 0) (C : List Txn) (J new : List Event) (t : ℕ) (c : List ℕ) → FitsNow stands C J new c → Each (λ e. IsBy t e → ⊥) new → Fits stands C (J ++ new) t c
fits_now stands C J new t c f late = record { front = J; rest = new; is = refl; late = late; more = f.more; why = f.why; commits = f.commits }

not_by : (t u v : ℕ) → t < v → (e : Event) → IsTimed v u e → IsBy t e → ⊥
not_by t u v lt (Sub c x) p by = by
not_by t u v lt (Settle n ok m s f) p by = absurd (omega (arith, lt, p.0, by))
not_by t u v lt (Lost c f) p by = by

module _ {D : Type 0} (moment : D → ℕ) (since : D → ℕ → List ℕ → Type 0) (images : D → List ℕ → Type 0) (only_now : (d : D) (c : List ℕ) → since d (moment d) c → images d c)
    (from_later : (d : D) (t u : ℕ) (c : List ℕ) → t ≤ u → since d u c → since d t c) (stands : List ℕ → List Txn → Type 0) where
  -- Calls between which no caller of the session stands, with what they add to the history: each Settle among that is of
  -- the moment in which they end.
  pub kept_grows : (t0 : ℕ) (d d2 : D) (C : List Txn) (J new : List Event) (P : List ℕ → Type 0) → t0 ≤ moment d → Kept moment since stands t0 d C J → Over moment since d d2 P
      → Each (IsTimed (moment d2) (moment d2)) new → ((c : List ℕ) → images d c → FitsNow stands C J new c) → ((c : List ℕ) → P c → FitsNow stands C J new c)
      → ((c : List ℕ) → images d2 c → Fits stands C (J ++ new) (moment d2) c) → Kept moment since stands t0 d2 C (J ++ new)
  kept_grows t0 d d2 C J new P began kept over times before during end = record {
    timed = each_append (IsTimed t0 (moment d2)) J new (each_as _ _ J (timed_later t0 (moment d) (moment d2) over.later) kept.timed) (each_as _ _ new (wider t0 (moment d2) (omega (arith, began, over.later))) times);
    each = λ t c le0 le s. ⊎_elim (λ (lt : t < moment d2). soon t c le0 lt s) (λ (eq : t ≡ moment d2). at_end t c eq s) (split t (moment d2) le);
  }
    where
      split : (t u : ℕ) → t ≤ u → (t < u) ⊎ (t ≡ u)
      split t u le = ⊎_elim (λ lt. inl lt) (λ (ge : u ≤ t). inr (omega (arith, le, ge))) (cases_lt t u)

      wider : (t v : ℕ) → t ≤ v → (e : Event) → IsTimed v v e → IsTimed t v e
      wider t v le (Sub c x) p = tt
      wider t v le (Settle n ok m s f) p = (omega (arith, le, p.0), p.1)
      wider t v le (Lost c f) p = tt

      at_end : (t : ℕ) (c : List ℕ) → t ≡ moment d2 → since d2 t c → Fits stands C (J ++ new) t c
      at_end t c eq s = subst (λ u. Fits stands C (J ++ new) u c) (sym eq) (end c (only_now d2 c (subst (λ u. since d2 u c) eq s)))

      late_at : (t : ℕ) → t < moment d2 → Each (λ e. IsBy t e → ⊥) new
      late_at t lt = each_as _ _ new (not_by t (moment d2) (moment d2) lt) times

      soon : (t : ℕ) (c : List ℕ) → t0 ≤ t → t < moment d2 → since d2 t c → Fits stands C (J ++ new) t c
      soon t c le0 lt s = ⊎_elim
          (λ (within : t ≤ moment d). ⊎_elim (λ was. fits_more stands C J new t c (kept.each t c le0 within was) (late_at t lt)) (λ p. fits_now stands C J new t c (during c p) (late_at t lt)) (over.adds t c within s))
          (λ (past : moment d < t). ⊎_elim (λ was. fits_now stands C J new t c (before c (only_now d c was)) (late_at t lt)) (λ p. fits_now stands C J new t c (during c p) (late_at t lt))
          (over.adds (moment d) c (omega arith) (from_later d2 (moment d) t c (omega (arith, past)) s)))
          (⊎_elim (λ (lt : moment d < t). inr lt) (λ (ge : t ≤ moment d). inl ge) (cases_lt (moment d) t))
