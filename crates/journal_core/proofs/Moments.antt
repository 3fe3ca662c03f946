-- How a run of device calls goes on.
use Rattle.disk_core.specs.declared.trails.Step.{Step}
use Rattle.disk_core.specs.declared.trails.Trail.{Trail}
use Rattle.disk_core.specs.Trails.{Extends}
use Rattle.std.proofs.Common.{◌≡◌, ◌++◌, ◌∙◌, ap, sym, append_assoc, inl, inr, refl, subst, ⊎_elim, ℕ, List, [], ◌∷◌, arith}
use Rattle.std.specs.Prelude.{Option, Some, None, IfSome, Result, Ok, Err, OnOk, OnErr, is_err, is_ok, true, false}
use Rattle.outside_io.specs.Told.{WhileTold}
use Rattle.disk_core.specs.Images.{Over, Still, NoMore, Elapses}
use Rattle.journal_format.specs.Spelling.{Txn, batch_bytes, IsBatch}
use Rattle.journal_core.specs.Stands.{IsBody}

module _ {D : Type 0} (moment : D → ℕ) (since : D → ℕ → List ℕ → Type 0) where
  pub over_start : (old : D) (P : List ℕ → Type 0) → Over moment since old old P
  over_start old P = record { later = omega arith; adds = λ t c le left. inl left }

  pub over_as : (a b : D) (P R : List ℕ → Type 0) → Over moment since a b P → ((c : List ℕ) → P c → R c) → Over moment since a b R
  over_as a b P R p to = record { later = p.later; adds = λ t c le left. ⊎_elim (λ was. inl was) (λ now. inr (to c now)) (p.adds t c le left) }

  pub over_then : (a b c : D) (R : List ℕ → Type 0) → Over moment since a b R → Over moment since b c R → Over moment since a c R
  over_then a b c R p q = record {
    later = omega (arith, p.later, q.later);
    adds = λ t x le left. ⊎_elim (λ was. p.adds t x le was) (λ now. inr now) (q.adds t x (omega (arith, le, p.later)) left);
  }

-- what is told now, and how what was told before stands to it
pub record Was (old : Option (List ℕ)) (P : List ℕ → List ℕ → Type 0) (c : List ℕ) : Type 0 where
  pub was : List ℕ
  pub told : old ≡ Some was
  pub step : P was c

pub told_was : (old new : Option (List ℕ)) (P : List ℕ → List ℕ → Type 0) (c : List ℕ) → WhileTold old new P → new ≡ Some c → Was old P c
told_was old None P c step is = absurd (cc is)
told_was None (Some y) P c step is = absurd step
told_was (Some x) (Some y) P c step is = let e : y ≡ c = cc is in record { was = x; told = refl; step = subst (λ z. P x z) e step }

pub read_image : (seen : Option (List ℕ)) (images : List ℕ → Type 0) (c : List ℕ) → IfSome seen images → seen ≡ Some c → images c
read_image None images c reads is = absurd (cc is)
read_image (Some x) images c reads is = let e : x ≡ c = cc is in subst images e reads

-- what holds where a call succeeded
pub when_ok : {T E : Type 0} (r : Result T E) (P : Type 0) → is_err r ≡ false → OnOk r P → P
when_ok (Ok x) P fails p = p
when_ok (Err e) P fails p = absurd (cc fails)

-- what follows of it
pub on_ok_at : {T E : Type 0} (r : Result T E) (P Q : Type 0) → (P → Q) → OnOk r P → OnOk r Q
on_ok_at (Ok x) P Q to p = to p
on_ok_at (Err e) P Q to p = tt

pub on_err_at : {T E : Type 0} (r : Result T E) (P Q : Type 0) → (P → Q) → OnErr r P → OnErr r Q
on_err_at (Ok x) P Q to p = tt
on_err_at (Err e) P Q to p = to p

-- a trail that goes on twice
pub extends_then : (a b c : Option Trail) → Extends a b → Extends b c → Extends a c
extends_then a b None p q = tt
extends_then a None (Some z) p q = absurd q
extends_then None (Some y) (Some z) p q = absurd p
extends_then (Some x) (Some y) (Some z) p q = record { first = q.first ∙ p.first; more = q.more ++ p.more; steps = q.steps ∙ ap (λ (l : List Step). q.more ++ l) p.steps ∙ sym (append_assoc q.more p.more x.steps) }

pub same_trail : (a : Option Trail) → Extends a a
same_trail None = tt
same_trail (Some x) = record { first = refl; more = []; steps = refl }

pub still_then : (a b c : Option (List ℕ)) → Still a b → Still b c → Still a c
still_then a b None p q = tt
still_then a None (Some z) p q = absurd q
still_then None (Some y) (Some z) p q = absurd p
still_then (Some x) (Some y) (Some z) p q = q ∙ p

-- the moments of a call that brings no image
pub over_elapses : {D : Type 0} (moment : D → ℕ) (since : D → ℕ → List ℕ → Type 0) (images : D → List ℕ → Type 0) (told : Type 0) (old new : D) → NoMore (images old) (images new)
    → Elapses told (moment old) (moment new) (since old) (since new) (images old) (images new) → Over moment since old new (images old)
over_elapses moment since images told old new none time = record { later = time.later; adds = λ t c le left. ⊎_elim (λ was. inl was) (λ now. inr (none c now)) (time.adds t c le left) }

-- of two such calls
pub over_quiet : {D : Type 0} (moment : D → ℕ) (since : D → ℕ → List ℕ → Type 0) (images : D → List ℕ → Type 0) (a b c : D) → NoMore (images a) (images b)
    → Over moment since a b (images a) → Over moment since b c (images b) → Over moment since a c (images a)
over_quiet moment since images a b c none p q = over_then moment since a b c (images a) p (over_as moment since b c (images b) (images a) q none)

-- what a buffer holds that was cleared, and then a batch written to it
pub body_of : (B : List Txn) (clear full body : List ℕ) → IsBatch B → clear ≡ [] → full ≡ clear ++ (batch_bytes B ++ (0 ∷ [])) → body ≡ full → IsBody B body
body_of B clear full body batch none is same = (batch, same ∙ is ∙ ap (λ (l : List ℕ). l ++ (batch_bytes B ++ (0 ∷ []))) none)

pub still_self : (a : Option (List ℕ)) → Still a a
still_self None = tt
still_self (Some x) = refl
