-- What is known of the innermost form once it is taken out, and of an expression that settles.
use Rattle.std.proofs.Common.{◌≡◌, ℕ, ◌≤◌, true, false, List, [], ◌∷◌, Option, Some, None, MatchOption, refl}
use Rattle.std.proofs.lemmas.Bool.{leb-true, le-leb}
use Rattle.selector_read.specs.declared.begun.Begun.{Begun as Form}
use Rattle.selector_read.specs.Trees.{Tree}
use Rattle.selector_read.specs.Forms.{begun_of, may_take, held}
use Rattle.selector_read.specs.Reading.{Begun, level, settle, whole}

pub taken_from : (o : Option Form) (old new : List Begun) (l : ℕ) → MatchOption o ((old ≡ []) × (new ≡ [])) (λ f. old ≡ begun_of f ∷ new)
    → may_take l old ≡ true → MatchOption o ((new ≡ old) × (may_take l old ≡ false)) (λ f. (old ≡ begun_of f ∷ new) × (l ≤ level (begun_of f)))
taken_from None old new l h taken = absurd (let t = rw h.0 at taken in cc)
taken_from (Some f) old new l h taken = (h, leb-true l (level (begun_of f)) (rw h at taken))

-- one more form is made whole
pub settle-taken : (l : ℕ) (f : Begun) (fs : List Begun) (e : Tree) → l ≤ level f → settle l (f ∷ fs) e ≡ settle l fs (whole f e)
settle-taken l f fs e h = rw (le-leb l (level f) h) refl

-- no form is made whole
pub settle-done : (l : ℕ) (fs : List Begun) (e : Tree) → may_take l fs ≡ false → settle l fs e ≡ held fs e
settle-done l [] e h = refl
settle-done l (f ∷ fs) e h = rw h refl
