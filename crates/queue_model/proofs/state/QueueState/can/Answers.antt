use Rattle.std.proofs.Common.{◌≡◌, sym, ◌∙◌, true, Option, Some, None, refl, is_some}
use Rattle.std.proofs.lemmas.Bool.{ltb-true, lt-ltb}
use Rattle.queue_model.proofs.state.QueueState.can.Goals as goal

pub returns-in-Steal : goal.returns-in-Steal
returns-in-Steal c =
    let told = rw c.deref-in-Steal.ensures.value at c.is_unlocked.ensures in
    rw (c.in-Steal.is, ← c.self.view_is) told

some_of : {A : Type 0} (o : Option A) → is_some o ≡ true → (x : A) × (o ≡ Some x)
some_of None e = absurd (cc)
some_of (Some x) e = (x, refl)

pub returns-then-has_row : goal.returns-then-has_row
returns-then-has_row c =
    let found = some_of _ (sym (rw c.deref-in-Bell.ensures.value at c.has_row.ensures) ∙ c.if-has_row.true) in
    rw (c.in-Bell.is, ← c.self.view_is) (λ e. (found, ltb-true _ _ e), λ h. lt-ltb _ _ h.1)
