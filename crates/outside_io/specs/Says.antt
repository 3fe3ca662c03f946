use Rattle.std.specs.Prelude.{◌≡◌, ℕ, ◌+◌, ◌≤◌, List, ◌++◌, length, take, Option, Result, Ok, Err}
use Rattle.outside_io.specs.Told.{Adds}
use Rattle.outside_io.specs.declared.outside.Failed.{Failed}

-- Over calls in which the count of faults went from f to g, none failed and the whole text was written; or one
-- failed and no other, and some front of the text was written.
abbrev pub Says : {E : Type 0} → Result (Unit {0}) E →
    Option (List ℕ) → Option (List ℕ) → ℕ → ℕ → List ℕ → Type 0
Says (Ok u) old new f g text = Adds old new text × (g ≡ f)
Says (Err e) old new f g text = (g ≡ f + 1) × ((n : ℕ) × (n ≤ length text) × Adds old new (take n text))

-- where writing a text failed, writing that text and more has failed
abbrev pub SaysCut : Type 0
SaysCut = (e : Failed) (a b : Option (List ℕ)) (f g : ℕ) (xs ys : List ℕ) →
    Says {E = Failed} (Err e) a b f g xs → Says {E = Failed} (Err e) a b f g (xs ++ ys)

-- where a text was written and then another, or a front of it, that is how both texts together were
abbrev pub SaysThen : Type 0
SaysThen = (u : Unit {0}) (r : Result (Unit {0}) Failed) (a b c : Option (List ℕ)) (f g h : ℕ)
    (xs ys : List ℕ) →
    Says {E = Failed} (Ok u) a b f g xs → Says r b c g h ys → Says r a c f h (xs ++ ys)
