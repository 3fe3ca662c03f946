-- lists of numbers, as tables and locks have them
use Rattle.std.proofs.Common.{◌≡◌, ℕ, zero, suc, Bool, true, not, cond, eqb, List, [], ◌∷◌, ◌++◌, refl, ap}
use Rattle.entry_table.specs.Plays.{not_in}
use Rattle.entry_table.specs.Rule.{below}
use Rattle.entry_table.specs.Views.{is_in}
use Rattle.held_table.specs.Views as held

in_same : (k : ℕ) (xs : List ℕ) → held.is_in k xs ≡ is_in k xs
in_same k [] = refl
in_same k (x ∷ xs) = ap (λ (b : Bool). cond (eqb x k) true b) (in_same k xs)

pub not_in_same : (cs xs : List ℕ) → held.not_in cs xs ≡ not_in cs xs
not_in_same cs [] = refl
not_in_same cs (x ∷ xs) = λ i. cond (not (in_same x cs i)) (x ∷ not_in_same cs xs i) (not_in_same cs xs i)

pub below_same : (n : ℕ) → held.below n ≡ below n
below_same zero = refl
below_same (suc n) = ap (λ (xs : List ℕ). xs ++ n ∷ []) (below_same n)
