-- texts of a list's elements, one after another
use Rattle.std.proofs.Common.{◌≡◌, ℕ, ◌<◌, List, length, take, get_or, subst}
use Rattle.std.specs.List.{flat_map}
use Rattle.std.specs.Prelude.{Option, Result, Ok, Err, IsErr}
use Rattle.outside_io.specs.Says.{Says}
use Rattle.outside_io.proofs.Saying.{cut_all}

-- the first elements were said, and some of the next, and so of all
pub cut_item : {E X : Type 0} (u : Unit {0}) (r : Result (Unit {0}) E) (e : E) (a b c : Option (List ℕ)) (n m o : ℕ)
    (f : X → List ℕ) (xs : List X) (i : ℕ) (x : X) → i < length xs → IsErr r → x ≡ get_or xs i x →
    Says {E = E} (Ok u) a b n m (flat_map f (take i xs)) → Says {E = E} (Err e) b c m o (f x) →
    Says r a c n o (flat_map f xs)
cut_item {E} u r e a b c n m o f xs i x within err is p q =
    cut_all u r e a b c n m o f xs i x within err p (subst (λ v. Says {E = E} (Err e) b c m o (f v)) is q)
