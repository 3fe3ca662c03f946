-- What stands at the front of a list and passes a test.
use Rattle.std.proofs.Common.{◌≡◌, ℕ, ◌<◌, Bool, List, length, take, ap, arith}
use Rattle.std.specs.List.{take_while, prefix_len, AllPass}
use Rattle.std.proofs.lemmas.List.{get_or-take}
use Rattle.std.proofs.lemmas.List.Folds.{length-prefix_len}
use Rattle.std.proofs.lemmas.List.Sums.{prefix_len_passes}

-- so many elements from the front on are that front
pub front : {X : Type 0} (p : X → Bool) (xs : List X) → take (length (take_while p xs)) xs ≡ take_while p xs
front p xs = ap (λ (n : ℕ). take n xs) (length-prefix_len p xs)

-- each element of the front passes
pub AllPass-front : {X : Type 0} (p : X → Bool) (xs : List X) → AllPass p (take_while p xs)
AllPass-front p xs k d lt =
    let below : k < prefix_len p xs = omega (arith, length-prefix_len p xs) in
    rw (get_or-take (prefix_len p xs) xs k d below) (prefix_len_passes p xs k d below)

pub AllPass-taken : {X : Type 0} (p : X → Bool) (xs : List X) → AllPass p (take (length (take_while p xs)) xs)
AllPass-taken p xs = rw front (AllPass-front p xs)

pub ruleset number_fronts = (front, AllPass-taken)
