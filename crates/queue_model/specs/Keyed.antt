-- lists in which an element is found by a test, as a record by its key
use Rattle.std.specs.Prelude.{◌≡◌, Bool, Option, Some, None, List, [], ◌∷◌, ◌++◌, if◌then◌else◌, find}
use Rattle.std.specs.Option.{option_to_list}

-- The first element that passes the test is changed, or taken out. Where none passes one may be added at the end.
abbrev pub alter : {X : Type 0} → (X → Bool) → (Option X → Option X) → List X → List X
alter test change [] = option_to_list (change None)
alter test change (x ∷ xs) = if test x then option_to_list (change (Some x)) ++ xs else x ∷ alter test change xs

-- no element passes the test of an earlier one: each test finds its own element alone
abbrev pub Apart : {X : Type 0} → (X → X → Bool) → List X → Type 0
Apart same [] = Unit {0}
Apart same (x ∷ xs) = (find (same x) xs ≡ None) × Apart same xs
