-- names of headers, and a set of them
use Rattle.std.specs.Prelude.{◌≡◌, ℕ, ◌<◌, Bool, List, length, slice_get}
use Rattle.std.specs.List.{list_any}
use Rattle.std.specs.Str.{bytes_eq}
use Rattle.std.specs.BTreeSet.{BTreeSet}
use denote.Ref.{Bor}

-- the name is one of these
abbrev pub is_among : List ℕ → List (List ℕ) → Bool
is_among name names = list_any (bytes_eq name) names

-- the set has this name
abbrev pub has : BTreeSet (Bor (List ℕ)) → List ℕ → Bool
has set name = list_any (λ k. bytes_eq name k.now) set.keys

-- the set has exactly these names
abbrev pub Holds : BTreeSet (Bor (List ℕ)) → List (List ℕ) → Type 0
Holds set names = (name : List ℕ) → has set name ≡ is_among name names

-- two of the names are equal
abbrev pub HasDouble : List (List ℕ) → Type 0
HasDouble names = (i : ℕ) × (j : ℕ) × (i < j) × (j < length names) × (slice_get names i ≡ slice_get names j)
