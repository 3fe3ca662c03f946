-- The statements of the laws, each proved as the contract of a function in src/laws.rt.
use Rattle.std.specs.Prelude.{◌≡◌, ℕ, true, ◌↔◌, List, Option}
use Rattle.selector_eval.specs.Patterns.{Fits, fits}

-- the test of a pattern says what patterns stand for
abbrev pub LikeTest : Type 0
LikeTest = (escape : Option ℕ) (pattern text : List ℕ) → Fits escape pattern text ↔ (fits escape pattern text ≡ true)
