-- where a key stands among the last rows
use Rattle.std.specs.Prelude.{ℕ, Option, List}
use Rattle.acts_core.specs.Kept.{Kept}
use Rattle.lastval_core.specs.declared.search.Place.{Place}
use Rattle.lastval_core.specs.declared.search.Place.TheVariants.{At, Before}
use Rattle.lastval_core.specs.Lasts.{StandsAt, BelongsAt}

abbrev pub IsPlace : Kept → List ℕ → Option (List ℕ) → Place → Type 0
IsPlace k lasts key (At i) = StandsAt k lasts key i
IsPlace k lasts key (Before i) = BelongsAt k lasts key i
