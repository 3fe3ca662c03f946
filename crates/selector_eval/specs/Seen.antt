-- The program's values as values.
use Rattle.std.specs.Prelude.{ℤ, Option, Some, None}
use Rattle.selector_eval.specs.declared.values.Value as program
use Rattle.selector_eval.specs.declared.values.Value.TheVariants as held
use Rattle.selector_eval.specs.Values.{Value, null, truth, number, text}

-- a value of the program as a value
abbrev pub seen : program.Value → Value
seen held.Null = null
seen (held.Bool b) = truth b
seen (held.Int n) = number n
seen (held.Text s) = text s.now

-- a number that may be missing
abbrev pub number_or_null : Option ℤ → Value
number_or_null None = null
number_or_null (Some n) = number n
