-- The values of expressions (docs/SELECTORS.md).
use Rattle.std.specs.Prelude.{ℕ, ℤ, Bool, true, false, List}
use Rattle.selector_eval.specs.declared.truths.Truth.{Truth}
use Rattle.selector_eval.specs.declared.truths.Truth.TheVariants.{True, False, Unknown}

-- null, a truth value, a whole number, or a text as its bytes
pub data Value : Type 0 where
  null : Value
  truth : Bool → Value
  number : ℤ → Value
  text : List ℕ → Value

-- a truth value as one of three truths
abbrev pub known : Bool → Truth
known true = True
known false = False

-- a value as NOT, AND and OR read it: what is no truth value is unknown
abbrev pub truth_in : Value → Truth
truth_in null = Unknown
truth_in (truth b) = known b
truth_in (number n) = Unknown
truth_in (text s) = Unknown

-- what they give: an unknown result is null
abbrev pub value_in : Truth → Value
value_in True = truth true
value_in False = truth false
value_in Unknown = null
