-- NOT, AND and OR over three truths, as tables (JMS 1.1, section 3.8.1.2).
use Rattle.selector_eval.specs.declared.truths.Truth.{Truth}
use Rattle.selector_eval.specs.declared.truths.Truth.TheVariants.{True, False, Unknown}
use Rattle.selector_eval.specs.Values.{Value, truth_in, value_in}

-- NOT turns what is known
abbrev pub truth_not : Truth → Truth
truth_not True = False
truth_not False = True
truth_not Unknown = Unknown

-- AND is false where a side is false, and true where both are true
abbrev pub truth_and : Truth → Truth → Truth
truth_and True True = True
truth_and True False = False
truth_and True Unknown = Unknown
truth_and False True = False
truth_and False False = False
truth_and False Unknown = False
truth_and Unknown True = Unknown
truth_and Unknown False = False
truth_and Unknown Unknown = Unknown

-- OR is true where a side is true, and false where both are false
abbrev pub truth_or : Truth → Truth → Truth
truth_or True True = True
truth_or True False = True
truth_or True Unknown = True
truth_or False True = True
truth_or False False = False
truth_or False Unknown = Unknown
truth_or Unknown True = True
truth_or Unknown False = Unknown
truth_or Unknown Unknown = Unknown

-- the value is not true, in three-valued logic
abbrev pub value_not : Value → Value
value_not v = value_in (truth_not (truth_in v))

-- both values are true, in three-valued logic
abbrev pub value_and : Value → Value → Value
value_and v w = value_in (truth_and (truth_in v) (truth_in w))

-- one of the values is true, in three-valued logic
abbrev pub value_or : Value → Value → Value
value_or v w = value_in (truth_or (truth_in v) (truth_in w))
