-- Comparisons of two values (JMS 1.1, section 3.8.1.1).
use Rattle.std.specs.Prelude.{ℤ, Bool, true, false, not, int_lt, int_le}
use Rattle.std.specs.Ordering.{int_eq}
use Rattle.std.specs.Str.{bytes_eq}
use Rattle.selector_tokens.specs.declared.tokens.CompareOp.{CompareOp}
use Rattle.selector_tokens.specs.declared.tokens.CompareOp.TheVariants.{Equal, Unequal, Less, LessEqual, Greater, GreaterEqual}
use Rattle.selector_eval.specs.Values.{Value, null, truth, number, text}

-- two numbers compare by value
abbrev pub numbers_pass : CompareOp → ℤ → ℤ → Bool
numbers_pass Equal a b = int_eq a b
numbers_pass Unequal a b = not (int_eq a b)
numbers_pass Less a b = int_lt a b
numbers_pass LessEqual a b = int_le a b
numbers_pass Greater a b = int_lt b a
numbers_pass GreaterEqual a b = int_le b a

-- two texts or two truth values have = and <>, by whether they are the same; another sign on them is false
abbrev pub sameness_passes : CompareOp → Bool → Bool
sameness_passes Equal same = same
sameness_passes Unequal same = not same
sameness_passes Less same = false
sameness_passes LessEqual same = false
sameness_passes Greater same = false
sameness_passes GreaterEqual same = false

-- whether two truth values are the same
abbrev pub same_truth : Bool → Bool → Bool
same_truth true b = b
same_truth false b = not b

-- a comparison with null is null; unlike types are false, for <> too
abbrev pub compared : CompareOp → Value → Value → Value
compared op null w = null
compared op (truth a) null = null
compared op (truth a) (truth b) = truth (sameness_passes op (same_truth a b))
compared op (truth a) (number b) = truth false
compared op (truth a) (text b) = truth false
compared op (number a) null = null
compared op (number a) (truth b) = truth false
compared op (number a) (number b) = truth (numbers_pass op a b)
compared op (number a) (text b) = truth false
compared op (text a) null = null
compared op (text a) (truth b) = truth false
compared op (text a) (number b) = truth false
compared op (text a) (text b) = truth (sameness_passes op (bytes_eq a b))
