-- Arithmetic on whole numbers of 64 bits; whatever leaves them is null.
use Rattle.std.specs.Prelude.{◌^◌, nat_lt, Bool, ℤ, pos, negsuc, neg_ℤ, ◌+ℤ◌, ◌-ℤ◌, ◌*ℤ◌, int_div, if◌then◌else◌}
use Rattle.std.specs.Ordering.{int_eq}
use Rattle.selector_read.specs.declared.trees.MathOp.{MathOp}
use Rattle.selector_read.specs.declared.trees.MathOp.TheVariants.{Add, Sub, Mul, Div}
use Rattle.selector_eval.specs.Values.{Value, null, number}

-- from -9223372036854775808 to 9223372036854775807; `negsuc n` is -(n + 1)
abbrev pub is_within : ℤ → Bool
is_within (pos n) = nat_lt n (2 ^ 63)
is_within (negsuc n) = nat_lt n (2 ^ 63)

-- the number, or null where it leaves 64 bits
abbrev pub if_within : ℤ → Value
if_within n = if is_within n then number n else null

-- division cuts towards zero, and by zero there is none
abbrev pub quotient : ℤ → ℤ → Value
quotient a b = if int_eq b (pos 0) then null else if_within (int_div a b)

-- an operator on two numbers; null where the result leaves 64 bits
abbrev pub calculated_on : MathOp → ℤ → ℤ → Value
calculated_on Add a b = if_within (a +ℤ b)
calculated_on Sub a b = if_within (a -ℤ b)
calculated_on Mul a b = if_within (a *ℤ b)
calculated_on Div a b = quotient a b

-- an operator on two values; null where one is no number
abbrev pub calculated : MathOp → Value → Value → Value
calculated op (number a) (number b) = calculated_on op a b
calculated op v w = null

-- a minus sign before a value; null where it is no number
abbrev pub value_minus : Value → Value
value_minus (number n) = if_within (neg_ℤ n)
value_minus v = null

-- a plus sign before a value, which leaves a number as it is
abbrev pub value_plus : Value → Value
value_plus (number n) = number n
value_plus v = null
