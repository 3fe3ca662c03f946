use Rattle.std.proofs.Common.{arith}
use Rattle.command_line.proofs.Numbering.{below_ten, tens_fit}
use Rattle.command_line.proofs.numbers.number_of.Goals as goal

pub overflow_mul-number : goal.overflow_mul-number
overflow_mul-number c = omega (arith, tens_fit _ _ _ c.digits.invariant.reads c.digits-test.true c.digits.invariant.few)

pub overflow_add-number : goal.overflow_add-number
overflow_add-number c =
    omega (
      arith,
      tens_fit _ _ _ c.digits.invariant.reads c.digits-test.true c.digits.invariant.few,
      below_ten _ _ _ c.digits.invariant.reads c.digits-test.true,
      c.from.ensures,
    )
