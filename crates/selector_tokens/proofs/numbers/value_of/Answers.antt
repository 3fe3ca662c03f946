use Rattle.std.proofs.Common.{◌+◌, ◌*◌, ◌^◌, ◌<◌, ◌∙◌, arith}
use Rattle.selector_tokens.proofs.Digits.{more_is_past}
use Rattle.selector_tokens.proofs.numbers.value_of.Goals as goal

pub returns-in_err-checked_mul : goal.returns-in_err-checked_mul
returns-in_err-checked_mul c =
    let past : c.loop-digit.value * 10 < 2 ^ 64 → ⊥ = c.in_err-checked_mul.ensures in
    c.from_residual.ensures ∙ more_is_past c.args.digits.now c.loop-digit.digit-index c.loop-digit.value c.requires (omega arith) c.loop-digit.invariant (omega arith)

pub returns-in_err-value : goal.returns-in_err-value
returns-in_err-value c =
    let past : c.in_ok-checked_mul.field-0 + c.from.result < 2 ^ 64 → ⊥ = c.in_err-value.ensures in
    c.from_residual-in_err-value.ensures ∙ more_is_past c.args.digits.now c.loop-digit.digit-index c.loop-digit.value c.requires (omega arith) c.loop-digit.invariant (omega (arith, c.in_ok-checked_mul.ensures.1, c.from.ensures))
