use Rattle.std.proofs.Common.{◌∷◌, false}
use Rattle.std.proofs.lemmas.Result.{err_from_is_err_and}
use Rattle.selector_read.specs.Reading.{Held, low_of, operand, state}
use Rattle.selector_read.proofs.steps_on_values.between_step.Goals as goal

pub returns-in_err-value : goal.returns-in_err-value
returns-in_err-value c =
    let p = err_from_is_err_and c.from_residual.result c.from_residual.ensures.1 in
    rw (p.1, p.2) (c.in_err-value.ensures (λ (h : Held). state (low_of false h.tree ∷ h.begun) operand))
