use Rattle.std.proofs.Common.{◌∷◌}
use Rattle.std.proofs.lemmas.Result.{err_from_is_err_and}
use Rattle.selector_read.specs.Reading.{Held, compare_of, operand, state}
use Rattle.selector_read.proofs.steps_on_values.sign_step.Goals as goal

pub returns-in_err-left : goal.returns-in_err-left
returns-in_err-left c =
    let p = err_from_is_err_and c.from_residual.result c.from_residual.ensures.1 in
    rw (p.1, p.2) (c.in_err-left.ensures (λ (h : Held). state (compare_of c.args.op h.tree ∷ h.begun) operand))
