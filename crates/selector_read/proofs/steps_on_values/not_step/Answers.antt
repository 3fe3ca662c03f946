use Rattle.std.proofs.lemmas.Result.{err_from_is_err_and}
use Rattle.selector_read.specs.Reading.{Held, not_value, state}
use Rattle.selector_read.proofs.steps_on_values.not_step.Goals as goal

pub returns-in_err-value : goal.returns-in_err-value
returns-in_err-value c =
    let p = err_from_is_err_and c.from_residual.result c.from_residual.ensures.1 in
    rw (p.1, p.2) (c.in_err-value.ensures (λ (h : Held). state h.begun (not_value h.tree)))
