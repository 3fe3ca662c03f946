use Rattle.std.proofs.Common.{◌∙◌, ap}
use Rattle.selector_eval.specs.Evaluation.{truth_of, value_of}
use Rattle.selector_eval.specs.Values.{truth_in}
use Rattle.selector_eval.proofs.evaluation.truth.Goals as goal

pub returns : goal.returns
unfolding truth_of
returns c = c.truth.ensures ∙ ap truth_in (c.value_in.ensures ∙ ap (λ t. value_of t c.args.message.now) c.expr.ensures)
