use Rattle.std.proofs.Common.{◌≡◌, drop}
use Rattle.selector_eval.specs.Values.{truth_in}
use Rattle.selector_eval.specs.Truths.{truth_or}
use Rattle.selector_eval.specs.Evaluation.{equals_some}
use Rattle.selector_eval.specs.Seen.{seen}
use Rattle.selector_eval.proofs.comparing.equals_some.Given as goal

abbrev pub invariant-loop-text : goal.invariant-loop-text
invariant-loop-text l = truth_or l.found (truth_in (equals_some (seen l.value) (drop l.text-index l.list))) ≡ truth_in (equals_some (seen l.value) l.list)
