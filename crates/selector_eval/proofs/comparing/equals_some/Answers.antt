use Rattle.std.proofs.Common.{◌∙◌, drop}
use Rattle.std.proofs.lemmas.List.{drop_all}
use Rattle.selector_eval.specs.Seen.{seen}
use Rattle.selector_eval.proofs.ValueTables.{some_of_all}
use Rattle.selector_eval.proofs.comparing.equals_some.Goals as goal

pub returns : goal.returns
returns c = c.of.ensures ∙ some_of_all c.loop-text.found (seen c.args.value) c.args.list.now (drop c.loop-text.text-index c.args.list.now) c.loop-text.invariant (drop_all c.loop-text.text-index c.args.list.now c.loop-text-test.false)
