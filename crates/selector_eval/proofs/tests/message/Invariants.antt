use Rattle.std.specs.List.{All}
use Rattle.message_core.specs.Spelling.{IsReadable}
use Rattle.selector_eval.proofs.tests.message.Given as goal

abbrev pub invariant-loop-name : goal.invariant-loop-name
invariant-loop-name g l = All IsReadable l.headers.items
