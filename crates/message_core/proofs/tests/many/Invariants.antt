use Rattle.std.specs.List.{All}
use Rattle.message_core.specs.Spelling.{IsReadable}
use Rattle.message_core.proofs.tests.many.Given as goal

abbrev pub invariant-adding : goal.invariant-adding
invariant-adding g l = All IsReadable l.headers.items
