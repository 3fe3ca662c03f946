use Rattle.std.proofs.Common.{rules}
use Rattle.selector_read.proofs.WritingTrees.{writable_stands}
use Rattle.selector_read.proofs.WritingAgain.{read_again}
use Rattle.selector_read.proofs.writing.text.Goals as goal

pub returns-in-Ok-clause-stands : goal.returns-in-Ok-clause-stands
returns-in-Ok-clause-stands c = writable_stands _ _ c.written.ensures.writable (search rules)

pub returns-in-Ok-clause-again : goal.returns-in-Ok-clause-again
returns-in-Ok-clause-again c = read_again _ _ c.written.ensures.writable (search rules)
