use Rattle.std.proofs.Common.{arith}
use Rattle.selector_read.proofs.Tokens.{selector_of-long, selector_of-short}
use Rattle.selector_read.proofs.reading.read_expr.Goals as goal

pub returns-then-text-gt-LONGEST_TEXT : goal.returns-then-text-gt-LONGEST_TEXT
returns-then-text-gt-LONGEST_TEXT c = selector_of-long c.args.text.now (omega arith)

pub returns : goal.returns
returns c = rw (selector_of-short c.args.text.now (omega arith)) c.read_tokens.ensures
