use Rattle.std.proofs.Common.{length-append}
use Rattle.message_core.specs.Spelling.{cut}
use Rattle.message_core.proofs.Contents.{size_is, message_cleared}
use Rattle.message_core.proofs.laws.sizes.Goals as goal

pub returns-clause-size_of : goal.returns-clause-size_of
returns-clause-size_of c = size_is

pub returns-clause-cut_size : goal.returns-clause-cut_size
returns-clause-cut_size c = λ m. length-append (cut m) m.body

pub returns-clause-cleared : goal.returns-clause-cleared
returns-clause-cleared c = message_cleared
