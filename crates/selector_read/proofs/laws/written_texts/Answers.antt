use Rattle.selector_read.proofs.WritingTrees.{written_stands}
use Rattle.selector_read.proofs.laws.written_texts.Goals as goal

pub returns-clause-stands : goal.returns-clause-stands
returns-clause-stands c = λ text tree is. written_stands text tree is.stands

pub returns-clause-short : goal.returns-clause-short
returns-clause-short c = λ text tree is short. record { short = short; stands = written_stands text tree is.stands }
