use Rattle.journal_format.proofs.First.{no_journal, one_fault}
use Rattle.journal_format.proofs.laws.damages.Goals as goal

pub returns-clause-no_journal : goal.returns-clause-no_journal
returns-clause-no_journal c = no_journal

pub returns-clause-one_fault : goal.returns-clause-one_fault
returns-clause-one_fault c = one_fault
