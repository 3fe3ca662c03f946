use Rattle.report_core.proofs.phrases.say_words.Goals as goal

pub returns-in-NotStealable : goal.returns-in-NotStealable
returns-in-NotStealable g c = rw c.in-NotStealable.is c.say_then_state-in-NotStealable.ensures

pub returns-in-NoTransaction : goal.returns-in-NoTransaction
returns-in-NoTransaction g c = rw c.in-NoTransaction.is c.write_all-in-NoTransaction.ensures.says

pub returns-in-RolledBack : goal.returns-in-RolledBack
returns-in-RolledBack g c = rw c.in-RolledBack.is c.write_all-in-RolledBack.ensures.says
