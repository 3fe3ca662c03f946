use Rattle.journal_format.proofs.First.{one_list, nothing_behind}
use Rattle.journal_format.proofs.laws.commits.Goals as goal

pub returns-clause-one_list : goal.returns-clause-one_list
returns-clause-one_list c = one_list

pub returns-clause-nothing_behind : goal.returns-clause-nothing_behind
returns-clause-nothing_behind c = nothing_behind
