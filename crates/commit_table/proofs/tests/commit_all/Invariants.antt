use Rattle.commit_table.specs.Tables.{Same}
use Rattle.commit_table.proofs.tests.commit_all.Given as goal

abbrev pub invariant-loop-k : goal.invariant-loop-k
invariant-loop-k g l = Same l.fn.pass l.pass
