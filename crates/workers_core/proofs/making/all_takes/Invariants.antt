use Rattle.std.proofs.Common.{take}
use Rattle.workers_core.proofs.Counting.{Counts}
use Rattle.workers_core.proofs.making.all_takes.Given as goal

-- the lines so far were counted
abbrev pub invariant-lines : goal.invariant-lines
invariant-lines l = Counts l.takes (take l.job-index l.jobs)
