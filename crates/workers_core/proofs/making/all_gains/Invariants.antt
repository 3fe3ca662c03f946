use Rattle.std.proofs.Common.{◌≡◌, ◌≤◌, take}
use Rattle.workers_core.specs.Ready.{all_gains}
use Rattle.workers_core.proofs.making.all_gains.Given as goal

abbrev pub invariant-lines : goal.invariant-lines
invariant-lines l = record {
  sum : l.all ≡ all_gains (take l.job-index l.jobs);
  few : l.all ≤ l.job-index;
}
