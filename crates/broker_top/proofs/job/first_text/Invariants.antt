use Rattle.std.proofs.Common.{◌≡◌, ◌+◌, ◌≤◌, length}
use Rattle.script_read.specs.Lines.{lines_of, numbered}
use Rattle.broker_top.proofs.job.first_text.Given as goal

abbrev pub invariant-looking : goal.invariant-looking
invariant-looking l = record {
  first : numbered 1 (lines_of l.input) ≡ numbered l.number (lines_of l.rest);
  counted : l.number + length l.rest ≤ 1 + length l.input;
}

abbrev pub decreases-looking : goal.decreases-looking
decreases-looking l = length l.rest
