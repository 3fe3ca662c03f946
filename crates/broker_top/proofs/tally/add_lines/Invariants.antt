use Rattle.std.proofs.Common.{◌≡◌, drop, length}
use Rattle.broker_top.specs.Summary.{HasRoom, counted, plus}
use Rattle.broker_top.proofs.tally.add_lines.Given as goal

abbrev pub invariant-lines : goal.invariant-lines
invariant-lines l = record {
  counts : plus l.tally (counted (drop l.line-index l.lines)) ≡ plus l.fn.tally (counted l.lines);
  room : HasRoom l.tally (length (drop l.line-index l.lines));
}
