use Rattle.std.proofs.Common.{◌≡◌, drop, length}
use Rattle.std.specs.List.{flat_map}
use Rattle.broker_top.specs.Summary.{HasRoom, counted, plus}
use Rattle.broker_top.proofs.tally.add_logs.Given as goal

abbrev pub invariant-logs : goal.invariant-logs
invariant-logs l = record {
  counts : plus l.tally (counted (flat_map (λ log. log.lines.items) (drop l.log-index l.logs))) ≡ plus l.fn.tally (counted (flat_map (λ log. log.lines.items) l.logs));
  room : HasRoom l.tally (length (flat_map (λ log. log.lines.items) (drop l.log-index l.logs)));
}
