use Rattle.std.proofs.Common.{◌≡◌, ◌+◌, ◌*◌, ◌≤◌, drop}
use Rattle.queue_model.specs.Table.{most_entries}
use Rattle.phase_queues.specs.Left.{rows_left}
use Rattle.broker_top.specs.Summary.{entries_in}
use Rattle.broker_top.proofs.tally.entries_in.Given as goal

abbrev pub invariant-queues : goal.invariant-queues
invariant-queues l = record {
  sum : l.entries + entries_in (rows_left (drop l.queue-index l.left)) ≡ entries_in (rows_left l.left);
  low : l.entries ≤ l.queue-index * most_entries;
}
