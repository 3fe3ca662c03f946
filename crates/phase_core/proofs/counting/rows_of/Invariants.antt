use Rattle.std.proofs.Common.{◌≡◌, ◌*◌, ◌≤◌}
use Rattle.queue_model.specs.Table.{most_entries}
use Rattle.phase_core.specs.Rows.{rows_up_to}
use Rattle.phase_core.proofs.counting.rows_of.Given as goal

-- the rows of the queues so far were counted
abbrev pub invariant-queues : goal.invariant-queues
invariant-queues l = record {
  rows : l.rows ≡ rows_up_to l.left l.puts l.number;
  low : l.rows ≤ l.number * most_entries;
}
