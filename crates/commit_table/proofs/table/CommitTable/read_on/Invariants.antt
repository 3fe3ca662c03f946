use Rattle.std.proofs.Common.{◌-◌}
use Rattle.commit_table.specs.Turns.{read_events}
use Rattle.commit_table.proofs.table.CommitTable.read_on.Given as goal

abbrev pub ghosts-put_read : goal.ghosts-put_read
ghosts-put_read g a = record {
  events = read_events a.caller a.answer.now (g.D.Disk.faults a.desk.journal.disk - g.B.Before.faults);
  allowance = a.seat.now.me.0.allowance;
  share = a.seat.now.me.0.share;
}
