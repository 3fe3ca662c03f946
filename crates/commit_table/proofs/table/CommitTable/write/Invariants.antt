use Rattle.std.proofs.Common.{◌-◌}
use Rattle.commit_table.specs.Turns.{commit_events, is_stored}
use Rattle.commit_table.proofs.table.CommitTable.write.Given as goal

abbrev pub ghosts-put_back : goal.ghosts-put_back
ghosts-put_back g a = record {
  events = commit_events a.caller a.txn.now.items (is_stored a.settled.now) (g.D.Disk.moment a.desk.journal.disk) (g.D.Disk.syncs a.desk.journal.disk - g.B.Before.syncs) (g.D.Disk.faults a.desk.journal.disk - g.B.Before.faults);
  allowance = a.seat.now.me.0.allowance;
  share = a.seat.now.me.0.share - 1;
}
