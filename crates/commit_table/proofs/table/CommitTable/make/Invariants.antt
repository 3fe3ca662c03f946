use Rattle.std.proofs.Common.{Some, []}
use Rattle.commit_table.specs.Passes.{begun_of}
use Rattle.commit_table.proofs.table.CommitTable.make.Given as goal

abbrev pub ghosts-begin : goal.ghosts-begin
ghosts-begin g a = record {
  opening = Some (begun_of g.D.Disk.seen g.D.Disk.moment g.D.Disk.trail g.D.Disk.faults g.D.Disk.syncs a.desk.journal a.callers a.tickets a.bytes_each);
  allowance = 0;
  share = a.tickets;
  consumers = [];
}
