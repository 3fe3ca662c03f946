use Rattle.commit_table.proofs.table.CommitTable.read_at.Given as goal

abbrev pub ghosts-read_on : goal.ghosts-read_on
ghosts-read_on g a = record { faults = g.D.Disk.faults a.desk.journal.disk }
