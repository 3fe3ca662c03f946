use Rattle.commit_table.proofs.table.CommitTable.commit_at.Given as goal

abbrev pub ghosts-write : goal.ghosts-write
ghosts-write g a = record { syncs = g.D.Disk.syncs a.desk.journal.disk; faults = g.D.Disk.faults a.desk.journal.disk }
