use Rattle.entry_table.proofs.entries.Entries.ring_in.Given as goal

abbrev pub ghosts-ring_at : goal.ghosts-ring_at
ghosts-ring_at g a = record { consumer = a.consumer; along = a.list; number = a.row }
