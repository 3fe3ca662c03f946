use Rattle.entry_table.proofs.entries.Entries.count.Given as goal

abbrev pub ghosts-count_at : goal.ghosts-count_at
ghosts-count_at g a = record { along = a.list; place = 0 }
