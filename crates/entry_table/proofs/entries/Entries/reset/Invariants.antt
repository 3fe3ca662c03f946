use Rattle.entry_table.proofs.entries.Entries.reset.Given as goal

abbrev pub ghosts-reset_at : goal.ghosts-reset_at
ghosts-reset_at g a = record { along = a.list; place = 0 }
