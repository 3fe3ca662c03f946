use Rattle.entry_table.proofs.entries.Entries.mark.Given as goal

abbrev pub ghosts-mark_at : goal.ghosts-mark_at
ghosts-mark_at g a = record { along = a.list; place = a.place }
