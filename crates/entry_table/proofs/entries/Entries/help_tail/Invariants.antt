use Rattle.entry_table.proofs.entries.Entries.help_tail.Given as goal

abbrev pub ghosts-help_at : goal.ghosts-help_at
ghosts-help_at g a = record { along = a.list; source = a.from; target = a.to }
