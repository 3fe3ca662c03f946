use Rattle.entry_table.proofs.entries.Entries.watch_link.Given as goal

abbrev pub ghosts-watch_at : goal.ghosts-watch_at
ghosts-watch_at g a = record { place = a.node; source = 0; target = 0 }
