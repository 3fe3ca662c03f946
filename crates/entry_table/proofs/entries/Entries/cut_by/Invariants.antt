use Rattle.entry_table.proofs.entries.Entries.cut_by.Given as goal

abbrev pub ghosts-cut : goal.ghosts-cut
ghosts-cut g a = record { amount = a.amount; parted = a.consumers.now }
