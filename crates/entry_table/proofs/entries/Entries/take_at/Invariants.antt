use Rattle.entry_table.proofs.entries.Entries.take_at.Given as goal

abbrev pub ghosts-take_word : goal.ghosts-take_word
ghosts-take_word g a = record { target = a.row; change = a.change; before = a.from }
