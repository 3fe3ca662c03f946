use Rattle.entry_table.proofs.entries.Entries.silence.Given as goal

abbrev pub ghosts-silence_at : goal.ghosts-silence_at
ghosts-silence_at g a = record { consumer = a.consumer; along = a.list; number = 0 }
