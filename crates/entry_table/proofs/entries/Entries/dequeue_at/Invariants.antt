use Rattle.entry_table.proofs.entries.Entries.dequeue_at.Given as goal

abbrev pub ghosts-end_word : goal.ghosts-end_word
ghosts-end_word g a = record { target = a.row; change = a.change; before = a.from }
