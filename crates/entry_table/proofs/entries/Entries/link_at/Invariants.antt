use Rattle.entry_table.proofs.entries.Entries.link_at.Given as goal

abbrev pub ghosts-link_word : goal.ghosts-link_word
ghosts-link_word g a = record { number = a.row; behind = a.after }
