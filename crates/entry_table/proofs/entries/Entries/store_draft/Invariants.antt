use Rattle.entry_table.proofs.entries.Entries.store_draft.Given as goal

abbrev pub ghosts-store_at : goal.ghosts-store_at
ghosts-store_at g a = record { target = a.row; part = a.word; value = a.value }
