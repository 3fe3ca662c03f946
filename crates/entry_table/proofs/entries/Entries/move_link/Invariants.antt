use Rattle.entry_table.proofs.entries.Entries.move_link.Given as goal

abbrev pub ghosts-unlink_at : goal.ghosts-unlink_at
ghosts-unlink_at g a = record { place = a.at; source = a.from; target = a.to }
