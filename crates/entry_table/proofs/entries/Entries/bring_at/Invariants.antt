use Rattle.queue_model.specs.declared.rows.RowState.TheVariants.{Available}
use Rattle.entry_table.proofs.entries.Entries.bring_at.Given as goal

abbrev pub ghosts-bring_word : goal.ghosts-bring_word
ghosts-bring_word g a = record { target = a.row; change = a.change; before = Available }
