use Rattle.queue_model.specs.declared.rows.RowState.TheVariants.{Available}
use Rattle.queue_model.specs.declared.steps.Change.TheVariants.{Del}
use Rattle.entry_table.proofs.entries.Entries.delete_row.Given as goal

abbrev pub ghosts-delete_at : goal.ghosts-delete_at
ghosts-delete_at g a = record { target = a.row; change = Del; before = Available }
