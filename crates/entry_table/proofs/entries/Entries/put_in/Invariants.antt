use Rattle.queue_model.specs.declared.steps.Node.TheVariants.{Head}
use Rattle.entry_table.proofs.entries.Entries.put_in.Given as goal

abbrev pub ghosts-fetch : goal.ghosts-fetch
ghosts-fetch g a = record { number = a.row; behind = Head 0 }
