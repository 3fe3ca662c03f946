use Rattle.queue_model.specs.declared.steps.Step.TheVariants.{Load}
use Rattle.entry_table.proofs.entries.Entries.look.Given as goal

abbrev pub ghosts-look_at : goal.ghosts-look_at
ghosts-look_at g a = record { step = Load a.word }
