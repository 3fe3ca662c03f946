use Rattle.held_table.proofs.table.Held.turn.Given as goal

abbrev pub ghosts-turn_as : goal.ghosts-turn_as
ghosts-turn_as g a = record { call = g.W.Work.call a.work }
