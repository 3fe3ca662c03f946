use Rattle.std.proofs.Common.{Some, [], ◌∷◌}
use Rattle.history_lock.proofs.tests.ample.Given as goal

abbrev pub ghosts-open : goal.ghosts-open
ghosts-open g a = record { opening = Some a.object; allowance = 1; share = 0; consumers = [] }

abbrev pub ghosts-unlock : goal.ghosts-unlock
ghosts-unlock g a = record { events = 0 ∷ []; allowance = 0; share = 0 }
