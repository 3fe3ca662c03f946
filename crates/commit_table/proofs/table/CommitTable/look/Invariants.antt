use Rattle.std.proofs.Common.{[]}
use Rattle.commit_table.proofs.table.CommitTable.look.Given as goal

abbrev pub ghosts-unlock : goal.ghosts-unlock
ghosts-unlock g a = record { events = []; allowance = a.seat.now.me.0.allowance; share = a.seat.now.me.0.share }
