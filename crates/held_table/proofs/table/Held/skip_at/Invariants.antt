use Rattle.std.specs.Prelude.{[]}
use Rattle.held_table.proofs.table.Held.skip_at.Given as goal

abbrev pub ghosts-leave : goal.ghosts-leave
ghosts-leave g a = record { events = []; allowance = a.seat.now.me.0.allowance; share = a.seat.now.me.0.share }
