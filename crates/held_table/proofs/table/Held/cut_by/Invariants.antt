use Rattle.held_table.specs.Views.{is_in, not_in}
use Rattle.held_table.proofs.table.Held.cut_by.Given as goal

abbrev pub ghosts-cut : goal.ghosts-cut
ghosts-cut g a = record {
  allowance = a.amount;
  share = a.amount;
  kept = not_in a.consumers.now a.seat.now.me.0.consumers;
  moved = a.consumers.now;
  is_moved = λ c. is_in c a.consumers.now;
}
