use Rattle.std.proofs.Common.{sym, ap}
use Rattle.held_table.specs.Views.{view_in}
use Rattle.held_table.proofs.Closing.{speaks_all}
use Rattle.held_table.proofs.table.Held.close.Goals as goal

pub close-requires-clause-boss : goal.close-requires-clause-boss
close-requires-clause-boss g c = speaks_all c.args.boss c.into_seat-seat.result.me.0 (ap view_in (sym c.into_seat-seat.ensures.2)) c.requires.last
