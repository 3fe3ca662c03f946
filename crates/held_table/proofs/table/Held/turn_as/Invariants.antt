use Rattle.std.specs.Prelude.{◌-◌}
use Rattle.queue_model.specs.History.{after}
use Rattle.acts_core.specs.Meaning.{allowance_after}
use Rattle.acts_core.specs.Serves.{rows_of_call}
use Rattle.held_table.specs.Turns.{plain, deeds_in}
use Rattle.held_table.specs.Views.{outset_in}
use Rattle.held_table.proofs.table.Held.turn_as.Given as goal

abbrev pub ghosts-finish : goal.ghosts-finish
ghosts-finish g a =
    let v = a.seat.now.me.0 in
    let call = g.J.Doing.call in
    record {
      events = deeds_in (after (outset_in v).opening v.seen) a.caller call (plain (g.W.Work.said 0 a.reply.now));
      allowance = allowance_after call v.allowance;
      share = v.share - rows_of_call call;
    }
