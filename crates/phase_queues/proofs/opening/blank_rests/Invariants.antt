use Rattle.std.proofs.Common.{◌≡◌, ◌≤◌, take, vec_capacity, vec_len}
use Rattle.defs_read.specs.Defined.{queues_in}
use Rattle.account_core.specs.Texts.{queue_names}
use Rattle.phase_queues.specs.Opened.{HoldRows, TellNothing, rest_names}
use Rattle.phase_queues.proofs.opening.blank_rests.Given as goal

abbrev pub invariant-loop-at : goal.invariant-loop-at
invariant-loop-at l = record {
  names : rest_names l.rests.items ≡ take l.at (queue_names (queues_in l.defs));
  none : TellNothing l.rests.items;
  room : HoldRows l.left l.puts l.rests.items;
  long : vec_len l.rests ≡ l.at;
  fits : vec_len l.defs.queues ≤ vec_capacity l.rests;
}
