use Rattle.std.proofs.Common.{◌≡◌, ◌≤◌, ◌++◌, length, vec_capacity}
use Rattle.std.specs.Vec.Iter.{into_iter_items, into_iter_len}
use Rattle.defs_read.specs.Defined.{queues_in}
use Rattle.phase_queues.specs.Opened.{OpenedSoFar}
use Rattle.phase_queues.proofs.opening.open_all.Given as goal

abbrev pub invariant-loop-entries : goal.invariant-loop-entries
invariant-loop-entries g l = record {
  all : l.yielded ++ into_iter_items l.entries-iterator ≡ into_iter_items l.initial.entries-iterator;
  long : into_iter_len l.entries-iterator ≡ length (into_iter_items l.entries-iterator);
  opened : OpenedSoFar (length l.yielded) (queues_in l.defs) (into_iter_items l.initial.entries-iterator) l.puts l.queues.items l.bosses.items;
  room : length (queues_in l.defs) ≤ vec_capacity l.queues;
  also : length (queues_in l.defs) ≤ vec_capacity l.bosses;
}
