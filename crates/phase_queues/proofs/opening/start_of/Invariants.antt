use Rattle.std.proofs.Common.{◌≡◌, ◌≤◌, ◌++◌, length, vec_capacity}
use Rattle.std.specs.Vec.Iter.{into_iter_items, into_iter_len}
use Rattle.phase_queues.specs.Left.{AreCarried}
use Rattle.phase_queues.proofs.opening.start_of.Given as goal

abbrev pub invariant-loop-entry : goal.invariant-loop-entry
invariant-loop-entry l = record {
  all : l.yielded ++ into_iter_items l.entry-iterator ≡ into_iter_items l.initial.entry-iterator;
  long : into_iter_len l.entry-iterator ≡ length (into_iter_items l.entry-iterator);
  carried : AreCarried l.yielded l.start.items;
  room : length (into_iter_items l.initial.entry-iterator) ≤ vec_capacity l.start;
}
