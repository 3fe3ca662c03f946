use Rattle.std.proofs.Common.{◌≡◌, ◌≤◌, ◌++◌, length, vec_capacity}
use Rattle.std.specs.Vec.Iter.{into_iter_items, into_iter_len}
use Rattle.defs_read.specs.Defined.{queues_in}
use Rattle.resume_core.specs.Steps.{ResumesSoFar}
use Rattle.resume_core.proofs.opening.open_live.Given as goal

abbrev pub invariant-loop-entries : goal.invariant-loop-entries
invariant-loop-entries l = record {
  all : l.yielded ++ into_iter_items l.entries-iterator ≡ into_iter_items l.initial.entries-iterator;
  long : into_iter_len l.entries-iterator ≡ length (into_iter_items l.entries-iterator);
  so_far : ResumesSoFar (length l.yielded) (queues_in l.defs) l.fn.live l.left.items l.outdated.items;
  room : length (queues_in l.defs) ≤ vec_capacity l.left;
  also : length (queues_in l.defs) ≤ vec_capacity l.outdated;
}
