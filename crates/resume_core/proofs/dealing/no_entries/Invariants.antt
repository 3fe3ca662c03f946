use Rattle.std.proofs.Common.{◌≤◌, length, vec_capacity}
use Rattle.resume_core.proofs.Deals.{NoneYet}
use Rattle.resume_core.proofs.dealing.no_entries.Given as goal

abbrev pub invariant-loop-at : goal.invariant-loop-at
invariant-loop-at l = record {
  none : NoneYet l._at l.none.items;
  room : length l.defs.queues.items ≤ vec_capacity l.none;
}
