use Rattle.std.proofs.Common.{◌≡◌, List, ◌++◌, map, length, reverse, vec_len}
use Rattle.line_core.specs.Fits.{Did, unlocks}
use Rattle.workers_core.specs.Held.{hands_of}
use Rattle.workers_core.specs.Ready.{AllServe, Holds}
use Rattle.line_core.specs.Runs.{Ran}
use Rattle.workers_core.proofs.leaving.leave_all.Given as goal

-- some entries were left, and the others stand in the list with the next one last
abbrev pub invariant-leaving : goal.invariant-leaving
invariant-leaving g l = record {
  as_many : length l.queues ≡ vec_len l.passes;
  serve : AllServe g.Q.SharedQueue.serves l.queues l.passes.items;
  holds : Holds (map g.Q.SharedQueue.sight l.passes.items) (reverse (hands_of l.held.items));
  dids : List Did;
  ran : Ran (map g.Q.SharedQueue.build l.queues) (map g.Q.SharedQueue.sight l.fn.passes.items) dids (map g.Q.SharedQueue.sight l.passes.items);
  rest : unlocks (hands_of l.fn.held.items) ≡ dids ++ unlocks (reverse (hands_of l.held.items));
}

abbrev pub decreases-leaving : goal.decreases-leaving
decreases-leaving g l = vec_len l.held
