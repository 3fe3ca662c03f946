use Rattle.std.proofs.Common.{◌≡◌, ◌≤◌, ◌+◌, true, vec_len, vec_capacity}
use Rattle.overflow_core.specs.Limits.{is_ring}
use Rattle.workers_core.specs.Drops.{left_to}
use Rattle.workers_core.specs.Held.{hands_of}
use Rattle.workers_core.specs.Hold.{Hold, KeepsOthers}
use Rattle.workers_core.specs.Lines.{Drops}
use Rattle.workers_core.proofs.Dropping.{Trimming}
use Rattle.workers_core.proofs.drops.trim.Given as goal

-- some entries were dropped, and there is room for as many more as there are
abbrev pub invariant-trimming : goal.invariant-trimming
invariant-trimming g l = record {
  serves : g.Q.SharedQueue.serves l.queue l.pass;
  hold : Hold (g.Q.SharedQueue.sight l.pass) l.number (hands_of l.held.items);
  others : KeepsOthers l.number (hands_of l.fn.held.items) (hands_of l.held.items);
  did : Drops (Trimming l.limits l.number) (g.Q.SharedQueue.build l.queue) l.number (g.Q.SharedQueue.sight l.fn.pass) (hands_of l.fn.held.items) l.fn.drops.items (g.Q.SharedQueue.sight l.pass) (hands_of l.held.items) l.drops.items;
  room : is_ring l.limits ≡ true → vec_len l.drops + left_to (g.Q.SharedQueue.build l.queue) (g.Q.SharedQueue.sight l.pass) ≤ vec_capacity l.drops;
  fewer : vec_len l.held ≤ vec_len l.fn.held;
  held : vec_capacity l.held ≡ vec_capacity l.fn.held;
  drops : vec_capacity l.drops ≡ vec_capacity l.fn.drops;
}

abbrev pub decreases-trimming : goal.decreases-trimming
decreases-trimming g l = left_to (g.Q.SharedQueue.build l.queue) (g.Q.SharedQueue.sight l.pass)
