use Rattle.std.proofs.Common.{◌≡◌, ◌≤◌, length, map, vec_len, vec_capacity}
use Rattle.any_queue.specs.Kinds.{ServesAny, sight_in}
use Rattle.defs_read.specs.Defined.{queues_in}
use Rattle.workers_core.specs.Ready.{AllServe}
use Rattle.phase_actors.proofs.Splits.{Splitting}
use Rattle.phase_actors.proofs.splitting.split_all.Given as goal

abbrev pub invariant-queues : goal.invariant-queues
invariant-queues g l = record {
  many : vec_len l.passes ≡ l.number;
  bosses : vec_len l.bosses ≡ length l.queues;
  room : length l.queues ≤ vec_capacity l.passes;
  serve : AllServe ServesAny l.queues l.bosses.items;
  serves : AllServe ServesAny l.queues l.passes.items;
  split : Splitting (queues_in l.defs) l.name l.ops (map sight_in l.fn.bosses.items) (map sight_in l.bosses.items) (map sight_in l.passes.items);
}
