use Rattle.std.proofs.Common.{◌≡◌, ◌<◌, ℕ, slice_index, vec_capacity, vec_len}
use Rattle.script_read.specs.Allowed.{ops_in}
use Rattle.script_read.specs.Phases.{actors_in}
use Rattle.workers_core.specs.Made.{puts_in}
use Rattle.phase_core.proofs.counting.puts_of.Given as goal

-- the lines of all actors were counted for the queues so far
abbrev pub invariant-queues : goal.invariant-queues
invariant-queues l = record {
  many : vec_len l.puts ≡ l.number;
  room : vec_capacity l.puts ≡ vec_len l.defs.queues;
  each : (q : ℕ) → q < l.number → slice_index l.puts.items q ≡ puts_in q (ops_in (actors_in l.phase));
}
