use Rattle.std.proofs.Common.{◌≡◌, ◌≤◌, take}
use Rattle.workers_core.specs.Made.{puts_in}
use Rattle.phase_actors.proofs.splitting.puts_in.Given as goal

abbrev pub invariant-lines : goal.invariant-lines
invariant-lines l = record {
  counted : l.puts ≡ puts_in l.queue (take l.op-index l.ops);
  few : l.puts ≤ l.op-index;
}
