use Rattle.std.proofs.Common.{◌≤◌, length}
use Rattle.disk_core.proofs.file.read_front.Given as goal

abbrev pub invariant-loop : goal.invariant-loop
invariant-loop l = l.count ≤ length l.buffer
