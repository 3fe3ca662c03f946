use Rattle.std.proofs.Common.{◌≡◌, ◌++◌, drop}
use Rattle.resume_core.specs.Lines.{put_lines}
use Rattle.resume_core.proofs.puts.add_of_actor.Given as goal

abbrev pub invariant-lines : goal.invariant-lines
invariant-lines l = l.lines.items ++ put_lines (drop l.op-index l.ops) ≡ l.fn.lines.items ++ put_lines l.ops
