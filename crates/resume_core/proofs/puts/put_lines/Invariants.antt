use Rattle.std.proofs.Common.{◌≡◌, ◌++◌, drop, map}
use Rattle.script_read.specs.Allowed.{all_ops}
use Rattle.script_read.specs.Phases.{actors_in}
use Rattle.resume_core.specs.Lines.{put_lines}
use Rattle.resume_core.proofs.puts.put_lines.Given as goal

abbrev pub invariant-phases : goal.invariant-phases
invariant-phases l = l.lines.items ++ put_lines (all_ops (map actors_in (drop l.phase-index l.phases))) ≡ put_lines (all_ops (map actors_in l.phases))
