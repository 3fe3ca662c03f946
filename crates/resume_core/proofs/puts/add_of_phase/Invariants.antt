use Rattle.std.proofs.Common.{◌≡◌, ◌++◌, drop, map}
use Rattle.script_read.specs.Allowed.{ops_in}
use Rattle.resume_core.specs.Lines.{put_lines}
use Rattle.resume_core.proofs.puts.add_of_phase.Given as goal

abbrev pub invariant-actors : goal.invariant-actors
invariant-actors l =
    l.lines.items ++ put_lines (ops_in (map (λ actor. (actor.0, actor.1.items)) (drop l.actor-index l.actors)))
    ≡ l.fn.lines.items ++ put_lines (ops_in (map (λ actor. (actor.0, actor.1.items)) l.actors))
