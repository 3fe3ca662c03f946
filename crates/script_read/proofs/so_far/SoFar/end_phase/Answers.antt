use Rattle.std.proofs.Common.{◌∙◌, ap}
use Rattle.script_read.specs.SoFar.{actors_of}
use Rattle.script_read.proofs.Tracked.{rest_ends}
use Rattle.script_read.proofs.so_far.SoFar.end_phase.Goals as goal
use Rattle.script_read.proofs.so_far.SoFar.end_phase.Goals.{in-Ok, in-Err}

pub returns : goal.returns
returns c = λ before t. elim c.match-push.branch [
  | in-Ok w ↦ rw w.result-is (rest_ends c.args.self.now c.push.new.self c.in_ok-ended.ended c.replace-ended.new.dest before t w.in-Ok.ensures.items (c.in_ok-ended.ensures ∙ ap actors_of c.replace-ended.ensures.value) (ap actors_of c.replace-ended.ensures.after ∙ c.new.ensures))
  | in-Err w ↦ rw w.result-is tt
]
