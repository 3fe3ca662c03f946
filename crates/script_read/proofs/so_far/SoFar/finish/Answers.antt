use Rattle.script_read.proofs.Tracked.{all_phases}
use Rattle.script_read.proofs.so_far.SoFar.finish.Goals as goal

pub returns-in-Ok : goal.returns-in-Ok
returns-in-Ok c = λ before t. all_phases c.args.self c.push.new.self c.in_ok-last.last before t c.in-Ok.ensures.items c.in_ok-last.ensures
