use Rattle.cursor_core.proofs.AtPass.{walking_stop, walking_runs}
use Rattle.cursor_core.proofs.walks.first.Goals as goal

pub step_behind-requires-clause-stop : goal.step_behind-requires-clause-stop
step_behind-requires-clause-stop g c =
    walking_stop c.args.pass.now c.rung.new.pass c.args.consumer c.args.list c.args.stop c.args.stop c.in-None.ensures.kept c.in-None.ensures.rung

pub returns-in-None-clause-faces : goal.returns-in-None-clause-faces
returns-in-None-clause-faces g c =
    walking_runs c.args.pass.now c.rung.new.pass c.step_behind.new.pass c.args.consumer c.args.list c.args.stop c.args.stop c.step_behind.result c.requires.consumer c.in-None.ensures.kept c.in-None.ensures.rung c.step_behind.ensures.steps
