use Rattle.std.proofs.Common.{◌++◌, codes}
use Rattle.std.specs.Fmt.{decimal}
use Rattle.outside_io.proofs.Saying.{then_fourth, cut_fourth}
use Rattle.report_core.specs.Words.{words}
use Rattle.report_core.proofs.writing.write_answer.Goals as goal

pub returns-in_err-say_front : goal.returns-in_err-say_front
returns-in_err-say_front g c =
    cut_fourth _ c.in_err-say_front.field-0.0 _ _ _ _ c.args.actor.now (codes " ") (decimal c.args.line) (codes " " ++ (words c.args.queues.now c.args.actors.now c.args.drops.now c.args.answer.now ++ codes "\n"))
    c.from_residual.ensures.0 c.in_err-say_front.ensures

pub returns : goal.returns
returns g c =
    then_fourth _ _ _ _ _ _ _ _ c.args.actor.now (codes " ") (decimal c.args.line) (codes " " ++ (words c.args.queues.now c.args.actors.now c.args.drops.now c.args.answer.now ++ codes "\n"))
    c.in_ok-say_front.ensures c.say_rest.ensures
