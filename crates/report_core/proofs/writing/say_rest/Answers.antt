use Rattle.std.proofs.Common.{◌++◌, codes}
use Rattle.outside_io.proofs.Says.{says_then}
use Rattle.outside_io.proofs.Saying.{cut_second}
use Rattle.report_core.specs.Words.{words}
use Rattle.report_core.proofs.writing.say_rest.Goals as goal

pub returns-in_err-say_words : goal.returns-in_err-say_words
returns-in_err-say_words g c =
    says_then _ _ _ _ _ _ _ _ (codes " ") (words c.args.queues.now c.args.actors.now c.args.drops.now c.args.answer ++ codes "\n") c.in_ok-write_all.ensures.says
    (cut_second _ c.in_err-say_words.field-0.0 _ _ _ _ (words c.args.queues.now c.args.actors.now c.args.drops.now c.args.answer) (codes "\n") c.from_residual-in_err-say_words.ensures.0 c.in_err-say_words.ensures)

pub returns : goal.returns
returns g c =
    says_then _ _ _ _ _ _ _ _ (codes " ") (words c.args.queues.now c.args.actors.now c.args.drops.now c.args.answer ++ codes "\n") c.in_ok-write_all.ensures.says
    (says_then _ _ _ _ _ _ _ _ (words c.args.queues.now c.args.actors.now c.args.drops.now c.args.answer) (codes "\n") c.in_ok-say_words.ensures c.write_all-2.ensures.says)

pub returns-in_err-write_all : goal.returns-in_err-write_all
returns-in_err-write_all g c =
    cut_second _ c.in_err-write_all.field-0.0 _ _ _ _ (codes " ") (words c.args.queues.now c.args.actors.now c.args.drops.now c.args.answer ++ codes "\n")
    c.from_residual.ensures.0 c.in_err-write_all.ensures.says
