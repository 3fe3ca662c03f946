use Rattle.std.proofs.Common.{codes}
use Rattle.std.specs.Fmt.{decimal}
use Rattle.outside_io.proofs.Saying.{then_fourth, cut_fourth}
use Rattle.report_core.specs.Words.{said_if, span_text}
use Rattle.report_core.proofs.phrases.say_accepted.Goals as goal

pub returns-in_err-say_number_and : goal.returns-in_err-say_number_and
returns-in_err-say_number_and g c =
    cut_fourth _ c.in_err-say_number_and.field-0.0 _ _ _ _ (codes "ok ") (decimal c.args.id) (said_if c.args.flowed (codes " flowed")) (span_text c.args.queues.now c.args.drops.now c.args.acquired)
    c.from_residual.ensures.0 c.in_err-say_number_and.ensures

pub returns : goal.returns
returns g c =
    then_fourth _ _ _ _ _ _ _ _ (codes "ok ") (decimal c.args.id) (said_if c.args.flowed (codes " flowed")) (span_text c.args.queues.now c.args.drops.now c.args.acquired)
    c.in_ok-say_number_and.ensures c.say_span.ensures
