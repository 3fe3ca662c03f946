use Rattle.std.specs.Fmt.{decimal}
use Rattle.outside_io.proofs.Saying.{then_third, cut_third}
use Rattle.report_core.specs.Words.{said_if}
use Rattle.report_core.proofs.pieces.say_number_and.Goals as goal

pub returns-in_err-say_then_number : goal.returns-in_err-say_then_number
returns-in_err-say_then_number g c =
    cut_third _ c.in_err-say_then_number.field-0.0 _ _ _ _ c.args.text.now (decimal c.args.number) (said_if c.args.said c.args.word.now)
    c.from_residual.ensures.0 c.in_err-say_then_number.ensures

pub returns : goal.returns
returns g c =
    then_third _ _ _ _ _ _ _ _ c.args.text.now (decimal c.args.number) (said_if c.args.said c.args.word.now)
    c.in_ok-say_then_number.ensures c.say_if.ensures
