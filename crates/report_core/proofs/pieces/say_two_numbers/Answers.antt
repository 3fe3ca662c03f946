use Rattle.std.proofs.Common.{◌++◌, codes}
use Rattle.std.specs.Fmt.{decimal}
use Rattle.outside_io.proofs.Saying.{then_third, cut_third}
use Rattle.report_core.proofs.pieces.say_two_numbers.Goals as goal

pub returns-in_err-say_then_number : goal.returns-in_err-say_then_number
returns-in_err-say_then_number g c =
    cut_third _ c.in_err-say_then_number.field-0.0 _ _ _ _ c.args.text.now (decimal c.args.first) (codes " " ++ decimal c.args.second)
    c.from_residual.ensures.0 c.in_err-say_then_number.ensures

pub returns : goal.returns
returns g c =
    then_third _ _ _ _ _ _ _ _ c.args.text.now (decimal c.args.first) (codes " " ++ decimal c.args.second)
    c.in_ok-say_then_number.ensures c.say_then_number-2.ensures
