use Rattle.std.proofs.Common.{◌++◌, codes}
use Rattle.std.specs.Fmt.{decimal}
use Rattle.outside_io.proofs.Saying.{then_third, cut_third}
use Rattle.report_core.proofs.writing.say_depth.Goals as goal

pub returns-in_err-say_then_number : goal.returns-in_err-say_then_number
returns-in_err-say_then_number g c =
    cut_third _ c.in_err-say_then_number.field-0.0 _ _ _ _ (codes " ") (decimal c.args.entries) (codes " " ++ (decimal c.args.bytes ++ codes "\n"))
    c.from_residual.ensures.0 c.in_err-say_then_number.ensures

pub returns-in_err-say_then_number-2 : goal.returns-in_err-say_then_number-2
returns-in_err-say_then_number-2 g c =
    then_third _ _ _ _ _ _ _ _ (codes " ") (decimal c.args.entries) (codes " " ++ (decimal c.args.bytes ++ codes "\n")) c.in_ok-say_then_number.ensures
    (cut_third _ c.in_err-say_then_number-2.field-0.0 _ _ _ _ (codes " ") (decimal c.args.bytes) (codes "\n") c.from_residual-in_err-say_then_number-2.ensures.0 c.in_err-say_then_number-2.ensures)

pub returns : goal.returns
returns g c =
    then_third _ _ _ _ _ _ _ _ (codes " ") (decimal c.args.entries) (codes " " ++ (decimal c.args.bytes ++ codes "\n")) c.in_ok-say_then_number.ensures
    (then_third _ _ _ _ _ _ _ _ (codes " ") (decimal c.args.bytes) (codes "\n") c.in_ok-say_then_number-2.ensures c.write_all.ensures.says)
