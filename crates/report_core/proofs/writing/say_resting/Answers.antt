use Rattle.std.proofs.Common.{◌++◌, codes}
use Rattle.std.specs.Fmt.{decimal}
use Rattle.outside_io.proofs.Says.{says_then}
use Rattle.outside_io.proofs.Saying.{cut_second, then_third, cut_third}
use Rattle.report_core.specs.Texts.{holder_text}
use Rattle.report_core.proofs.writing.say_resting.Goals as goal

pub returns-in_err-say_then_number : goal.returns-in_err-say_then_number
returns-in_err-say_then_number g c =
    cut_third _ c.in_err-say_then_number.field-0.0 _ _ _ _ (codes "entry ") (decimal c.args.entry.id) (holder_text c.args.actors.now c.args.entry.holder ++ codes "\n")
    c.from_residual.ensures.0 c.in_err-say_then_number.ensures

pub returns-in_err-say_holder : goal.returns-in_err-say_holder
returns-in_err-say_holder g c =
    then_third _ _ _ _ _ _ _ _ (codes "entry ") (decimal c.args.entry.id) (holder_text c.args.actors.now c.args.entry.holder ++ codes "\n") c.in_ok-say_then_number.ensures
    (cut_second _ c.in_err-say_holder.field-0.0 _ _ _ _ (holder_text c.args.actors.now c.args.entry.holder) (codes "\n") c.from_residual-in_err-say_holder.ensures.0 c.in_err-say_holder.ensures)

pub returns : goal.returns
returns g c =
    then_third _ _ _ _ _ _ _ _ (codes "entry ") (decimal c.args.entry.id) (holder_text c.args.actors.now c.args.entry.holder ++ codes "\n") c.in_ok-say_then_number.ensures
    (says_then _ _ _ _ _ _ _ _ (holder_text c.args.actors.now c.args.entry.holder) (codes "\n") c.in_ok-say_holder.ensures c.write_all.ensures.says)
