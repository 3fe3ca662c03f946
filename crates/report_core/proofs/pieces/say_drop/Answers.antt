use Rattle.std.proofs.Common.{◌++◌, codes}
use Rattle.std.specs.Fmt.{decimal}
use Rattle.outside_io.proofs.Saying.{then_third, cut_third}
use Rattle.report_core.specs.Names.{name_at}
use Rattle.report_core.specs.Words.{fate_text}
use Rattle.report_core.proofs.pieces.say_drop.Goals as goal

pub returns-in_err-say_place : goal.returns-in_err-say_place
returns-in_err-say_place g c =
    cut_third _ c.in_err-say_place.field-0.0 _ _ _ _ (fate_text c.args.dropped.kept) (name_at c.args.queues.now c.args.dropped.queue) (codes "#" ++ decimal c.args.dropped.id)
    c.from_residual.ensures.0 c.in_err-say_place.ensures

pub returns : goal.returns
returns g c =
    then_third _ _ _ _ _ _ _ _ (fate_text c.args.dropped.kept) (name_at c.args.queues.now c.args.dropped.queue) (codes "#" ++ decimal c.args.dropped.id)
    c.in_ok-say_place.ensures c.say_then_number.ensures
