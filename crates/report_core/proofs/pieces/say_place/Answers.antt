use Rattle.outside_io.proofs.Says.{says_then}
use Rattle.report_core.specs.Names.{name_at}
use Rattle.report_core.specs.Words.{fate_text}
use Rattle.report_core.proofs.pieces.say_place.Goals as goal

pub returns : goal.returns
returns g c =
    says_then _ _ _ _ _ _ _ _ (fate_text c.args.dropped.kept) (name_at c.args.queues.now c.args.dropped.queue)
    c.in_ok-say_fate.ensures c.say_name.ensures
