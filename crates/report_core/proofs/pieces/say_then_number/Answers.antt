use Rattle.outside_io.proofs.Says.{says_then}
use Rattle.report_core.proofs.pieces.say_then_number.Goals as goal

pub returns : goal.returns
returns g c = says_then _ _ _ _ _ _ _ _ _ _ c.in_ok-write_all.ensures.says c.say_number.ensures
