use Rattle.outside_io.proofs.Says.{says_then}
use Rattle.report_core.specs.Names.{caller_name}
use Rattle.report_core.proofs.pieces.say_caller.Goals as goal

pub returns : goal.returns
returns g c =
    says_then _ _ _ _ _ _ _ _ c.args.text.now (caller_name c.args.actors.now c.args.caller)
    c.in_ok-write_all.ensures.says c.say_name.ensures
