use Rattle.outside_io.proofs.Says.{says_then}
use Rattle.report_core.specs.Names.{state_text}
use Rattle.report_core.proofs.pieces.say_then_state.Goals as goal

pub returns : goal.returns
returns g c =
    says_then _ _ _ _ _ _ _ _ c.args.text.now (state_text c.args.actors.now c.args.state)
    c.in_ok-write_all.ensures.says c.say_state.ensures
