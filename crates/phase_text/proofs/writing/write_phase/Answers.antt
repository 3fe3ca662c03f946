use Rattle.std.specs.List.{flat_map}
use Rattle.outside_io.proofs.Says.{says_then}
use Rattle.outside_io.proofs.Saying.{cut_second}
use Rattle.phase_text.specs.Logs.{log_text, rest_text}
use Rattle.phase_text.proofs.writing.write_phase.Goals as goal

pub returns-in_err-write_logs : goal.returns-in_err-write_logs
returns-in_err-write_logs g c =
    cut_second _ c.in_err-write_logs.field-0.0 _ _ _ _ (flat_map (log_text c.args.queues.now c.args.actors.now) c.args.logs.now) (flat_map (rest_text c.args.actors.now) c.args.rests.now)
    c.from_residual.ensures.0 c.in_err-write_logs.ensures

pub returns : goal.returns
returns g c =
    says_then _ _ _ _ _ _ _ _ (flat_map (log_text c.args.queues.now c.args.actors.now) c.args.logs.now) (flat_map (rest_text c.args.actors.now) c.args.rests.now)
    c.in_ok-write_logs.ensures c.write_rests.ensures
