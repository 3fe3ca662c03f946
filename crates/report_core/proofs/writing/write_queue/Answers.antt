use Rattle.outside_io.proofs.Says.{says_then}
use Rattle.outside_io.proofs.Saying.{cut_second}
use Rattle.std.specs.List.{flat_map}
use Rattle.report_core.specs.Texts.{queue_line, resting_line}
use Rattle.report_core.proofs.writing.write_queue.Goals as goal

pub returns : goal.returns
returns g c =
    says_then _ _ _ _ _ _ _ _ (queue_line c.args.name.now c.args.entries.now) (flat_map (resting_line c.args.actors.now) c.args.entries.now)
    c.in_ok-say_queue.ensures c.say_entries.ensures

pub returns-in_err-say_queue : goal.returns-in_err-say_queue
returns-in_err-say_queue g c =
    cut_second _ c.in_err-say_queue.field-0.0 _ _ _ _ (queue_line c.args.name.now c.args.entries.now) (flat_map (resting_line c.args.actors.now) c.args.entries.now)
    c.from_residual.ensures.0 c.in_err-say_queue.ensures
