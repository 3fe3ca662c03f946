use Rattle.report_core.specs.Words.{drop_text}
use Rattle.outside_io.proofs.Saying.{cut_all}
use Rattle.report_core.proofs.pieces.say_drops.Goals as goal

pub returns-in_err-say_drop : goal.returns-in_err-say_drop
returns-in_err-say_drop g c =
    cut_all (record {}) _ c.in_err-say_drop.field-0.0 _ _ _ _ _ _ (drop_text c.args.queues.now) c.args.drops.now c.drops.dropped-index _
    c.drops-test.true c.from_residual.ensures.0 c.drops.invariant c.in_err-say_drop.ensures
