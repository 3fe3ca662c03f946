use Rattle.report_core.specs.Texts.{resting_line}
use Rattle.outside_io.proofs.Saying.{cut_all}
use Rattle.report_core.proofs.writing.say_entries.Goals as goal

pub returns-in_err-say_resting : goal.returns-in_err-say_resting
returns-in_err-say_resting g c =
    cut_all (record {}) _ c.in_err-say_resting.field-0.0 _ _ _ _ _ _ (resting_line c.args.actors.now) c.args.entries.now c.entries.entry-index _
    c.entries-test.true c.from_residual.ensures.0 c.entries.invariant c.in_err-say_resting.ensures
