use Rattle.outside_io.proofs.Saying.{cut_all}
use Rattle.phase_text.specs.Logs.{line_text}
use Rattle.phase_text.proofs.writing.write_lines.Goals as goal

pub returns-in_err-write_answer : goal.returns-in_err-write_answer
returns-in_err-write_answer g c =
    cut_all (record {}) _ c.in_err-write_answer.field-0.0 _ _ _ _ _ _ (line_text c.args.queues.now c.args.actors.now c.args.drops.now c.args.name.now) c.args.lines.now c.lines.line-index _
    c.lines-test.true c.from_residual.ensures.0 c.lines.invariant c.in_err-write_answer.ensures
