use Rattle.phase_text.proofs.Items.{cut_item}
use Rattle.phase_text.specs.Logs.{log_text}
use Rattle.phase_text.proofs.writing.write_logs.Goals as goal

pub returns-in_err-write_log : goal.returns-in_err-write_log
returns-in_err-write_log g c =
    cut_item (record {}) _ c.in_err-write_log.field-0.0 _ _ _ _ _ _ (log_text c.args.queues.now c.args.actors.now) c.args.logs.now c.logs.log-index c.log-item.result
    c.logs-test.true c.from_residual.ensures.0 c.log-item.is c.logs.invariant c.in_err-write_log.ensures
