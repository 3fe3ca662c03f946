use Rattle.phase_text.proofs.Items.{cut_item}
use Rattle.phase_text.specs.Logs.{rest_text}
use Rattle.phase_text.proofs.writing.write_rests.Goals as goal

pub returns-in_err-write_rest : goal.returns-in_err-write_rest
returns-in_err-write_rest g c =
    cut_item (record {}) _ c.in_err-write_rest.field-0.0 _ _ _ _ _ _ (rest_text c.args.actors.now) c.args.rests.now c.rests.rest-index c.rest-item.result
    c.rests-test.true c.from_residual.ensures.0 c.rest-item.is c.rests.invariant c.in_err-write_rest.ensures
