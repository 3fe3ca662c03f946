use Rattle.std.proofs.Common.{ap, subst, sym, ◌∙◌, arith}
use Rattle.std.proofs.lemmas.Result.{err_from_is_err_and}
use Rattle.message_core.specs.Fields.{view}
use Rattle.message_core.specs.Reading.{message_of, Refuses}
use Rattle.message_core.proofs.Whole.{message_takes, message_again}
use Rattle.message_core.proofs.messages.Message.decode.Goals as goal

pub returns-in_err-id-clause-only : goal.returns-in_err-id-clause-only
returns-in_err-id-clause-only c = λ m is e.
    let p = err_from_is_err_and c.from_residual.result c.from_residual.ensures.1 in
    rw (p.1, p.2) (subst (λ r. Refuses c.in_err-id.field-0.0 r) (ap message_of e ∙ message_again m is) c.in_err-id.ensures)

pub invariant_of-result : goal.invariant_of-result
invariant_of-result c = (message_takes c.args.bytes.now (view c.in_ok-id.field-0) (λ i. omega (arith, c.type_inv.bytes i)) c.in_ok-id.ensures).0

pub returns-clause-found : goal.returns-clause-found
returns-clause-found c = message_takes c.args.bytes.now (view c.in_ok-id.field-0) (λ i. omega (arith, c.type_inv.bytes i)) c.in_ok-id.ensures

pub returns-clause-only : goal.returns-clause-only
returns-clause-only c = λ m is e. sym (ap message_of e ∙ message_again m is) ∙ c.in_ok-id.ensures
