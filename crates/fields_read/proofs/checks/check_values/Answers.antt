use Rattle.std.proofs.Common.{◌∙◌, sym, refl}
use Rattle.std.proofs.lemmas.Result.{err_from_is_err_and}
use Rattle.serde_json.specs.View.{view}
use Rattle.fields_read.proofs.Entries.{goes_on, ends}
use Rattle.fields_read.proofs.checks.check_values.Goals as goal

pub returns-in_err-check_field : goal.returns-in_err-check_field
returns-in_err-check_field c =
    let told = err_from_is_err_and c.from_residual.result c.from_residual.ensures.1 in
    let cause = c.loop-field.invariant ∙ ends c.args.fields.now c.loop-field.field-index _ (view c.args.object.now) c.in_err-check_field.field-0.0 c.loop-field-test.true (sym c.check_field.ensures ∙ c.in_err-check_field.was) in
    rw (told.1, told.2, cause) refl

pub loop-field-preserved : goal.loop-field-preserved
loop-field-preserved c =
    c.loop-field.invariant ∙ goes_on c.args.fields.now c.loop-field.field-index _ (view c.args.object.now) c.loop-field-test.true (sym c.check_field.ensures ∙ c.in_ok-check_field.was)
