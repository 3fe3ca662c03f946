use Rattle.std.proofs.Common.{Err, sym, ap, ◌∙◌}
use Rattle.std.proofs.lemmas.Result.{err_from_is_err_and}
use Rattle.serde_json.specs.View.{view}
use Rattle.fields_read.specs.Faults.{presence_fault, values_fault}
use Rattle.script_read.specs.Parts.{fields_fault}
use Rattle.script_read.proofs.Firsts.{presence_stops, values_stop}
use Rattle.script_read.proofs.checks.check_fields.Goals as goal

pub returns-in_err-check_presence : goal.returns-in_err-check_presence
unfolding fields_fault
returns-in_err-check_presence c =
    let told = err_from_is_err_and c.from_residual.result c.from_residual.ensures.1 in
    let stops = presence_stops (presence_fault c.args.known.now c.args.required.now (view c.args.value.now)) (values_fault c.args.valued.now (view c.args.value.now)) c.in_err-check_presence.field-0.0 (sym c.check_presence.ensures ∙ c.in_err-check_presence.was) in
    told.1 ∙ ap Err told.2 ∙ sym stops

pub returns-in_err-check_values : goal.returns-in_err-check_values
unfolding fields_fault
returns-in_err-check_values c =
    let told = err_from_is_err_and c.from_residual-in_err-check_values.result c.from_residual-in_err-check_values.ensures.1 in
    let stops = values_stop (presence_fault c.args.known.now c.args.required.now (view c.args.value.now)) (values_fault c.args.valued.now (view c.args.value.now)) c.in_err-check_values.field-0.0 (sym c.check_presence.ensures ∙ c.in_ok-check_presence.was) (sym c.check_values.ensures ∙ c.in_err-check_values.was) in
    told.1 ∙ ap Err told.2 ∙ sym stops
