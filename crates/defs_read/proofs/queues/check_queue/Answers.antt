use Rattle.std.proofs.Common.{◌-◌, length, take, drop, sym, ◌∙◌}
use Rattle.std.proofs.lemmas.Result.{err_from_is_err_and}
use Rattle.serde_json.specs.View.{view}
use Rattle.defs_read.specs.Steps.{names_of}
use Rattle.defs_read.proofs.QueueCauses.{behind, later_passes, later_refuses, named_refuses}
use Rattle.defs_read.proofs.queues.check_queue.Goals as goal

pub returns-in_err-read_name : goal.returns-in_err-read_name
returns-in_err-read_name c =
    let told = err_from_is_err_and c.from_residual.result c.from_residual.ensures.1 in
    let t = c.args.type_of_queue in
    let fields = c.fields-fields.result.now in
    rw (told.1, told.2) (named_refuses t fields c.required.result.now (take (length fields - 1) (drop 1 fields)) (names_of c.args.names.now) (view c.args.value.now)
    c.fields-fields.ensures c.required.ensures (behind t fields c.fields-fields.ensures) c.in_err-read_name.field-0.0 c.in_err-read_name.ensures)

pub returns-in_err-check_values : goal.returns-in_err-check_values
returns-in_err-check_values c =
    let told = err_from_is_err_and c.from_residual-in_err-check_values.result c.from_residual-in_err-check_values.ensures.1 in
    let t = c.args.type_of_queue in
    let fields = c.fields-fields.result.now in
    rw (told.1, told.2) (later_refuses t fields c.required.result.now (take (length fields - 1) (drop 1 fields)) (names_of c.args.names.now) (view c.args.value.now)
    c.fields-fields.ensures c.required.ensures (behind t fields c.fields-fields.ensures) c.in_err-check_values.field-0.0
    c.in_ok-read_name.ensures.0 (sym c.check_values.ensures ∙ c.in_err-check_values.was))

pub returns : goal.returns
returns c =
    let t = c.args.type_of_queue in
    let fields = c.fields-fields.result.now in
    let passed = later_passes t fields c.required.result.now (take (length fields - 1) (drop 1 fields)) (names_of c.args.names.now) (view c.args.value.now)
    c.fields-fields.ensures c.required.ensures (behind t fields c.fields-fields.ensures) c.in_ok-read_name.ensures.0 (sym c.check_values.ensures ∙ c.in_ok-check_values.was) in
    (passed.0, (c.in_ok-read_name.ensures.1.1, passed.1))
