use Rattle.std.proofs.Common.{◌≡◌, [], ◌∷◌, refl, sym, ◌∙◌}
use Rattle.std.proofs.lemmas.Result.{err_from_is_err_and}
use Rattle.std.specs.Prelude.{nat_le, length, option_map}
use Rattle.serde_json.specs.View.{view}
use Rattle.fields_read.specs.Faults.{cause_if, values_fault}
use Rattle.defs_read.specs.Causes.{most_consumers, of_field, selector_fault}
use Rattle.defs_read.specs.Steps.{named_causes, names_of}
use Rattle.defs_read.specs.Tables.{consumer_fields, later_consumer_fields, required_consumer_fields}
use Rattle.defs_read.specs.declared.defs.ConsumerDef.{ConsumerDef}
use Rattle.defs_read.specs.declared.faults.DefsFault.TheVariants.{TooManyConsumers}
use Rattle.defs_read.proofs.ConsumerCauses.{number_left, selector_refuses}
use Rattle.defs_read.proofs.Lists.{front_refuses}
use Rattle.defs_read.proofs.consumers.read_consumer.Goals as goal

pub returns-in_err-number : goal.returns-in_err-number
returns-in_err-number c =
    let told = err_from_is_err_and c.from_residual.result c.from_residual.ensures.1 in
    let d = view c.args.value.now in
    let names = names_of c.args.names.now in
    rw (told.1, told.2) (front_refuses c.in_err-number.field-0.0 (named_causes consumer_fields required_consumer_fields names d)
    (option_map of_field (values_fault later_consumer_fields d) ∷ selector_fault d ∷ cause_if (nat_le most_consumers (length names)) TooManyConsumers ∷ []) c.in_err-number.ensures)

pub returns-in_err-selector : goal.returns-in_err-selector
returns-in_err-selector c =
    let told = err_from_is_err_and c.from_residual-in_err-selector.result c.from_residual-in_err-selector.ensures.1 in
    rw (told.1, told.2) (selector_refuses (names_of c.args.names.now) (view c.args.value.now) c.in_ok-number.ensures.0 (sym c.check_values.ensures ∙ c.in_ok-check_values.was) c.in_err-selector.field-0.0 c.in_err-selector.ensures)

pub returns : goal.returns
returns c =
    number_left (names_of c.args.names.now) (view c.args.value.now) c.in_ok-number.ensures.0 (sym c.check_values.ensures ∙ c.in_ok-check_values.was) c.in_ok-number.number c.make_consumer.result
    (λ (consumer : ConsumerDef). consumer ≡ record { name = c.in_ok-name.name; actor = c.in_ok-actor.actor; number = c.in_ok-number.number; selector = c.in_ok-selector.selector }) _
    c.in_ok-number.ensures.1.0 c.in_ok-selector.ensures.0 (λ consumer is. (is ∙ rw (c.in_ok-name.ensures, c.in_ok-actor.ensures, c.in_ok-number.ensures.1.0, c.in_ok-selector.ensures.1) refl, c.in_ok-number.ensures.1.1)) c.make_consumer.ensures
