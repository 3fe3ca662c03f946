use Rattle.std.proofs.Common.{◌≡◌, Option, Some, None, Result, Err, sym, ap, subst, ◌∙◌}
use Rattle.std.proofs.lemmas.Result.{err_from_is_err_and}
use Rattle.serde_json.specs.Data.{Data}
use Rattle.serde_json.specs.View.{view}
use Rattle.message_core.specs.Spelling.{Content}
use Rattle.script_read.specs.Causes.{message_fault}
use Rattle.script_read.specs.Messages.{message_of}
use Rattle.script_read.specs.Parts.{early_message_fault}
use Rattle.script_read.specs.Reading.{Gives, unless, message_says}
use Rattle.script_read.specs.declared.faults.LineFault.{LineFault}
use Rattle.script_read.proofs.Firsts.{passes, stops, message_late, message_early, message_right, priority_of_message}
use Rattle.script_read.proofs.Says.{told, text_is}
use Rattle.script_read.proofs.reading.read_message.Goals as goal

pub returns-in_err-check_message : goal.returns-in_err-check_message
returns-in_err-check_message c =
    let d : Data = view c.in_ok-value.value in
    let fault : LineFault = c.in_err-check_message.field-0.0 in
    let cause : early_message_fault d ≡ Some fault = stops (early_message_fault d) fault (sym c.check_message.ensures ∙ c.in_err-check_message.was) in
    let said = text_is c.args.line.now d message_fault message_of c.in_ok-value.ensures in
    let refused : message_says c.args.line.now ≡ Err fault = said ∙ ap (λ (o : Option LineFault). unless o (message_of d)) (message_early d fault cause) in
    let same = err_from_is_err_and c.from_residual-in_err-check_message.result c.from_residual-in_err-check_message.ensures.1 in
    subst (λ (r : Result Content LineFault). Gives r (message_says c.args.line.now)) (sym (same.1 ∙ ap Err same.2)) (told fault (message_says c.args.line.now) refused)

pub message_of-requires : goal.message_of-requires
message_of-requires c =
    let d : Data = view c.in_ok-value.value in
    priority_of_message d (message_right d (passes (early_message_fault d) (sym c.check_message.ensures ∙ c.in_ok-check_message.was)))

pub returns : goal.returns
returns c =
    let d : Data = view c.in_ok-value.value in
    let none : early_message_fault d ≡ None = passes (early_message_fault d) (sym c.check_message.ensures ∙ c.in_ok-check_message.was) in
    let said = text_is c.args.line.now d message_fault message_of c.in_ok-value.ensures ∙ ap (λ (o : Option LineFault). unless o (message_of d)) (message_late d none) in
    subst (λ (said : Result Content LineFault). Gives c.message_of.result said) (sym said) c.message_of.ensures
