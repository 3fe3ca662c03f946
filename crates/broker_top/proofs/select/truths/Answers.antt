use Rattle.std.proofs.Common.{◌++◌, ◌∷◌, [], ◌∙◌, refl, sym, subst, arith, Some}
use Rattle.outside_io.specs.Told.{Adds}
use Rattle.broker_top.specs.Select.{TellsMessage, truths}
use Rattle.broker_top.specs.Text.{written_of}
use Rattle.broker_top.specs.declared.text.Text.{Text}
use Rattle.broker_top.proofs.Messages.{blank_passed, line_passed, message_more, told_more, was_told}
use Rattle.broker_top.proofs.select.truths.Goals as goal
use Rattle.broker_top.proofs.select.truths.Goals.{then-not-has_nothing+in_default, else-not-has_nothing}

pub reading-init : goal.reading-init
reading-init c = record { before = []; messages = []; cut = refl; passed = refl; told = rw c.new-text.ensures.text refl; counted = omega arith }

pub reading-preserved : goal.reading-preserved
reading-preserved c =
    let i = c.reading.invariant in
    let selector = c.args.selector.now in
    let rest = c.reading.rest.now in
    let first = c.first_line.result.0.now in
    let tail = c.first_line.result.1.now in
    elim c.if-not-has_nothing.branch [
      | then-not-has_nothing+in_default w ↦
          let tells : TellsMessage selector first (written_of c.reading.text) (written_of w.tell_truth.new.text) = was_told w.tell_truth.result w.in_default.not-Err w.tell_truth.ensures.told in
          let told : Adds (Some []) (written_of w.tell_truth.new.text) (truths selector (i.messages ++ tells.message ∷ [])) =
          told_more selector i.messages tells.message (Some []) (written_of c.reading.text) (written_of w.tell_truth.new.text) i.told tells.told in
          record {
            before = i.before ++ (c.reading.line, first) ∷ [];
            messages = i.messages ++ tells.message ∷ [];
            cut = line_passed _ i.before c.reading.line rest first tail c.first_line.ensures.lines i.cut (sym c.has_nothing.ensures ∙ w.if-not-has_nothing.true);
            passed = message_more i.before i.messages c.reading.line first tells.message i.passed tells.says;
            told = subst (λ (t : Text). Adds (Some []) (written_of t) (truths selector (i.messages ++ tells.message ∷ []))) (sym w.text-is) told;
            counted = omega (arith, i.counted, c.first_line.ensures.shorter);
          }
      | else-not-has_nothing w ↦
          record {
            before = i.before;
            messages = i.messages;
            cut = blank_passed _ i.before c.reading.line rest first tail c.first_line.ensures.lines i.cut (sym c.has_nothing.ensures ∙ w.if-not-has_nothing.false);
            passed = i.passed;
            told = subst (λ (t : Text). Adds (Some []) (written_of t) (truths selector i.messages)) (sym w.text-is) i.told;
            counted = omega (arith, i.counted, c.first_line.ensures.shorter);
          }
    ]
