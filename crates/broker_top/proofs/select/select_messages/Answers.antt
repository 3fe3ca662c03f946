use Rattle.std.proofs.Common.{◌≡◌, inl, inr, refl}
use Rattle.selector_read.specs.Reading.{selector_of}
use Rattle.selector_read.specs.Selectors.{IsOutcome, reads, refused}
use Rattle.broker_top.specs.Faults.{selector_text}
use Rattle.broker_top.specs.Select.{IsRead}
use Rattle.command_line.specs.Tasks.{select}
use Rattle.broker_top.proofs.Endings.{fault_ends, of_script, refusal_ends, unread_ends}
use Rattle.broker_top.proofs.select.select_messages.Goals as goal

pub returns-in-Err-Bad : goal.returns-in-Err-Bad
returns-in-Err-Bad g c = λ seats.
    let at = c.in-Err-Bad.at in
    let kind = c.in-Err-Bad.kind in
    let said : selector_of c.args.text.now ≡ refused at kind = rw c.in-Err-Bad.field-0-is at c.in-Err-Bad.ensures.said in
    let means : IsOutcome c.args.text.now (refused at kind) = rw c.in-Err-Bad.field-0-is at c.in-Err-Bad.ensures.means in
    let is : IsRead c.args.text.now (refused at kind) = record { said = said; means = means } in
    refusal_ends (select c.args.text.now) _ _ _ refl tt (selector_text at kind) refl (inl (record { at = at; kind = kind; is = is; unread = refl; told = refl })) c.refuse_selector.ensures

pub returns-in-Err : goal.returns-in-Err
returns-in-Err g c = λ seats.
    let is : IsRead c.args.text.now (reads c.in-Ok.selector) = record { said = c.in-Ok.ensures.said; means = c.in-Ok.ensures.means } in
    unread_ends (select c.args.text.now) _ _ _ refl tt c.in-Err.unread (λ large. inr (record { tree = c.in-Ok.selector; is = is; refused = inl large })) c.in-Err.ensures.unread c.tell_unread.ensures

pub returns : goal.returns
returns g c = λ seats.
    let is : IsRead c.args.text.now (reads c.in-Ok.selector) = record { said = c.in-Ok.ensures.said; means = c.in-Ok.ensures.means } in
    let fault = c.in-Err-truths.fault in
    fault_ends (select c.args.text.now) _ _ _ refl tt c.of_script.result c.in-Ok-read_input.ensures.kept
    (λ other.
    let told = of_script fault c.of_script.result c.of_script.ensures other in
    inr (record {
      tree = c.in-Ok.selector;
      is = is;
      refused = inr (record {
        input = c.in-Ok-read_input.bytes.items;
        whole = c.in-Ok-read_input.ensures.whole;
        line = fault.line;
        cause = fault.cause;
        says = rw c.deref.ensures.value at (c.in-Err-truths.ensures.refused told.0);
        told = told.1;
      });
    }))
    c.refuse.ensures
