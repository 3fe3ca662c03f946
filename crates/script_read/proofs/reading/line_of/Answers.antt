use Rattle.std.proofs.Common.{◌≡◌, List, Option, Result, Ok, Err, sym, ap, subst, ◌∙◌}
use Rattle.std.proofs.lemmas.Result.{err_from_is_err_and}
use Rattle.serde_json.specs.Data.{Data}
use Rattle.serde_json.specs.View.{view}
use Rattle.defs_read.specs.Defined.{Defined, queues_in}
use Rattle.script_read.specs.Causes.{line_fault}
use Rattle.script_read.specs.Parts.{verb_said}
use Rattle.script_read.specs.Reading.{Gives, unless}
use Rattle.script_read.specs.Values.{line_in, line_by}
use Rattle.script_read.specs.declared.faults.LineFault.{LineFault}
use Rattle.script_read.specs.declared.lines.Line.{Line}
use Rattle.script_read.proofs.Firsts.{says_verb, line_late, line_early, values_right}
use Rattle.script_read.proofs.Says.{told, line_of_verb}
use Rattle.script_read.proofs.reading.line_of.Goals as goal

pub returns-in_err-queue : goal.returns-in_err-queue
returns-in_err-queue c =
    let queues : List Defined = queues_in c.args.defs.now in
    let d : Data = view c.args.value in
    let fault : LineFault = c.in_err-queue.field-0.0 in
    let does : verb_said d ≡ Ok c.in_ok-verb.verb = sym c.verb_of.ensures ∙ c.in_ok-verb.was in
    let same = err_from_is_err_and c.from_residual-in_err-queue.result c.from_residual-in_err-queue.ensures.1 in
    let said : Result Line LineFault = unless (line_fault queues d) (line_in queues c.args.number d) in
    subst (λ (r : Result Line LineFault). Gives r said) (sym (same.1 ∙ ap Err same.2)) (told fault said (ap (λ (o : Option LineFault). unless o (line_in queues c.args.number d)) (line_early queues d c.in_ok-verb.verb fault does c.in_err-queue.ensures)))

pub line_by-requires-clause-checked : goal.line_by-requires-clause-checked
line_by-requires-clause-checked c = values_right (queues_in c.args.defs.now) (view c.args.value) c.in_ok-verb.verb c.in_ok-queue.ensures.0

pub returns : goal.returns
returns c =
    let queues : List Defined = queues_in c.args.defs.now in
    let d : Data = view c.args.value in
    let does : verb_said d ≡ Ok c.in_ok-verb.verb = sym c.verb_of.ensures ∙ c.in_ok-verb.was in
    let cause = ap (λ (o : Option LineFault). unless o (line_by queues c.args.number d c.in_ok-verb.verb)) (sym (line_late queues d c.in_ok-verb.verb does c.in_ok-queue.ensures.0)) in
    let line = ap (λ (l : Line). unless (line_fault queues d) l) (sym (line_of_verb queues c.args.number d c.in_ok-verb.verb (says_verb queues d c.in_ok-verb.verb does))) in
    subst (λ (said : Result Line LineFault). Gives c.line_by.result said) (cause ∙ line) c.line_by.ensures
