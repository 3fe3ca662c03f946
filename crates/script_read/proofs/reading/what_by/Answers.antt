use Rattle.std.proofs.Common.{ℕ, Some, Ok, sym, ap, ◌∙◌}
use Rattle.serde_json.specs.Data.{Data}
use Rattle.serde_json.specs.View.{view}
use Rattle.defs_read.specs.Defined.{queues_in}
use Rattle.script_read.specs.Messages.{message_of}
use Rattle.script_read.specs.Parts.{content_said, late_fault}
use Rattle.script_read.specs.Values.{queue_number, what_by}
use Rattle.script_read.specs.declared.lines.What.TheVariants as what
use Rattle.script_read.specs.declared.tables.Verb.TheVariants.{Put}
use Rattle.script_read.proofs.Firsts.{priority_of_put}
use Rattle.script_read.proofs.Says.{passed_on, put_said, same_refusal}
use Rattle.script_read.proofs.reading.what_by.Goals as goal

pub message_of-requires : goal.message_of-requires
message_of-requires c = priority_of_put (view c.args.value) c.args.verb c.in-Put.is c.requires.checked

pub returns-in-Ok : goal.returns-in-Ok
returns-in-Ok c =
    let d : Data = view c.args.value in
    rw c.in-Put.is (put_said (late_fault d Put) (queue_number (queues_in c.args.defs.now) d) (message_of d) c.in-Ok.message c.in-Ok.ensures ∙ ap (λ (q : ℕ). Ok (Some (what.Put q c.in-Ok.message))) (sym c.requires.queue))

pub returns-in-Err : goal.returns-in-Err
returns-in-Err c =
    let d : Data = view c.args.value in
    rw c.in-Put.is (passed_on c.in-Err.fault (content_said (message_of d)) _ (same_refusal (late_fault d Put) (message_of d) (what_by (queues_in c.args.defs.now) d Put) c.in-Err.fault) c.in-Err.ensures)
