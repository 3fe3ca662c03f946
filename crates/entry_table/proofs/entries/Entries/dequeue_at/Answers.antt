use Rattle.std.proofs.Common.{◌∙◌, ap}
use Rattle.queue_model.specs.declared.rows.RowState.TheVariants.{Locked}
use Rattle.queue_model.specs.declared.steps.Change.TheVariants.{Deq}
use Rattle.entry_table.specs.Views.{caller_of}
use Rattle.entry_table.proofs.Exchanging.{after_ended, ended_hit}
use Rattle.entry_table.proofs.entries.Entries.dequeue_at.Goals as goal

pub returns-clause-table : goal.returns-clause-table
returns-clause-table g c =
    let x = ended_hit c.args.seat.now.me c.end_word.new.seat.me c.args.row c.args.caller c.end_word.result c.requires.held.1 (ap caller_of c.requires.caller.0) c.end_word.ensures.told in
    (c.end_word.ensures.table.0, c.end_word.ensures.table.1, x.1 ∙ c.requires.idle.0)

pub returns-clause-told : goal.returns-clause-told
returns-clause-told g c =
    let x = ended_hit c.args.seat.now.me c.end_word.new.seat.me c.args.row c.args.caller c.end_word.result c.requires.held.1 (ap caller_of c.requires.caller.0) c.end_word.ensures.told in
    (x.0, x.2)

pub returns-clause-after : goal.returns-clause-after
returns-clause-after g c =
    let x = ended_hit c.args.seat.now.me c.end_word.new.seat.me c.args.row c.args.caller c.end_word.result c.requires.held.1 (ap caller_of c.requires.caller.0) c.end_word.ensures.told in
    after_ended c.args.seat.now.me.0 c.end_word.new.seat.me.0 c.args.row Deq (Locked c.args.caller) x.0 c.requires.idle.1 x.2
