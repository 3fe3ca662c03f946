use Rattle.queue_model.specs.declared.deeds.Act.TheVariants as acts
use Rattle.entry_table.specs.Passes.{opening, seen}
use Rattle.entry_table.proofs.Outs.{acted_row}
use Rattle.entry_calls.specs.Changed.{Keeps}
use Rattle.entry_calls.proofs.Replying.{deletes}
use Rattle.entry_calls.proofs.removals.delete.Goals as goal

pub delete_row-requires-clause-known : goal.delete_row-requires-clause-known
delete_row-requires-clause-known g c = let p = c.args.pass.now in acted_row (opening p) p.caller c.args.row (acts.Deq c.args.row) (seen p) c.requires.serves.legal c.requires.dequeued

pub returns-clause-called : goal.returns-clause-called
returns-clause-called g c =
    let old = c.args.pass.now in let new = c.delete_row.new.pass in
    let keeps : Keeps old new = record { kept = c.delete_row.ensures.kept; allowance = c.delete_row.ensures.rights.0; share = c.delete_row.ensures.rights.1 } in
    deletes c.args.entries.now old new keeps c.args.row _ c.delete_row.ensures.did c.delete_row.ensures.shown
