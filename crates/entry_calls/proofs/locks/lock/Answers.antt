use Rattle.std.proofs.Common.{ap, sym, ◌∙◌, ℕ}
use Rattle.queue_model.specs.declared.deeds.Act.TheVariants as acts
use Rattle.queue_model.specs.declared.rows.RowState.TheVariants.{Unlocked}
use Rattle.queue_model.specs.declared.steps.Change.TheVariants.{Lock}
use Rattle.entry_table.specs.Passes.{opening, seen}
use Rattle.entry_table.proofs.Outs.{acted_row}
use Rattle.entry_calls.specs.Changed.{Keeps}
use Rattle.entry_calls.proofs.Changes.{took_row, missed_row}
use Rattle.entry_calls.proofs.Replying.{locks, lock_stolen}
use Rattle.entry_calls.proofs.locks.lock.Goals as goal

pub take_row-requires-clause-known : goal.take_row-requires-clause-known
take_row-requires-clause-known g c = let p = c.args.pass.now in acted_row (opening p) p.caller c.args.row (acts.Unlock c.args.row c.requires.left.0) (seen p) c.requires.serves.legal c.requires.left.1

pub returns-in-Ok-clause-called : goal.returns-in-Ok-clause-called
returns-in-Ok-clause-called g c =
    let old = c.args.pass.now in let new = c.take_row.new.pass in
    let keeps : Keeps old new = record { kept = c.take_row.ensures.kept; allowance = c.take_row.ensures.rights.0; share = c.take_row.ensures.rights.1 } in
    let t = took_row g.C.Freight.goods old new c.args.row Lock (Unlocked c.caller.result) c.in-Ok.cargo c.in-Ok.ensures.answer in
    locks c.args.entries.now old new keeps c.args.row (g.C.Freight.goods c.in-Ok.cargo) t.0 _ t.1 t.3

pub returns-in-Err-clause-called : goal.returns-in-Err-clause-called
returns-in-Err-clause-called g c =
    let old = c.args.pass.now in let new = c.take_row.new.pass in
    let keeps : Keeps old new = record { kept = c.take_row.ensures.kept; allowance = c.take_row.ensures.rights.0; share = c.take_row.ensures.rights.1 } in
    let m = missed_row old new c.args.row Lock (Unlocked c.caller.result) c.in-Err.state c.in-Err.ensures.answer in
    lock_stolen c.args.entries.now old new keeps c.args.row c.in-Err.state _ (λ e. m.0 (e ∙ ap (λ (k : ℕ). Unlocked k) (sym c.caller.ensures))) m.1
