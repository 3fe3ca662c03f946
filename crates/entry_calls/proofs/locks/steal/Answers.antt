use Rattle.std.proofs.Common.{rules, ap, sym, ◌∙◌, ◌≡◌, ◌<◌, ◌+◌, ◌*◌, ◌^◌, arith, subst}
use Rattle.queue_model.specs.declared.rows.RowState.{RowState}
use Rattle.queue_model.specs.declared.rows.RowState.TheVariants.{Unlocked}
use Rattle.queue_model.specs.declared.steps.Change.TheVariants.{Steal}
use Rattle.queue_model.specs.Packing.{pack_state}
use Rattle.queue_model.specs.declared.steps.Step.TheVariants as steps
use Rattle.queue_model.specs.declared.steps.WordName.TheVariants as names
use Rattle.entry_table.specs.Passes.{seen}
use Rattle.entry_table.specs.Views.{entry}
use Rattle.link_core.specs.Steps.{IsPackable}
use Rattle.entry_calls.specs.Changed.{Keeps, Looks}
use Rattle.entry_calls.proofs.Changes.{took_row, missed_row, looked_row, row_later, state_seen}
use Rattle.entry_calls.proofs.Replying.{not_stealable, steals, moves}
use Rattle.entry_calls.proofs.locks.steal.Goals as goal

pub returns-in_default : goal.returns-in_default
returns-in_default g c =
    let old = c.args.pass.now in let new = c.look.new.pass in
    let keeps : Keeps old new = record { kept = c.look.ensures.kept; allowance = c.look.ensures.rights.0; share = c.look.ensures.rights.1 } in
    let s = state_seen old new c.args.row c.look.result c.state_of-state.result c.look.ensures.kept c.look.ensures.did c.requires.row c.look.ensures.shows c.state_of-state.ensures in
    record {
      serves = search rules;
      called = not_stealable c.args.entries.now old new keeps c.args.row c.state_of-state.result _ (λ k e. c.in_default.not-Unlocked k e) (looked_row old new c.args.row c.look.result c.state_of-state.result c.look.ensures.did s.0 s.1 c.look.ensures.shown);
    }

pub take_row-requires-clause-known : goal.take_row-requires-clause-known
take_row-requires-clause-known g c = row_later c.args.pass.now c.look.new.pass c.args.row c.look.ensures.kept c.look.ensures.did c.requires.row

pub take_row-requires-clause-fits : goal.take_row-requires-clause-fits
take_row-requires-clause-fits g c =
    let s = state_seen c.args.pass.now c.look.new.pass c.args.row c.look.result c.state_of-state.result c.look.ensures.kept c.look.ensures.did c.requires.row c.look.ensures.shows c.state_of-state.ensures in
    let is : c.state_of-state.result ≡ Unlocked c.in-Unlocked.field-0 = c.in-Unlocked.is in
    let word : c.look.result ≡ 8 * c.in-Unlocked.field-0 + 5 = s.1 ∙ ap pack_state is in
    let range : c.look.result < 2 ^ 64 = c.look.type_inv in
    (tt, (c.in-Unlocked.field-0, is), subst IsPackable (sym is) (omega (arith, word, range)))

pub returns-in-Ok-clause-called : goal.returns-in-Ok-clause-called
returns-in-Ok-clause-called g c =
    let old = c.args.pass.now in let mid = c.look.new.pass in let new = c.take_row.new.pass in
    let first : Keeps old mid = record { kept = c.look.ensures.kept; allowance = c.look.ensures.rights.0; share = c.look.ensures.rights.1 } in
    let second : Keeps mid new = record { kept = c.take_row.ensures.kept; allowance = c.take_row.ensures.rights.0; share = c.take_row.ensures.rights.1 } in
    let s = state_seen old mid c.args.row c.look.result c.state_of-state.result c.look.ensures.kept c.look.ensures.did c.requires.row c.look.ensures.shows c.state_of-state.ensures in
    let look = looked_row old mid c.args.row c.look.result c.state_of-state.result c.look.ensures.did s.0 s.1 c.look.ensures.shown in
    let t = took_row g.C.Freight.goods mid new c.args.row Steal c.state_of-state.result c.in-Ok.cargo c.in-Ok.ensures.answer in
    steals c.args.entries.now old mid new first second c.args.row (g.C.Freight.goods c.in-Ok.cargo) t.0 c.state_of-state.result _ _ look t.1 t.3

pub returns-in-Err-clause-called : goal.returns-in-Err-clause-called
returns-in-Err-clause-called g c =
    let old = c.args.pass.now in let mid = c.look.new.pass in let new = c.take_row.new.pass in
    let first : Keeps old mid = record { kept = c.look.ensures.kept; allowance = c.look.ensures.rights.0; share = c.look.ensures.rights.1 } in
    let second : Keeps mid new = record { kept = c.take_row.ensures.kept; allowance = c.take_row.ensures.rights.0; share = c.take_row.ensures.rights.1 } in
    let s = state_seen old mid c.args.row c.look.result c.state_of-state.result c.look.ensures.kept c.look.ensures.did c.requires.row c.look.ensures.shows c.state_of-state.ensures in
    let look = looked_row old mid c.args.row c.look.result c.state_of-state.result c.look.ensures.did s.0 s.1 c.look.ensures.shown in
    let m = missed_row mid new c.args.row Steal c.state_of-state.result c.in-Err.other c.in-Err.ensures.answer in
    let is : c.state_of-state.result ≡ Unlocked c.in-Unlocked.field-0 = c.in-Unlocked.is in
    moves c.args.entries.now old mid new first second c.args.row c.in-Unlocked.field-0 c.in-Err.other _ _ (subst (λ (z : RowState). Looks old mid c.args.row z (entry (steps.Load (names.State c.args.row)) c.look.result c.look.result (seen mid))) is look) (λ e. m.0 (e ∙ sym is)) m.1
