use Rattle.std.proofs.Common.{arith, sym, subst}
use Rattle.acts_core.specs.Asked.{Enters}
use Rattle.entry_table.specs.Passes.{state}
use Rattle.entry_calls.proofs.Running.{enters_on}
use Rattle.entry_calls.proofs.Putting.{drew_row, drew_did, put_spent, put_done, put_tries}
use Rattle.entry_calls.proofs.appends.enqueue.Goals as goal

pub append-requires-clause-blank : goal.append-requires-clause-blank
append-requires-clause-blank g c = drew_row c.args.pass.now c.draw_row.new.pass c.in-Row.draft.row c.draw_row.ensures.kept c.in-Row.ensures.answer.2

pub append-requires-clause-enters : goal.append-requires-clause-enters
append-requires-clause-enters g c =
    let a = c.in-Row.ensures.answer in
    subst (λ (z : g.row.C.Denot). Enters (state c.draw_row.new.pass) c.draw_row.new.pass.caller c.args.slip.now (g.C.Freight.goods z)) (sym a.1)
    (enters_on c.args.pass.now c.draw_row.new.pass c.args.slip.now (g.C.Freight.goods c.args.cargo) c.draw_row.ensures.kept (drew_did c.args.pass.now c.draw_row.new.pass c.in-Row.draft.row a.2) c.requires.may.enters)

pub returns-in-Spent-clause-called : goal.returns-in-Spent-clause-called
returns-in-Spent-clause-called g c = put_spent g.C.Freight.goods c.args.entries.now c.args.pass.now c.args.slip.now c.args.cargo c.draw_row.new.pass c.in-Spent.back c.requires.serves.legal c.draw_row.ensures.kept c.in-Spent.ensures.answer

pub returns-in-Row-clause-called : goal.returns-in-Row-clause-called
returns-in-Row-clause-called g c = put_done g.C.Freight.goods c.args.entries.now c.args.pass.now c.args.slip.now c.args.cargo c.draw_row.new.pass c.append.new.pass c.in-Row.draft c.row-row.result c.row-row.ensures c.draw_row.ensures.kept c.in-Row.ensures.answer c.append.ensures.appended

pub returns-in-Spent-clause-tries : goal.returns-in-Spent-clause-tries
returns-in-Spent-clause-tries g c = let drew = c.draw_row.ensures.tries in omega (arith, drew)

pub returns-in-Row-clause-tries : goal.returns-in-Row-clause-tries
returns-in-Row-clause-tries g c = put_tries c.args.entries.now c.args.pass.now c.draw_row.new.pass c.append.new.pass c.in-Row.draft.row _ _ c.draw_row.ensures.tries c.append.ensures.appended c.append.ensures.serves.pass
