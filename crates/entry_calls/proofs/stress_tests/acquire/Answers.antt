use Rattle.acts_core.proofs.Passes.{pass_finds}
use Rattle.entry_table.specs.Sights.{build_of, sight}
use Rattle.entry_calls.proofs.Working.{serves_taken, serves_missed, handed_now}
use Rattle.entry_calls.proofs.stress_tests.acquire.Goals as goal

pub take_row-requires-clause-known : goal.take_row-requires-clause-known
take_row-requires-clause-known g c =
    let f = pass_finds (build_of c.args.entries.now) (sight c.args.pass.now) (sight c.find.new.pass) c.args.id c.in-Some.row c.in-Some.ensures.called in
    (f.0, f.1)

pub returns-in-Ok-clause-serves : goal.returns-in-Ok-clause-serves
returns-in-Ok-clause-serves g c =
    serves_taken g.C.Freight.goods c.find.new.pass c.take_row.new.pass c.in-Some.row c.take_row.ensures.kept c.args.entries.now c.in-Ok.cargo c.find.ensures.serves c.in-Ok.ensures.answer

pub returns-in-Ok-clause-handed : goal.returns-in-Ok-clause-handed
returns-in-Ok-clause-handed g c =
    handed_now g.C.Freight.goods c.find.new.pass c.take_row.new.pass c.in-Some.row c.take_row.ensures.kept c.in-Ok.cargo c.in-Ok.ensures.answer

pub returns-in-Err-clause-serves : goal.returns-in-Err-clause-serves
returns-in-Err-clause-serves g c =
    serves_missed g.C.Freight.goods c.find.new.pass c.take_row.new.pass c.in-Some.row c.take_row.ensures.kept c.args.entries.now c.in-Err.field-0 c.find.ensures.serves c.in-Err.ensures.answer
