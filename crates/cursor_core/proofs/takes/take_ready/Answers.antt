use Rattle.cursor_core.proofs.Acquiring.{acquired, missed}
use Rattle.cursor_core.proofs.takes.take_ready.Goals as goal

pub returns-in-Ok-clause-takes : goal.returns-in-Ok-clause-takes
returns-in-Ok-clause-takes g c =
    let k = c.in-Ok.ensures in
    acquired g.C.Freight.goods c.args.pass.now c.take_row.new.pass c.args.row c.in-Ok.cargo k.kept k.rights.0 k.rights.1 k.answer

pub returns-in-Err-clause-takes : goal.returns-in-Err-clause-takes
returns-in-Err-clause-takes g c =
    let k = c.in-Err.ensures in
    missed g.C.Freight.goods c.args.pass.now c.take_row.new.pass c.args.row c.in-Err.field-0 k.kept k.rights.0 k.rights.1 k.answer
