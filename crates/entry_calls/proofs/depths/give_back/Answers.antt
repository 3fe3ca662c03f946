use Rattle.std.proofs.Common.{◌+◌, ◌-◌}
use Rattle.queue_model.specs.Packing.{entry_worth}
use Rattle.entry_calls.proofs.Depthing.{gives_back}
use Rattle.entry_calls.proofs.depths.give_back.Goals as goal

pub returns-clause-called : goal.returns-clause-called
returns-clause-called g c =
    let k = c.give_back.ensures in
    gives_back c.args.entries.now c.args.pass.now c.give_back.new.pass c.args.size k.shown.0 (k.shown.0 - (entry_worth + c.args.size)) k.kept k.rights.0 k.rights.1 k.did k.shown.1
