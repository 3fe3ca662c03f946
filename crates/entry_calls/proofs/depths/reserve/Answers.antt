use Rattle.std.proofs.Common.{◌+◌}
use Rattle.queue_model.specs.Packing.{pack_depth, entry_worth}
use Rattle.entry_calls.proofs.Depthing.{reserves}
use Rattle.entry_calls.proofs.depths.reserve.Goals as goal

pub returns-clause-called : goal.returns-clause-called
returns-clause-called g c =
    let k = c.reserve_depth.ensures in
    let d = c.reserve_depth.result in
    reserves c.args.entries.now c.args.pass.now c.reserve_depth.new.pass c.args.size (pack_depth d.entries d.bytes + (entry_worth + c.args.size)) d k.kept k.rights.0 k.rights.1 k.did k.depth
