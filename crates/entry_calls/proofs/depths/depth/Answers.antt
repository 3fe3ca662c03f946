use Rattle.entry_calls.proofs.Depthing.{looks_depth}
use Rattle.entry_calls.proofs.depths.depth.Goals as goal

pub returns-clause-called : goal.returns-clause-called
returns-clause-called g c =
    let k = c.look-word.ensures in
    looks_depth c.args.entries.now c.args.pass.now c.look-word.new.pass c.look-word.result k.kept k.rights.0 k.rights.1 k.did k.shows k.shown
