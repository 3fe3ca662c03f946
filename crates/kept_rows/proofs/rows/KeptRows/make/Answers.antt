use Rattle.std.proofs.Common.{◌≡◌, ◌≤◌, length, arith}
use Rattle.kept_rows.proofs.Starting.{made}
use Rattle.kept_rows.proofs.rows.KeptRows.make.Goals as goal

pub returns : goal.returns
returns g c =
    let few = c.requires.few in
    let ok = c.args.start.ok.0 in
    made g.C.Freight.goods c.args.start.items c.enter_all.new.self c.requires.start (omega arith) c.enter_all.ensures.entered c.enter_all.ensures.spare
