use Rattle.std.proofs.Common.{ap, ◌∙◌}
use Rattle.entry_table.specs.Rule.{below}
use Rattle.entry_table.specs.Sights.{sight}
use Rattle.any_queue.proofs.Holding.{first_true}
use Rattle.any_queue.proofs.Parting.{is_fresh, made_serves}
use Rattle.any_queue.proofs.Starting.{start_listed}
use Rattle.any_queue.proofs.lists.make_listed.Goals as goal

pub make-requires-clause-start : goal.make-requires-clause-start
make-requires-clause-start g c = start_listed g.C.Freight.goods c.args.lists c.args.consumers c.args.start.items c.requires.start

pub returns-in-Ok-clause-serves : goal.returns-in-Ok-clause-serves
returns-in-Ok-clause-serves g c =
    let m = c.in-Ok.ensures in
    record {
      table = made_serves _ _ _ _ _ c.in-Ok.entries c.in-Ok.pass m;
      cursors = first_true (sight c.in-Ok.pass) c.args.consumers c.fresh-cursors.result.slots m.served c.fresh-cursors.ensures.fresh;
    }

pub returns-in-Ok-clause-fresh : goal.returns-in-Ok-clause-fresh
returns-in-Ok-clause-fresh g c = is_fresh _ _ _ _ _ c.in-Ok.entries c.in-Ok.pass c.in-Ok.ensures
