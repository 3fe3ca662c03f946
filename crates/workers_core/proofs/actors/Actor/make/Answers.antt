use Rattle.std.proofs.Common.{List, map, arith}
use Rattle.acts_core.specs.Sight.{Sight}
use Rattle.defs_read.specs.Defined.{queues_in}
use Rattle.workers_core.proofs.Served.{own_lines, passes_each, rights_of}
use Rattle.workers_core.proofs.actors.Actor.make.Goals as goal

pub equip-requires-clause-own : goal.equip-requires-clause-own
equip-requires-clause-own g c = own_lines (queues_in c.args.defs.now) c.args.name c.args.ops.items c.requires.lines c.requires.served

pub returns-in-Ok-clause-may : goal.returns-in-Ok-clause-may
returns-in-Ok-clause-may g c =
    let defs = queues_in c.args.defs.now in
    let sights : List Sight = map g.Q.SharedQueue.sight c.args.passes.items in
    let e = c.in-Ok.ensures in
    record {
      served = e.serves sights (passes_each defs c.args.name sights c.args.ops.items c.requires.lines c.requires.passes);
      fits = e.fits;
      rights = rights_of sights c.args.ops.items c.in-Ok.gear.jobs.items e.lines c.requires.rights;
      ready = e.ready;
      held = e.held.1;
      log = omega (arith, e.log.1, c.in-Ok.gear.jobs.ok.0);
    }
