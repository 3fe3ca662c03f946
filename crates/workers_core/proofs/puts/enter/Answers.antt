use Rattle.std.proofs.Common.{refl, arith}
use Rattle.std.specs.Option.{option_map}
use Rattle.txn_core.specs.Parcels.{load_of}
use Rattle.workers_core.specs.Held.{hands_of}
use Rattle.workers_core.proofs.Dropping.{others_then}
use Rattle.workers_core.proofs.PutLines.{entered_with, put_also}
use Rattle.workers_core.proofs.puts.enter.Goals as goal

pub drop_older-requires-clause-hold : goal.drop_older-requires-clause-hold
drop_older-requires-clause-hold g c κs within =
    let sight = g.Q.SharedQueue.sight in
    put_also (g.Q.SharedQueue.build c.args.queue.now) (sight c.args.pass.now) (sight c.put.new.pass) c.args.number c.in-At.row c.args.slip (load_of c.args.cargo) (option_map (λ d. (d.0, load_of d.1)) c.in-At.displaced) (hands_of c.args.held.now.items) c.in-At.ensures.called c.requires.hold

pub returns-clause-others : goal.returns-clause-others
returns-clause-others g c =
    others_then c.args.number (hands_of c.args.held.now.items) (hands_of c.drop_older.new.held.items) (hands_of c.trim.new.held.items) c.drop_older.ensures.others c.trim.ensures.others

pub returns-clause-did : goal.returns-clause-did
returns-clause-did g c =
    let sight = g.Q.SharedQueue.sight in
    entered_with (λ d. (d.0, load_of d.1)) c.in-At.displaced c.args.limits.now (g.Q.SharedQueue.build c.args.queue.now) c.args.number (sight c.args.pass.now) (sight c.put.new.pass) (sight c.drop_older.new.pass) (sight c.trim.new.pass) c.args.slip (load_of c.args.cargo) c.in-At.row
    (hands_of c.args.held.now.items) (hands_of c.drop_older.new.held.items) (hands_of c.trim.new.held.items) c.args.drops.now.items c.drop_older.new.drops.items c.trim.new.drops.items
    c.in-At.ensures.called c.drop_older.ensures.did c.trim.ensures.did _ _ _ (omega (arith, c.len-from.ensures, c.args.drops.now.ok.0)) (omega (arith, c.len-to.ensures, c.trim.new.drops.ok.0)) refl
