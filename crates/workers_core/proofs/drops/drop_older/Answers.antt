use Rattle.std.proofs.Common.{sym, ap, subst}
use Rattle.std.specs.Prelude.{is_some}
use Rattle.std.specs.Option.{option_map}
use Rattle.txn_core.specs.Parcels.{load_of}
use Rattle.line_core.specs.Fits.{DropsOlder}
use Rattle.workers_core.specs.Held.{hands_of}
use Rattle.workers_core.specs.Hold.{HoldsAlso}
use Rattle.workers_core.specs.Lines.{Drops}
use Rattle.workers_core.proofs.Dropping.{drop_none}
use Rattle.workers_core.proofs.Holds.{others_same}
use Rattle.workers_core.proofs.drops.drop_older.Goals as goal

pub drop_entry-requires-clause-hold : goal.drop_entry-requires-clause-hold
drop_entry-requires-clause-hold g c κs within =
    subst (λ o. HoldsAlso (g.Q.SharedQueue.sight c.args.pass.now) c.args.number (option_map (λ d. (d.0, load_of d.1)) o) (hands_of c.args.held.now.items)) c.in-Some.is c.requires.hold

pub drop_entry-requires-clause-room : goal.drop_entry-requires-clause-room
drop_entry-requires-clause-room g c κs within = c.requires.room (ap is_some c.in-Some.is)

pub returns-in-Some-clause-did : goal.returns-in-Some-clause-did
returns-in-Some-clause-did g c =
    subst (λ o. Drops (DropsOlder c.args.number (option_map (λ d. (d.0, load_of d.1)) o)) (g.Q.SharedQueue.build c.args.queue.now) c.args.number (g.Q.SharedQueue.sight c.args.pass.now) (hands_of c.args.held.now.items) c.args.drops.now.items
    (g.Q.SharedQueue.sight c.drop_entry.new.pass) (hands_of c.drop_entry.new.held.items) c.drop_entry.new.drops.items) (sym c.in-Some.is) c.drop_entry.ensures.did

pub returns-in-None-clause-hold : goal.returns-in-None-clause-hold
returns-in-None-clause-hold g c =
    subst (λ o. HoldsAlso (g.Q.SharedQueue.sight c.args.pass.now) c.args.number (option_map (λ d. (d.0, load_of d.1)) o) (hands_of c.args.held.now.items)) c.in-None.is c.requires.hold

pub returns-in-None-clause-others : goal.returns-in-None-clause-others
returns-in-None-clause-others g c = others_same c.args.number (hands_of c.args.held.now.items)

pub returns-in-None-clause-did : goal.returns-in-None-clause-did
returns-in-None-clause-did g c =
    subst (λ o. Drops (DropsOlder c.args.number (option_map (λ d. (d.0, load_of d.1)) o)) (g.Q.SharedQueue.build c.args.queue.now) c.args.number (g.Q.SharedQueue.sight c.args.pass.now) (hands_of c.args.held.now.items) c.args.drops.now.items
    (g.Q.SharedQueue.sight c.args.pass.now) (hands_of c.args.held.now.items) c.args.drops.now.items) (sym c.in-None.is)
    (drop_none (g.Q.SharedQueue.build c.args.queue.now) (g.Q.SharedQueue.sight c.args.pass.now) c.args.number (hands_of c.args.held.now.items) c.args.drops.now.items)
