use Rattle.std.proofs.Common.{ap}
use Rattle.std.specs.Option.{option_map}
use Rattle.txn_core.specs.Parcels.{load_of}
use Rattle.workers_core.proofs.Calls.{locks_some, locks_none, loses_none}
use Rattle.workers_core.proofs.acks.lock_first.Goals as goal

pub returns-in-Some-clause-ok : goal.returns-in-Some-clause-ok
returns-in-Some-clause-ok g c = locks_some _ _ _ _ _ _ _ (ap (option_map load_of) c.in-Some.is) c.requires.mine

pub returns-in-Locked-clause-ok : goal.returns-in-Locked-clause-ok
returns-in-Locked-clause-ok g c =
    locks_none (g.Q.SharedQueue.build c.args.queue.now) (g.Q.SharedQueue.sight c.args.pass.now) (g.Q.SharedQueue.sight c.lock.new.pass) _ _ _ _ _ (ap (option_map load_of) c.in-None.is) c.in-Locked.ensures.called c.requires.mine

pub returns-in-Stolen-clause-err : goal.returns-in-Stolen-clause-err
returns-in-Stolen-clause-err g c =
    loses_none (g.Q.SharedQueue.build c.args.queue.now) (g.Q.SharedQueue.sight c.args.pass.now) (g.Q.SharedQueue.sight c.lock.new.pass) c.args.number _ _ _ (ap (option_map load_of) c.in-None.is) c.in-Stolen.ensures.called
