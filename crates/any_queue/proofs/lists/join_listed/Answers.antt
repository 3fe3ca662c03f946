use Rattle.entry_table.proofs.Serving.{serves_joined}
use Rattle.any_queue.proofs.Holding.{joined_true}
use Rattle.any_queue.proofs.Parting.{is_joined}
use Rattle.any_queue.proofs.lists.join_listed.Goals as goal

pub returns-clause-serves : goal.returns-clause-serves
returns-clause-serves g c =
    let old = c.args.into.now in
    let gone = c.args.gone in
    let new = c.join.new.into in
    let k = c.join.ensures in
    record {
      table = serves_joined c.args.entries.now old.pass gone.pass new c.requires.into.table k.table k.joined;
      cursors = joined_true old.pass gone.pass new k.joined c.requires.history old.cursors.slots gone.cursors.slots c.take_in.new.self.slots c.requires.into.cursors c.requires.gone.cursors c.take_in.ensures.taken;
    }

pub returns-clause-joined : goal.returns-clause-joined
returns-clause-joined g c = is_joined c.args.into.now.pass c.args.gone.pass c.join.new.into c.join.ensures.caller c.join.ensures.joined
