use Rattle.acts_core.specs.Calls.{CallDelete, IsDone}
use Rattle.entry_table.specs.Sights.{build_of, sight}
use Rattle.cursor_core.proofs.Slots.{true_last}
use Rattle.any_queue.proofs.Deleting.{deleted_known, deletes_on, serves_deleted}
use Rattle.any_queue.proofs.kinds.ListedPass.delete.Goals as goal

pub on_deleted-requires-clause-known : goal.on_deleted-requires-clause-known
on_deleted-requires-clause-known g c =
    deleted_known c.args.entries.now c.args.self.now.pass c.delete.new.pass c.delete.new.pass c.args.row c.delete.ensures.called c.requires.serves.table c.requires.dequeued

pub returns-clause-serves : goal.returns-clause-serves
returns-clause-serves g c =
    let e = c.args.entries.now in
    let old = c.args.self.now in
    let new = c.on_deleted.new.pass in
    let called = deletes_on e old.pass c.delete.new.pass new c.args.row c.delete.ensures.called c.on_deleted.ensures.deleted in
    record {
      table = serves_deleted e c.delete.new.pass new c.args.row c.delete.ensures.serves c.on_deleted.ensures.deleted;
      cursors = true_last (build_of e) (sight old.pass) (sight new) (CallDelete c.args.row) IsDone old.cursors.slots called (λ k same. absurd (cc)) c.requires.serves.cursors;
    }

pub returns-clause-called : goal.returns-clause-called
returns-clause-called g c = deletes_on c.args.entries.now c.args.self.now.pass c.delete.new.pass c.on_deleted.new.pass c.args.row c.delete.ensures.called c.on_deleted.ensures.deleted

pub returns-clause-scavenges : goal.returns-clause-scavenges
returns-clause-scavenges g c = record { mid = c.delete.new.pass; kept = c.delete.ensures.kept; shown = c.delete.ensures.shown; then = c.on_deleted.ensures.deleted }
