use Rattle.std.proofs.Common.{ap}
use Rattle.commit_table.specs.Passes.{begun_in}
use Rattle.commit_table.proofs.Locking.{owed_by, owes_read, told_by, is_read, reads_as}
use Rattle.commit_table.proofs.table.CommitTable.read_on.Goals as goal

pub put_read-requires-clause-owes : goal.put_read-requires-clause-owes
put_read-requires-clause-owes g c κs within =
    let D = g.D.Disk in
    let v = c.args.seat.now.me.0 in
    let old = c.args.desk in
    let new = c.read_body-answer.new.self in
    let t = c.requires.took in
    owed_by D.seen D.images D.moment D.since D.trail D.faults D.syncs v c.args.caller new _ _ _ c.requires.live
    (owes_read D.seen D.images D.moment D.since D.trail D.faults D.syncs (begun_in v) t.0 v old new c.args.caller c.read_body-answer.result _ t.1
    (reads_as D.seen D.images D.moment D.since D.trail D.faults D.syncs old new c.args.caller c.read_body-answer.result (D.faults new.journal.disk) g.B.Before.faults (D.faults old.journal.disk) c.requires.before (c.read_body-answer.ensures.goes c.args.caller)))

pub returns-clause-told : goal.returns-clause-told
returns-clause-told g c =
    let D = g.D.Disk in
    let v = c.args.seat.now.me.0 in
    let old = c.args.desk in
    let new = c.read_body-answer.new.self in
    let t = c.requires.took in
    told_by D.seen D.images D.moment D.since D.trail D.faults D.syncs t.0 v c.put_read.new.seat.me.0 old new c.args.caller c.read_body-answer.result _ t.1
    (reads_as D.seen D.images D.moment D.since D.trail D.faults D.syncs old new c.args.caller c.read_body-answer.result (D.faults new.journal.disk) g.B.Before.faults (D.faults old.journal.disk) c.requires.before (c.read_body-answer.ensures.goes c.args.caller))
    (ap (λ m. m.0) c.put_read.ensures.gave)

pub returns-clause-read : goal.returns-clause-read
returns-clause-read g c =
    let D = g.D.Disk in
    let v = c.args.seat.now.me.0 in
    let t = c.requires.took in
    is_read D.seen D.images D.moment D.since D.trail D.faults D.syncs t.0 v c.args.desk c.read_body-answer.new.self c.args.caller c.args.at c.args.len c.read_body-answer.result _ _ t.1 (c.read_body-answer.ensures.goes c.args.caller) c.read_body-answer.ensures.given
