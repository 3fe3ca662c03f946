use Rattle.std.proofs.Common.{ap, ◌+◌, refl}
use Rattle.journal_format.specs.Batches.{lists_of}
use Rattle.commit_table.proofs.Carrying.{answered_by, goes_commit}
use Rattle.commit_table.proofs.desk.Desk.commit.Goals as goal

pub returns-clause-goes : goal.returns-clause-goes
returns-clause-goes g c caller =
    let D = g.D.Disk in
    let disk = g.met.D.Disk g.world.𝓛 g.world.𝓜 g.world.𝓡 ((λ s x. x), (λ x. x), (λ x. x), λ x. x) in
    let e = c.commit-answer.ensures in
    let old = c.args.self.now in
    let new = c.commit-answer.new.self in
    let one = ap lists_of c.from_ref.ensures.value in
    goes_commit D.seen D.images D.moment D.since D.trail D.faults D.syncs disk.only_now disk.from_later old (record { journal = new; scratch = c.commit-answer.new.scratch; count = old.count + 1 }) caller c.args.txn.now.items (lists_of c.from_ref.result.now) c.commit-answer.result c.settled_by.result old.count c.settled_by.ensures one
    (disk.reads new.disk)
    (answered_by D.seen D.images D.moment D.since D.trail D.faults D.syncs c.commit-answer.result c.args.txn.now.items (lists_of c.from_ref.result.now) old.journal new one e.clean e.unclean e.gate e.stays e.gives e.front e.trail e.syncs.0 e.cause)
    e.cause
    e.room
    refl
    e.agrees
    e.kept
