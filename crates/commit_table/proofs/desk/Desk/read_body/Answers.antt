use Rattle.std.proofs.Common.{refl}
use Rattle.commit_table.proofs.Carrying.{goes_read}
use Rattle.commit_table.proofs.desk.Desk.read_body.Goals as goal

pub returns-clause-goes : goal.returns-clause-goes
returns-clause-goes g c caller =
    let D = g.D.Disk in
    let disk = g.met.D.Disk g.world.𝓛 g.world.𝓜 g.world.𝓡 ((λ s x. x), (λ x. x), (λ x. x), λ x. x) in
    let e = c.read_body.ensures in
    let old = c.args.self.now in
    goes_read D.seen D.images D.moment D.since D.trail D.faults D.syncs disk.only_now disk.from_later old (record { journal = c.read_body.new.self; scratch = old.scratch; count = old.count }) caller c.read_body.result e.reads e.same e.cause refl refl
