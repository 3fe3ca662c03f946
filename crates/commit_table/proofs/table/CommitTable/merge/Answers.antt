use Rattle.std.proofs.Common.{ap, ◌∙◌}
use Rattle.commit_table.specs.Passes.{begun_in}
use Rattle.commit_table.proofs.Parting.{live_merged, joined_by}
use Rattle.commit_table.proofs.table.CommitTable.merge.Goals as goal

pub look-requires-clause-live : goal.look-requires-clause-live
look-requires-clause-live g c =
    let D = g.D.Disk in
    live_merged D.seen D.images D.moment D.since D.trail D.faults D.syncs c.args.seat.now.me.0 c.args.gone.me.0 c.join.new.into.me.0 c.args.caller (ap (λ m. m.0) c.join.ensures.2) c.requires.live

pub returns-clause-joined : goal.returns-clause-joined
returns-clause-joined g c =
    let D = g.D.Disk in
    let v = c.args.seat.now.me.0 in
    let is = ap (λ m. m.0) c.join.ensures.2 in
    joined_by D.seen D.images D.moment D.since D.trail D.faults D.syncs v c.args.gone.me.0 c.join.new.into.me.0 c.look.new.seat.me.0 is (c.look.ensures.told (begun_in v) (ap (λ m. m.opening) is ∙ c.requires.live.0)).1
