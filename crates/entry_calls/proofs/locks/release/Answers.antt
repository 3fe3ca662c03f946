use Rattle.queue_model.specs.declared.steps.Change.TheVariants.{Rel}
use Rattle.entry_calls.specs.Changed.{Keeps}
use Rattle.entry_calls.proofs.Changes.{brought_row, row_goods}
use Rattle.entry_calls.proofs.Ringing.{rung_releases}
use Rattle.entry_calls.proofs.locks.release.Goals as goal

pub ring_row-requires-clause-known : goal.ring_row-requires-clause-known
ring_row-requires-clause-known g c =
    let old = c.args.pass.now in let mid = c.bring_row.new.pass in
    let b = brought_row old mid c.args.row Rel (g.C.Freight.goods c.args.cargo).count c.bring_row.ensures.brought in
    let h = c.requires.handed in
    let y = row_goods old mid c.args.row h.row c.bring_row.ensures.kept.opening b.2.did.prefix h.found in
    (y.0, y.1)

pub returns-clause-called : goal.returns-clause-called
returns-clause-called g c =
    let old = c.args.pass.now in let mid = c.bring_row.new.pass in
    let keeps : Keeps old mid = record { kept = c.bring_row.ensures.kept; allowance = c.bring_row.ensures.rights.0; share = c.bring_row.ensures.rights.1 } in
    let b = brought_row old mid c.args.row Rel (g.C.Freight.goods c.args.cargo).count c.bring_row.ensures.brought in
    (c.ring_row.result, rung_releases c.args.entries.now old mid c.ring_row.new.pass c.args.row c.ring_row.result c.requires.serves.pass keeps (g.C.Freight.goods c.args.cargo) b.0 _ b.2 c.ring_row.ensures.mask c.ring_row.ensures.ran)
