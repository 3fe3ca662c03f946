use Rattle.std.proofs.Common.{refl, sym, ◌∙◌, arith}
use Rattle.queue_model.specs.declared.deeds.Act.TheVariants.{Reserve}
use Rattle.queue_model.specs.Table.{acted}
use Rattle.kept_rows.proofs.Handing.{can_put, can_reserve}
use Rattle.sorted_core.proofs.tests.put.Goals as goal

pub put-requires-clause-may : goal.put-requires-clause-may
put-requires-clause-may c =
    let q = c.requires.stands in
    let deep = c.depth.ensures.serves in
    let few = c.if-depth-ge-MOST_ENTRIES.false in
    let can = can_reserve q.0 9 0 c.depth.result (deep.means q.0 q.1 tt) (omega arith) few in
    let st = deep.stands q.0 q.1 tt in
    let e = c.entry-slip.ensures in
    let mask = e.mask in
    (acted q.0 9 (Reserve 0), c.reserve.ensures.serves.stands q.0 st can, can_put c.depth.new.self q.0 9 0 _ _ st e.size (omega arith) e.list (omega (arith, mask)) (e.id ∙ sym e.cargo) refl)

pub returns : goal.returns
returns c =
    let q = c.requires.stands in
    let deep = c.depth.ensures.serves in
    let few = c.if-depth-ge-MOST_ENTRIES.false in
    let can = can_reserve q.0 9 0 c.depth.result (deep.means q.0 q.1 tt) (omega arith) few in
    let st = deep.stands q.0 q.1 tt in
    let e = c.entry-slip.ensures in
    let mask = e.mask in
    let enters = can_put c.depth.new.self q.0 9 0 _ _ st e.size (omega arith) e.list (omega (arith, mask)) (e.id ∙ sym e.cargo) refl in
    record { stands = (_, c.put.ensures.serves.stands (acted q.0 9 (Reserve 0)) (c.reserve.ensures.serves.stands q.0 st can) enters) }
