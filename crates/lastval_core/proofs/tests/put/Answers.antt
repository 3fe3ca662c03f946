use Rattle.std.proofs.Common.{◌≡◌, ◌<◌, ℕ, refl, sym, ◌∙◌, arith}
use Rattle.queue_model.specs.declared.deeds.Act.TheVariants.{Reserve}
use Rattle.queue_model.specs.declared.queues.Queue.{Queue}
use Rattle.queue_model.specs.Table.{Can, acted}
use Rattle.kept_rows.proofs.Handing.{can_put, can_reserve, hand_stays}
use Rattle.lastval_core.proofs.tests.put.Goals as goal

pub put-requires-clause-may : goal.put-requires-clause-may
put-requires-clause-may c =
    let q = c.requires.stands in
    let deep = c.depth.ensures.serves in
    let few = c.if-depth-ge-MOST_ENTRIES.false in
    let can = can_reserve q.0 9 0 c.depth.result (deep.means q.0 q.1 tt) (omega arith) few in
    let st = deep.stands q.0 q.1 tt in
    let e = c.entry-slip.ensures in
    let mask = e.mask in
    (acted q.0 9 (Reserve 0), c.reserve.ensures.serves.stands q.0 st can, can_put c.depth.new.self q.0 9 0 _ _ st e.size (omega arith) e.list (omega (arith, mask)) (e.id ∙ sym e.cargo) refl)

pub returns-clause-stands : goal.returns-clause-stands
returns-clause-stands c =
    let q = c.requires.stands in
    let deep = c.depth.ensures.serves in
    let few = c.if-depth-ge-MOST_ENTRIES.false in
    let can = can_reserve q.0 9 0 c.depth.result (deep.means q.0 q.1 tt) (omega arith) few in
    let st = deep.stands q.0 q.1 tt in
    let e = c.entry-slip.ensures in
    let mask = e.mask in
    let enters = can_put c.depth.new.self q.0 9 0 _ _ st e.size (omega arith) e.list (omega (arith, mask)) (e.id ∙ sym e.cargo) refl in
    (_, c.put.ensures.serves.stands (acted q.0 9 (Reserve 0)) (c.reserve.ensures.serves.stands q.0 st can) enters)

pub returns-clause-others : goal.returns-clause-others
returns-clause-others c = λ h r load apart may.
    let deep = c.depth.ensures.serves in
    let few = c.if-depth-ge-MOST_ENTRIES.false in
    let can = can_reserve may.0 9 0 c.depth.result (deep.means may.0 may.1 tt) (omega arith) few in
    let st = deep.stands may.0 may.1 tt in
    let e = c.entry-slip.ensures in
    let mask = e.mask in
    let enters = can_put c.depth.new.self may.0 9 0 _ _ st e.size (omega arith) e.list (omega (arith, mask)) (e.id ∙ sym e.cargo) refl in
    let reserved = c.reserve.ensures.serves in
    let then = reserved.stands may.0 st can in
    let held = hand_stays _ _ _ 9 _ _ may.0 h r load reserved st can apart may.2 in
    (_, c.put.ensures.serves.stands (acted may.0 9 (Reserve 0)) then enters, hand_stays _ _ _ 9 _ _ (acted may.0 9 (Reserve 0)) h r load c.put.ensures.serves then enters apart held)
