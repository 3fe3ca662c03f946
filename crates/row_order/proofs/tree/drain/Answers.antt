use Rattle.std.proofs.Common.{rules, ◌≡◌, ◌<◌, ◌-◌, suc, length, get_or, arith, sym, ◌∙◌, subst, refl}
use Rattle.std.specs.Vec.{vec_len}
use Rattle.row_order.specs.Order.{ranks}
use Rattle.row_order.proofs.Drains.{Draining, drain_begins, drain_step, drain_room, drain_ends, no_items}
use Rattle.row_order.proofs.tree.drain.Goals as goal

pub draining-init : goal.draining-init
draining-init g c =
    let n : length c.args.order.now.items ≡ 0 = search rules in (
      subst (Draining (ranks g.O.Ranking.by_key c.args.slots.now) c.args.width (length c.args.slots.now) c.args.nodes.now c.args.nodes.now) (sym (no_items c.args.order.now.items n))
          (drain_begins (ranks g.O.Ranking.by_key c.args.slots.now) c.args.width (length c.args.slots.now) c.args.nodes.now c.requires.tree),
      refl,
    )

pub push_reserved-requires : goal.push_reserved-requires
push_reserved-requires g c =
    let i = c.draining.invariant in
    let some : 0 < get_or c.draining.nodes 1 0 = search rules in
    let r = drain_room (ranks g.O.Ranking.by_key c.args.slots.now) c.args.width (length c.args.slots.now) c.args.nodes.now c.draining.nodes c.draining.order.items i.0 c.requires.width some in
    let low = r.2 in
    let cap = i.1 in
    let room = c.requires.room.1 in
    let long : vec_len c.draining.order ≡ length c.draining.order.items = search rules in
    omega arith

pub set_leaf-requires-clause-inside : goal.set_leaf-requires-clause-inside
set_leaf-requires-clause-inside g c =
    let i = c.draining.invariant in
    let some : 0 < get_or c.draining.nodes 1 0 = search rules in
    let r = drain_room (ranks g.O.Ranking.by_key c.args.slots.now) c.args.width (length c.args.slots.now) c.args.nodes.now c.draining.nodes c.draining.order.items i.0 c.requires.width some in
    (r.0, r.1)

pub draining-smaller : goal.draining-smaller
draining-smaller g c =
    let i = c.draining.invariant in
    let some : 0 < get_or c.draining.nodes 1 0 = search rules in
    let root : get_or c.draining.nodes 1 0 ≡ suc (get_or c.draining.nodes 1 0 - 1) = omega arith in
    (drain_step (ranks g.O.Ranking.by_key c.args.slots.now) c.args.width (length c.args.slots.now) c.args.nodes.now c.draining.nodes c.set_leaf.new.nodes c.draining.order.items (get_or c.draining.nodes 1 0 - 1) i.0 c.requires.width root c.set_leaf.ensures.tree c.set_leaf.ensures.leaf).1

pub draining-preserved : goal.draining-preserved
draining-preserved g c =
    let i = c.draining.invariant in
    let some : 0 < get_or c.draining.nodes 1 0 = search rules in
    let root : get_or c.draining.nodes 1 0 ≡ suc (get_or c.draining.nodes 1 0 - 1) = omega arith in (
      subst (Draining (ranks g.O.Ranking.by_key c.args.slots.now) c.args.width (length c.args.slots.now) c.args.nodes.now c.set_leaf.new.nodes) (sym c.push_reserved.ensures.items)
          (drain_step (ranks g.O.Ranking.by_key c.args.slots.now) c.args.width (length c.args.slots.now) c.args.nodes.now c.draining.nodes c.set_leaf.new.nodes c.draining.order.items (get_or c.draining.nodes 1 0 - 1) i.0 c.requires.width root c.set_leaf.ensures.tree c.set_leaf.ensures.leaf).0,
      c.push_reserved.ensures.capacity ∙ i.1,
    )

pub returns : goal.returns
returns g c =
    let i = c.draining.invariant in
    let none : get_or c.draining.nodes 1 0 ≡ 0 = search rules in
    record { drained = drain_ends (ranks g.O.Ranking.by_key c.args.slots.now) c.args.width (length c.args.slots.now) c.args.nodes.now c.draining.nodes c.draining.order.items i.0 none }
