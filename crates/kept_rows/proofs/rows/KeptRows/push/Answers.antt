use Rattle.std.proofs.Common.{rules, ◌≡◌, ◌≢◌, ◌<◌, ◌≤◌, ◌+◌, ◌-◌, ℕ, Bool, true, false, Option, Some, None, List, [], ◌∷◌, ◌++◌, length, get_or, set, sym, ap, ◌∙◌, subst, refl, arith, suc}
use Rattle.queue_model.specs.declared.rows.RowState.TheVariants.{Available, Locked, Unlocked, Dequeued, Deleted}
use Rattle.queue_model.specs.declared.queues.Depth.{Depth}
use Rattle.queue_model.specs.declared.rows.RowState.{RowState}
use Rattle.queue_model.specs.declared.rows.Slip.{Slip}
use Rattle.std.specs.Option.{option_map}
use Rattle.row_order.specs.declared.slots.Slot.{Slot}
use Rattle.row_order.specs.Order.{ranks}
use Rattle.row_order.specs.Tree.{Crowned, LeafSet}
use Rattle.acts_core.specs.Kept.{Kept, KeptRow, Goods}
use Rattle.kept_rows.specs.Rows.{kept_at, with_row, row_in, goods_in, Fitting, CameOut}
use Rattle.kept_rows.specs.Keeping.{kept_of, Keeps, Carries, Names}
use Rattle.acts_core.specs.Load.{Load}
use Rattle.kept_rows.specs.Keeping.{HasRoom}
use Rattle.kept_rows.proofs.Keeping.{crowned_push, keeps_push, nodes_back}
use Rattle.kept_rows.proofs.rows.KeptRows.push.Goals as goal

pub set_leaf-requires-clause-tree : goal.set_leaf-requires-clause-tree
set_leaf-requires-clause-tree g c =
    let old = c.self.inside in
    let s : Slot g.row.C.Denot = record { slip = c.args.slip; state = Available; cargo = Some c.args.cargo } in
    subst (λ (z : List (Slot g.row.C.Denot) × List ℕ). Crowned (ranks g.O.Ranking.by_key z.0) old.width (length z.0) z.1) (λ i. (sym (c.deref.ensures.value ∙ c.push_reserved.ensures.items) i, sym c.deref_mut.ensures.value i))
    (crowned_push g.C.Freight.goods g.O.Ranking.by_key old.slots.items old.nodes.items old.width s c.self.invariant.0.tree)

pub invariant_of-self : goal.invariant_of-self
invariant_of-self g c =
    let old = c.self.inside in
    let s : Slot g.row.C.Denot = record { slip = c.args.slip; state = Available; cargo = Some c.args.cargo } in
    let items = c.push_reserved.ensures.items in
    let n : c.len-row.result ≡ length old.slots.items = search rules in
    let word : c.len-row.result + 1 ≡ suc (length old.slots.items) = omega arith in
    let some : 0 < old.spare = (let e = ap (λ (k : Kept). k.spare) c.self.view_is in let s = c.requires.spare in omega arith) in
    let tree : Crowned (ranks g.O.Ranking.by_key (old.slots.items ++ s ∷ [])) old.width (length (old.slots.items ++ s ∷ [])) c.set_leaf.new.nodes = subst (λ (z : List (Slot g.row.C.Denot)). Crowned (ranks g.O.Ranking.by_key z) old.width (length z) c.set_leaf.new.nodes) (c.deref.ensures.value ∙ items) c.set_leaf.ensures.tree in
    let leaf : LeafSet old.width old.nodes.items c.set_leaf.new.nodes (length old.slots.items) (suc (length old.slots.items)) = subst (λ (z : List ℕ × ℕ × ℕ). LeafSet old.width z.0 c.set_leaf.new.nodes z.1 z.2) (λ i. (c.deref_mut.ensures.value i, n i, word i)) c.set_leaf.ensures.leaf in
    let kept = keeps_push g.C.Freight.goods g.O.Ranking.by_key old.slots.items old.nodes.items c.set_leaf.new.nodes old.width s c.self.invariant.0 c.requires.fits refl tree leaf in
    let was = c.self.invariant.0.tree.leafed.long in
    let is = tree.leafed.long in
    let back = nodes_back old.nodes.items c.set_leaf.new.nodes old.nodes.len old.nodes.ok.0 (omega arith) in
    let room = c.self.invariant.1 in
    let len = c.push_reserved.ensures.len in
    let cap = c.push_reserved.ensures.capacity in
    let leaves = room.leaves in let slots = room.slots_fit in let order = room.order_fits.1 in let rest = room.rest_fits.1 in (
      subst (λ (z : List (Slot g.row.C.Denot) × List ℕ). Keeps g.C.Freight.goods g.O.Ranking.by_key z.0 z.1 old.width) (λ i. (sym items i, sym back i)) kept,
      record { leaves = omega arith; slots_fit = omega arith; order_fits = (room.order_fits.0, omega arith); rest_fits = (room.rest_fits.0, omega arith) },
    )
