use Rattle.std.proofs.Common.{rules, ◌≡◌, ◌≢◌, ◌<◌, ◌≤◌, ◌+◌, ◌-◌, ℕ, Bool, true, false, Option, Some, None, List, [], ◌∷◌, ◌++◌, length, get_or, set, sym, ap, ◌∙◌, subst, refl, arith}
use Rattle.queue_model.specs.declared.rows.RowState.TheVariants.{Available, Locked, Unlocked, Dequeued, Deleted}
use Rattle.queue_model.specs.declared.queues.Depth.{Depth}
use Rattle.queue_model.specs.declared.rows.RowState.{RowState}
use Rattle.queue_model.specs.declared.rows.Slip.{Slip}
use Rattle.std.specs.Option.{option_map}
use Rattle.row_order.specs.declared.slots.Slot.{Slot}
use Rattle.row_order.specs.Order.{ranks}
use Rattle.row_order.specs.Tree.{Crowned, LeafSet}
use Rattle.acts_core.specs.Kept.{Kept, KeptRow, Goods}
use Rattle.acts_core.specs.Load.{Load}
use Rattle.std.proofs.lemmas.List.{length-set}
use Rattle.kept_rows.specs.Rows.{kept_at, with_row, row_in, goods_in, Fitting, CameOut}
use Rattle.kept_rows.specs.Keeping.{kept_of, Keeps, Carries, Names}
use Rattle.kept_rows.proofs.Keeping.{kept_length, kept_read, kept_change, came_out, crowned_set, keeps_set, names_word, nodes_back}
use Rattle.kept_rows.proofs.rows.KeptRows.change.Goals as goal

module _ {C : Type 0} (load : C → Load) (b : Bool) (k : Kept) (slots : List (Slot C)) (nodes : List ℕ) (width spare : ℕ) (depth : Depth) (view_is : kept_of load slots depth spare ≡ k) where
  inside : (r : ℕ) → r < length k.rows → r < length slots
  inside r l = let n = kept_length load slots depth spare in let e = ap (λ (z : Kept). length z.rows) view_is in omega arith

  same_slip : (r : ℕ) (t : Slot C) → r < length k.rows → t ≡ get_or slots r t → (kept_at k r).slip ≡ t.slip
  same_slip r t l at = ap (λ (z : Kept). (kept_at z r).slip) (sym view_is) ∙ (ap (λ (z : KeptRow). z.slip) (kept_read load slots depth spare r t (inside r l)) ∙ ap (λ (z : Slot C). z.slip) (sym at))

  fitting : (r : ℕ) (t : Slot C) (state : RowState) (cargo dest : Option C) → r < length k.rows → t ≡ get_or slots r t → dest ≡ cargo → Fitting (kept_at k r).slip state (option_map load cargo) → Carries load (record { slip = t.slip; state = state; cargo = dest })
  fitting r t state cargo dest l at is fits = subst (λ (z : Slip × Option C). Fitting z.0 state (option_map load z.1)) (λ i. (same_slip r t l at i, sym is i)) fits

pub set_leaf-requires : goal.set_leaf-requires
set_leaf-requires g c =
    let old = c.self.inside in
    let t = c.index_mut-slot.result.now in
    let s : Slot g.row.C.Denot = record { slip = t.slip; state = c.args.state; cargo = c.replace-before.new.dest } in
    let l = inside g.C.Freight.goods g.O.Ranking.by_key c.args.self.now old.slots.items old.nodes.items old.width old.spare old.depth c.self.view_is c.args.row c.requires.row in
    let tree = crowned_set g.C.Freight.goods g.O.Ranking.by_key old.slots.items old.nodes.items old.width c.args.row s t (ap (λ (z : Slot g.row.C.Denot). z.slip) c.index_mut-slot.ensures.value) c.self.invariant.0.tree in
    let long = length-set old.slots.items c.args.row s in
    let same : length c.deref.result.now ≡ length (set old.slots.items c.args.row s) = ap (λ (z : List (Slot g.row.C.Denot)). length z) c.deref.ensures.value in
    let room = c.self.invariant.1.leaves in
    let ok = old.slots.ok.0 in
    record {
      tree = subst (λ (z : List (Slot g.row.C.Denot) × List ℕ). Crowned (ranks g.O.Ranking.by_key z.0) old.width (length z.0) z.1) (λ i. (sym c.deref.ensures.value i, sym c.deref_mut.ensures.value i)) tree;
      inside = (omega arith, omega arith);
      word = names_word c.args.state c.args.row c.leaf_word-word.result c.leaf_word-word.ensures;
    }

pub invariant_of-self : goal.invariant_of-self
invariant_of-self g c =
    let old = c.self.inside in
    let t = c.index_mut-slot.result.now in
    let s : Slot g.row.C.Denot = record { slip = t.slip; state = c.args.state; cargo = c.replace-before.new.dest } in
    let l = inside g.C.Freight.goods g.O.Ranking.by_key c.args.self.now old.slots.items old.nodes.items old.width old.spare old.depth c.self.view_is c.args.row c.requires.row in
    let carries = fitting g.C.Freight.goods g.O.Ranking.by_key c.args.self.now old.slots.items old.nodes.items old.width old.spare old.depth c.self.view_is c.args.row t c.args.state c.args.cargo c.replace-before.new.dest c.requires.row c.index_mut-slot.ensures.value c.replace-before.ensures.after c.requires.fits in
    let tree : Crowned (ranks g.O.Ranking.by_key (set old.slots.items c.args.row s)) old.width (length (set old.slots.items c.args.row s)) c.set_leaf.new.nodes = subst (λ (z : List (Slot g.row.C.Denot)). Crowned (ranks g.O.Ranking.by_key z) old.width (length z) c.set_leaf.new.nodes) c.deref.ensures.value c.set_leaf.ensures.tree in
    let leaf : LeafSet old.width old.nodes.items c.set_leaf.new.nodes c.args.row c.leaf_word-word.result = subst (λ (z : List ℕ). LeafSet old.width z c.set_leaf.new.nodes c.args.row c.leaf_word-word.result) c.deref_mut.ensures.value c.set_leaf.ensures.leaf in
    let kept = keeps_set g.C.Freight.goods g.O.Ranking.by_key old.slots.items old.nodes.items c.set_leaf.new.nodes old.width c.args.row c.leaf_word-word.result s c.self.invariant.0 l carries c.leaf_word-word.ensures tree leaf in
    let was = c.self.invariant.0.tree.leafed.long in
    let is = tree.leafed.long in
    let back = nodes_back old.nodes.items c.set_leaf.new.nodes old.nodes.len old.nodes.ok.0 (omega arith) in
    (subst (λ (z : List ℕ). Keeps g.C.Freight.goods g.O.Ranking.by_key (set old.slots.items c.args.row s) z old.width) (sym back) kept, c.self.invariant.1)

pub returns : goal.returns
returns g c =
    let old = c.self.inside in
    let t = c.index_mut-slot.result.now in
    let s : Slot g.row.C.Denot = record { slip = t.slip; state = c.args.state; cargo = c.replace-before.new.dest } in
    let l = inside g.C.Freight.goods g.O.Ranking.by_key c.args.self.now old.slots.items old.nodes.items old.width old.spare old.depth c.self.view_is c.args.row c.requires.row in
    record {
      kept = kept_change g.C.Freight.goods old.slots.items old.depth old.spare c.args.row s t l (ap (λ (z : Slot g.row.C.Denot). z.slip) c.index_mut-slot.ensures.value)
          ∙ λ i. with_row (c.self.view_is i) c.args.row (row_in c.args.state (option_map (λ x. goods_in (g.C.Freight.goods x)) (c.replace-before.ensures.after i)) (kept_at (c.self.view_is i) c.args.row));
      came = subst (λ (z : Kept × Option g.row.C.Denot). CameOut (kept_at z.0 c.args.row) (option_map g.C.Freight.goods z.1)) (λ i. (c.self.view_is i, sym c.replace-before.ensures.value i))
          (came_out g.C.Freight.goods old.slots.items old.depth old.spare c.args.row t c.self.invariant.0.carry l c.index_mut-slot.ensures.value);
    }
