use Rattle.std.proofs.Common.{rules, ◌≡◌, ◌<◌, ◌≤◌, ◌+◌, ◌*◌, ◌/◌, ◌^◌, ℕ, get_or, arith, sym, ap, ◌∙◌, subst, ⊎_elim}
use Rattle.std.proofs.Math.Nat.{le-mul_of_pos_right}
use Rattle.row_order.specs.Tree.{IsFreeLeaf}
use Rattle.row_order.proofs.Leftmosts.{no_leftmost, goes_right, lands, halves, spans, power_some}
use Rattle.row_order.proofs.tree.leftmost.Goals as goal

pub returns-then-nodes-eq0 : goal.returns-then-nodes-eq0
returns-then-nodes-eq0 c =
    let none : get_or c.args.nodes.now 1 0 ≡ 0 = search rules in
    no_leftmost c.requires.tree.0 c.args.width c.requires.tree.1 c.args.nodes.now c.requires.tree.2 none

pub descending-preserved-then-nodes-node-eq0 : goal.descending-preserved-then-nodes-node-eq0
descending-preserved-then-nodes-node-eq0 c =
    let i = c.descending.invariant in
    let more : 1 < c.descending.span = search rules in
    let empty : get_or c.args.nodes.now (c.descending.node * 2) 0 ≡ 0 = search rules in
    let h = halves i.1.0 c.descending.span i.1.1 more in
    let s = spans (c.descending.span / 2) c.descending.node in
    let low = i.2 in let high = i.3 in let two = h.2 in
    let n0 = i.0 in let full0 = i.4 in
    let dbl : (c.descending.span / 2) * (c.descending.node * 2) ≡ c.descending.span * c.descending.node = s.0 ∙ ap (λ (z : ℕ). z * c.descending.node) (sym two) in
    let top : (c.descending.span / 2) * (c.descending.node * 2 + 1 + 1) ≡ c.descending.span * (c.descending.node + 1) = s.2 ∙ ap (λ (z : ℕ). z * (c.descending.node + 1)) (sym two) in
    let mid = s.1 in
    let one : 0 < c.descending.span / 2 = omega arith in
    let wide = le-mul_of_pos_right (c.descending.node * 2 + 1 + 1) one in
    let inner : c.descending.node < c.args.width = omega arith in
    let empty' : get_or c.args.nodes.now (2 * c.descending.node) 0 ≡ 0 = ap (λ (z : ℕ). get_or c.args.nodes.now z 0) (omega arith) ∙ empty in
    let right : 0 < get_or c.args.nodes.now (c.descending.node * 2 + 1) 0 = ⊎_elim
    (λ (e : get_or c.args.nodes.now c.descending.node 0 ≡ get_or c.args.nodes.now (2 * c.descending.node) 0). absurd (omega arith))
    (λ (e : get_or c.args.nodes.now c.descending.node 0 ≡ get_or c.args.nodes.now (2 * c.descending.node + 1) 0). let z : get_or c.args.nodes.now (2 * c.descending.node + 1) 0 ≡ get_or c.args.nodes.now (c.descending.node * 2 + 1) 0 = ap (λ (z : ℕ). get_or c.args.nodes.now z 0) (omega arith) in omega arith)
    (c.requires.tree.2.inner c.descending.node n0 inner).either in
    let goes : (y : ℕ) → IsFreeLeaf c.args.width c.args.nodes.now y → (c.descending.span / 2) * (c.descending.node * 2 + 1) ≤ c.args.width + y =
    λ y leaf.
    let m = i.5 y leaf in
    let from : 2 ^ h.0 * (2 * c.descending.node) ≤ c.args.width + y = subst (λ (z : ℕ). z * (2 * c.descending.node) ≤ c.args.width + y) h.1 (omega arith) in
    let r = goes_right c.requires.tree.0 c.args.width c.requires.tree.1 c.args.nodes.now c.requires.tree.2 h.0 c.descending.node n0 empty' y leaf from in
    let r' : (c.descending.span / 2) * (2 * c.descending.node + 1) ≤ c.args.width + y = subst (λ (z : ℕ). z * (2 * c.descending.node + 1) ≤ c.args.width + y) (sym h.1) r in
    omega arith in
    (omega arith, (h.0, h.1), omega arith, omega arith, right, goes)

pub descending-preserved : goal.descending-preserved
descending-preserved c =
    let i = c.descending.invariant in
    let more : 1 < c.descending.span = search rules in
    let full : 0 < get_or c.args.nodes.now (c.descending.node * 2) 0 = search rules in
    let h = halves i.1.0 c.descending.span i.1.1 more in
    let s = spans (c.descending.span / 2) c.descending.node in
    let low = i.2 in let high = i.3 in let two = h.2 in
    let n0 = i.0 in
    let dbl : (c.descending.span / 2) * (c.descending.node * 2) ≡ c.descending.span * c.descending.node = s.0 ∙ ap (λ (z : ℕ). z * c.descending.node) (sym two) in
    let top : (c.descending.span / 2) * (c.descending.node * 2 + 1 + 1) ≡ c.descending.span * (c.descending.node + 1) = s.2 ∙ ap (λ (z : ℕ). z * (c.descending.node + 1)) (sym two) in
    let mid = s.1 in
    (omega arith, (h.0, h.1), omega arith, omega arith, full, (λ y leaf. let m = i.5 y leaf in omega arith))

pub returns : goal.returns
returns c =
    let i = c.descending.invariant in
    let few : c.descending.span ≤ 1 = search rules in
    let low = i.2 in let high = i.3 in
    let some : 0 < c.descending.span = power_some i.1.0 c.descending.span i.1.1 in
    let one : c.descending.span ≡ 1 = omega arith in
    let here : c.descending.span * c.descending.node ≡ c.descending.node = ap (λ (z : ℕ). z * c.descending.node) one ∙ omega arith in
    let past : c.descending.span * (c.descending.node + 1) ≡ c.descending.node + 1 = ap (λ (z : ℕ). z * (c.descending.node + 1)) one ∙ omega arith in
    lands c.requires.tree.0 c.args.width c.requires.tree.1 c.args.nodes.now c.requires.tree.2 c.descending.node (omega arith) i.0 (omega arith) i.4 (λ y leaf. let m = i.5 y leaf in omega arith)
