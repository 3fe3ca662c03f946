use Rattle.std.proofs.Common.{rules, ◌≡◌, ◌⊎◌, inl, ◌<◌, ◌≤◌, ◌+◌, ◌-◌, ◌*◌, ℕ, suc, List, length, get_or, arith, sym, subst}
use mathlib.Core.Logic.{dite}
use native.Mathlib.Decide.{dec_lt}
use Rattle.row_order.specs.Tree.{Leafed}
use Rattle.row_order.proofs.tree.widen.Goals as goal

-- the leaves of the wider tree
leafed : (old width n : ℕ) (was nodes : List ℕ) → 2 * old ≤ width → length nodes ≡ 2 * width
    → ((i : ℕ) → i < 2 * width → get_or was i 0 ≤ n) → ((r : ℕ) → r < old → (get_or was (old + r) 0 ≡ 0) ⊎ (get_or was (old + r) 0 ≡ suc r))
    → ((i : ℕ) → i < width → get_or nodes i 0 ≡ get_or was i 0) → ((r : ℕ) → r < old → get_or nodes (width + r) 0 ≡ get_or was (old + r) 0) → ((r : ℕ) → old ≤ r → get_or nodes (width + r) 0 ≡ 0)
    → Leafed width n nodes
leafed old width n was nodes wide long inside leaves low moved empty = record {
  long = long;
  inside = λ i m. dite (dec_lt i width)
      (λ (l : i < width). let e = low i l in let p = inside i m in omega arith)
      (λ (off : ¬ (i < width)).
      let e : i ≡ width + (i - width) = omega arith in
      subst (λ (z : ℕ). get_or nodes z 0 ≤ n) (sym e) (dite (dec_lt (i - width) old)
      (λ (l : i - width < old). let z = moved (i - width) l in let p = inside (old + (i - width)) (omega arith) in omega arith)
      (λ (far : ¬ (i - width < old)). let z = empty (i - width) (omega arith) in omega arith)));
  leaves = λ r m. dite (dec_lt r old)
      (λ (l : r < old). subst (λ (z : ℕ). (z ≡ 0) ⊎ (z ≡ suc r)) (sym (moved r l)) (leaves r l))
      (λ (far : ¬ (r < old)). inl (empty r (omega arith)));
}

pub crown-requires : goal.crown-requires
crown-requires g c =
    let i = c.moving.invariant in
    let done : c.args.old ≤ c.moving.row = search rules in
    let row = i.0 in
    record { leaves = leafed c.args.old c.args.width (length c.args.slots.now) c.args.nodes.now c.moving.nodes c.requires.width.1 i.1 c.requires.inside c.requires.leaves i.2 (λ r l. i.3 r (omega arith)) (λ r l. i.4 r (omega arith)) }
