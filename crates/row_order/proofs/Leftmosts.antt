-- the way down to the available row of the least number
use Rattle.std.proofs.Common.{◌≡◌, ℕ, ◌+◌, ◌-◌, ◌*◌, ◌/◌, ◌^◌, ◌<◌, ◌≤◌, Option, List, get_or, refl, sym, ap, ◌∙◌, ⊎_elim, arith, zero, suc}
use Rattle.std.proofs.Math.Nat.{pow-succ', mul_assoc}
use Rattle.std.proofs.lemmas.Nat.{pow_pos}
use mathlib.Core.Logic.{dite}
use native.Mathlib.Decide.{dec_lt}
use Rattle.row_order.specs.Tree.{Crowned, half, IsFreeLeaf, Leftmost}
use Rattle.row_order.proofs.Crowns.{half_in, reach_root, crown_beats, crown_leaf}

double : (k a : ℕ) → 2 ^ suc k * a ≡ 2 * (2 ^ k * a)
double k a = ap (λ (n : ℕ). n * a) (pow-succ' 2 k) ∙ mul_assoc 2 (2 ^ k) a

-- a node that stands k steps above m, by the span of its leaves
pub half_is : (k a m : ℕ) → 2 ^ k * a ≤ m → m < 2 ^ k * (a + 1) → half k m ≡ a
half_is zero a m low high = omega arith
half_is (suc k) a m low high =
    let d = double k a in
    let e = double k (a + 1) in
    sym (half_in k m) ∙ half_is k a (m / 2) (omega arith) (omega arith)

module _ (ks : ℕ → Option (List ℕ)) (width n : ℕ) (nodes : List ℕ) (c : Crowned ks width n nodes) where
  -- an available row stands below the root
  pub root_full : (y : ℕ) → IsFreeLeaf width nodes y → 0 < get_or nodes 1 0
  root_full y leaf =
      let low = leaf.0 in
      let r = reach_root (width + y) (width + y) (omega arith) (omega arith) in
      let b = crown_beats ks width n nodes c r.0 (width + y) y (omega arith) leaf.1 1 (omega arith) r.1 in
      let i = b.is in omega arith

  pub no_leftmost : get_or nodes 1 0 ≡ 0 → Leftmost width nodes 0
  no_leftmost none = record { found = λ x e. absurd (omega arith); first = λ y leaf. let f = root_full y leaf in absurd (omega arith) }

  -- where the left node is empty no available row stands below it
  pub goes_right : (k node : ℕ) → 0 < node → get_or nodes (2 * node) 0 ≡ 0 → (y : ℕ) → IsFreeLeaf width nodes y → 2 ^ k * (2 * node) ≤ width + y → 2 ^ k * (2 * node + 1) ≤ width + y
  goes_right k node some empty y leaf low = dite (dec_lt (width + y) (2 ^ k * (2 * node + 1)))
      (λ (less : width + y < 2 ^ k * (2 * node + 1)).
      let inside = leaf.0 in
      let b = crown_beats ks width n nodes c k (width + y) y (omega arith) leaf.1 (2 * node) (omega arith) (half_is k (2 * node) (width + y) low less) in
      let i = b.is in absurd (omega arith))
      (λ (off : ¬ (width + y < 2 ^ k * (2 * node + 1))). omega arith)

  pub lands : (node : ℕ) → width ≤ node → 0 < node → node < 2 * width → 0 < get_or nodes node 0 → ((y : ℕ) → IsFreeLeaf width nodes y → node ≤ width + y) → Leftmost width nodes (get_or nodes node 0)
  lands node high some inside full least =
      let r : node ≡ width + (node - width) = omega arith in
      let leaf : get_or nodes node 0 ≡ suc (node - width) = ⊎_elim
      (λ (e : get_or nodes (width + (node - width)) 0 ≡ 0). let z : get_or nodes node 0 ≡ get_or nodes (width + (node - width)) 0 = ap (λ (i : ℕ). get_or nodes i 0) r in absurd (omega arith))
      (λ (e : get_or nodes (width + (node - width)) 0 ≡ suc (node - width)). ap (λ (i : ℕ). get_or nodes i 0) r ∙ e)
      (c.leafed.leaves (node - width) (omega arith)) in
      record {
        found = λ x e. crown_leaf ks width n nodes c (2 * width) node x (omega arith) some inside e;
        first = λ y l. (node - width, leaf, (let m = least y l in omega arith));
      }

-- half of a span that is more than 1
pub halves : (k span : ℕ) → span ≡ 2 ^ k → 1 < span → (j : ℕ) × (span / 2 ≡ 2 ^ j) × (span ≡ 2 * (span / 2)) × (k ≡ suc j)
halves zero span e more = absurd (omega arith)
halves (suc k) span e more = let d = pow-succ' 2 k in (k, omega arith, omega arith, refl)

-- the numbers of a step to the left and to the right
pub spans : (half node : ℕ) → (half * (node * 2) ≡ (2 * half) * node) × (half * (node * 2 + 1) ≡ (2 * half) * node + half) × (half * (node * 2 + 1 + 1) ≡ (2 * half) * (node + 1))
spans half node = (omega arith, omega arith, omega arith)

-- a power of two is not 0
pub power_some : (k span : ℕ) → span ≡ 2 ^ k → 0 < span
power_some k span e = let p = pow_pos k in omega arith
