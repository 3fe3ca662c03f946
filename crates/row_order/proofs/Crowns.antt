-- trees of winners
use Rattle.std.proofs.Common.{◌≡◌, ◌≢◌, ◌⊎◌, inl, inr, ℕ, ◌+◌, ◌-◌, ◌*◌, ◌/◌, ◌<◌, ◌≤◌, Option, List, length, get_or, set, refl, sym, ap, ◌∙◌, subst, ⊎_elim, arith, zero, suc}
use Rattle.std.proofs.lemmas.List.{length-set, get_or-set_same, get_or-set_other}
use mathlib.Core.Logic.{dite}
use native.Mathlib.Decide.{ℕ_discrete, dec_lt}
use Rattle.queue_model.specs.Order.{KeyBefore}
use Rattle.row_order.specs.Order.{before}
use Rattle.row_order.specs.Tree.{Beats, IsWinner, Leafed, IsRight, Crowned, OffPath, half, IsFreeLeaf, FirstBelow}
use Rattle.row_order.proofs.Keys.{before_trans, before_total}

-- Steps up

pub half_le : (k m : ℕ) → half k m ≤ m
half_le zero m = omega arith
half_le (suc k) m = let h = half_le k m in omega arith

pub half_in : (k m : ℕ) → half k (m / 2) ≡ half (suc k) m
half_in zero m = refl
half_in (suc k) m = ap (λ (n : ℕ). n / 2) (half_in k m)

-- each node stands below the root
pub reach_root : (fuel m : ℕ) → m ≤ fuel → 0 < m → (k : ℕ) × (half k m ≡ 1)
reach_root zero m l some = absurd (omega arith)
reach_root (suc fuel) m l some = dite (ℕ_discrete m 1)
    (λ (e : m ≡ 1). (0, e))
    (λ (ne : ¬ (m ≡ 1)). let r = reach_root fuel (m / 2) (omega arith) (omega arith) in (suc r.0, sym (half_in r.0 m) ∙ r.1))

module _ (ks : ℕ → Option (List ℕ)) where
  pub beats_trans : (w x y : ℕ) → Beats ks w x → (x ≡ y) ⊎ before ks x y → Beats ks w y
  beats_trans w x y p r = record {
    row = p.row;
    is = p.is;
    first = ⊎_elim
        (λ (e : p.row ≡ x). subst (λ (z : ℕ). (z ≡ y) ⊎ before ks z y) (sym e) r)
        (λ (b : before ks p.row x). ⊎_elim (λ (e : x ≡ y). inr (subst (before ks p.row) e b)) (λ (c : before ks x y). inr (before_trans ks p.row x y b c)) r)
        p.first;
  }

  -- The winner of two

  pub no_left : (b : ℕ) → IsWinner ks 0 b b
  no_left b = record { either = inr refl; left = λ y e. absurd (omega arith); right = λ y e. record { row = y; is = e; first = inl refl } }

  pub no_right : (a : ℕ) → IsWinner ks a 0 a
  no_right a = record { either = inl refl; left = λ y e. record { row = y; is = e; first = inl refl }; right = λ y e. absurd (omega arith) }

  pub right_wins : (a b : ℕ) → 0 < a → 0 < b → before ks (b - 1) (a - 1) → IsWinner ks a b b
  right_wins a b sa sb p = record {
    either = inr refl;
    left = λ y e. record { row = b - 1; is = omega arith; first = inr (let f : a - 1 ≡ y = omega arith in subst (before ks (b - 1)) f p) };
    right = λ y e. record { row = y; is = e; first = inl refl };
  }

  pub left_wins : (a b : ℕ) → 0 < a → 0 < b → ¬ (before ks (b - 1) (a - 1)) → IsWinner ks a b a
  left_wins a b sa sb off = record {
    either = inl refl;
    left = λ y e. record { row = y; is = e; first = inl refl };
    right = λ y e. record {
      row = a - 1;
      is = omega arith;
      first = let f : b - 1 ≡ y = omega arith in subst (λ (z : ℕ). (a - 1 ≡ z) ⊎ before ks (a - 1) z) f
          (dite (ℕ_discrete (a - 1) (b - 1)) (λ (same : a - 1 ≡ b - 1). inl same) (λ (ne : ¬ (a - 1 ≡ b - 1)). inr (before_total ks (b - 1) (a - 1) (λ z. ne (sym z)) off)));
    };
  }

  winner_inside : (a b w n : ℕ) → IsWinner ks a b w → a ≤ n → b ≤ n → w ≤ n
  winner_inside a b w n p la lb = ⊎_elim (λ (e : w ≡ a). omega arith) (λ (e : w ≡ b). omega arith) p.either

  -- One inner node is set

  -- what another node sees
  right_else : (nodes : List ℕ) (at best i : ℕ) → 0 < at → i ≢ at → 2 * i ≢ at → 2 * i + 1 ≢ at → IsRight ks nodes i → IsRight ks (set nodes at best) i
  right_else nodes at best i some off low high p = subst (λ (z : ℕ × ℕ × ℕ). IsWinner ks z.0 z.1 z.2)
      (λ k. (sym (get_or-set_other nodes at (2 * i) best 0 low) k, sym (get_or-set_other nodes at (2 * i + 1) best 0 high) k, sym (get_or-set_other nodes at i best 0 off) k)) p

  -- what the node itself sees
  right_here : (nodes : List ℕ) (at best : ℕ) → 0 < at → at < length nodes → IsWinner ks (get_or nodes (2 * at) 0) (get_or nodes (2 * at + 1) 0) best → IsRight ks (set nodes at best) at
  right_here nodes at best some inside p = subst (λ (z : ℕ × ℕ × ℕ). IsWinner ks z.0 z.1 z.2)
      (λ k. (sym (get_or-set_other nodes at (2 * at) best 0 (λ z. omega arith)) k, sym (get_or-set_other nodes at (2 * at + 1) best 0 (λ z. omega arith)) k, sym (get_or-set_same nodes at best 0 inside) k)) p

  leafed_set : (width n at best : ℕ) (nodes : List ℕ) → Leafed width n nodes → at < width → best ≤ n → Leafed width n (set nodes at best)
  leafed_set width n at best nodes l low fits = record {
    long = length-set nodes at best ∙ l.long;
    inside = λ i m. dite (ℕ_discrete i at)
        (λ (e : i ≡ at). let z = l.long in let s = get_or-set_same nodes at best 0 (omega arith) in subst (λ (j : ℕ). get_or (set nodes at best) j 0 ≤ n) (sym e) (omega arith))
        (λ (ne : ¬ (i ≡ at)). let s = get_or-set_other nodes at i best 0 ne in let p = l.inside i m in omega arith);
    leaves = λ r m. subst (λ (z : ℕ). (z ≡ 0) ⊎ (z ≡ suc r)) (sym (get_or-set_other nodes at (width + r) best 0 (λ z. omega arith))) (l.leaves r m);
  }

  -- the node above is set to its winner
  pub rises : (width n at : ℕ) (nodes : List ℕ) (best : ℕ) → Leafed width n nodes → 1 < at → at < 2 * width → OffPath ks width nodes at
      → IsWinner ks (get_or nodes (2 * (at / 2)) 0) (get_or nodes (2 * (at / 2) + 1) 0) best
      → Leafed width n (set nodes (at / 2) best) × OffPath ks width (set nodes (at / 2) best) (at / 2)
  rises width n at nodes best l more inside off w =
      let long = l.long in
      let up : ℕ = at / 2 in (
        leafed_set width n (at / 2) best nodes l (omega arith) (winner_inside _ _ best n w (l.inside (2 * (at / 2)) (omega arith)) (l.inside (2 * (at / 2) + 1) (omega arith))),
        (λ i some m apart. dite (ℕ_discrete i (at / 2))
            (λ (e : i ≡ at / 2). subst (IsRight ks (set nodes (at / 2) best)) (sym e) (right_here nodes (at / 2) best (omega arith) (omega arith) w))
            (λ (ne : ¬ (i ≡ at / 2)). right_else nodes (at / 2) best i (omega arith) ne (λ z. apart (omega arith)) (λ z. apart (omega arith)) (off i some m ne))),
      )

  -- the node above was right already
  pub settled : (width at : ℕ) (nodes : List ℕ) (best : ℕ) → OffPath ks width nodes at → get_or nodes (at / 2) 0 ≡ best
      → IsWinner ks (get_or nodes (2 * (at / 2)) 0) (get_or nodes (2 * (at / 2) + 1) 0) best → (i : ℕ) → 0 < i → i < width → IsRight ks nodes i
  settled width at nodes best off e w i some m = dite (ℕ_discrete i (at / 2))
      (λ (z : i ≡ at / 2). subst (IsRight ks nodes) (sym z) (subst (IsWinner ks (get_or nodes (2 * (at / 2)) 0) (get_or nodes (2 * (at / 2) + 1) 0)) (sym e) w))
      (λ (ne : ¬ (i ≡ at / 2)). off i some m ne)

  -- a node of those not put right yet is set to its winner
  pub crowns : (width n at : ℕ) (nodes : List ℕ) (best : ℕ) → Leafed width n nodes → 1 < at → at ≤ width → ((i : ℕ) → at ≤ i → i < width → IsRight ks nodes i)
      → IsWinner ks (get_or nodes (2 * (at - 1)) 0) (get_or nodes (2 * (at - 1) + 1) 0) best
      → Leafed width n (set nodes (at - 1) best) × ((i : ℕ) → at - 1 ≤ i → i < width → IsRight ks (set nodes (at - 1) best) i)
  crowns width n at nodes best l more inside right w =
      let long = l.long in (
        leafed_set width n (at - 1) best nodes l (omega arith) (winner_inside _ _ best n w (l.inside (2 * (at - 1)) (omega arith)) (l.inside (2 * (at - 1) + 1) (omega arith))),
        (λ i low m. dite (ℕ_discrete i (at - 1))
            (λ (e : i ≡ at - 1). subst (IsRight ks (set nodes (at - 1) best)) (sym e) (right_here nodes (at - 1) best (omega arith) (omega arith) w))
            (λ (ne : ¬ (i ≡ at - 1)). right_else nodes (at - 1) best i (omega arith) ne (λ z. omega arith) (λ z. omega arith) (right i (omega arith) m))),
      )

  -- a leaf is set: the nodes on its way alone may be wrong
  pub leaf_off : (width n row word : ℕ) (nodes : List ℕ) → Crowned ks width n nodes → row < width → row < n → (word ≡ 0) ⊎ (word ≡ suc row)
      → Leafed width n (set nodes (width + row) word) × OffPath ks width (set nodes (width + row) word) (width + row)
  leaf_off width n row word nodes c low in_rows is =
      let l = c.leafed in
      let long = l.long in
      let fits : word ≤ n = ⊎_elim (λ (e : word ≡ 0). omega arith) (λ (e : word ≡ suc row). omega arith) is in (
        record {
          long = length-set nodes (width + row) word ∙ l.long;
          inside = λ i m. dite (ℕ_discrete i (width + row))
              (λ (e : i ≡ width + row). let s = get_or-set_same nodes (width + row) word 0 (omega arith) in subst (λ (j : ℕ). get_or (set nodes (width + row) word) j 0 ≤ n) (sym e) (omega arith))
              (λ (ne : ¬ (i ≡ width + row)). let s = get_or-set_other nodes (width + row) i word 0 ne in let p = l.inside i m in omega arith);
          leaves = λ r m. dite (ℕ_discrete r row)
              (λ (e : r ≡ row). subst (λ (j : ℕ). (get_or (set nodes (width + row) word) (width + j) 0 ≡ 0) ⊎ (get_or (set nodes (width + row) word) (width + j) 0 ≡ suc j)) (sym e)
              (subst (λ (z : ℕ). (z ≡ 0) ⊎ (z ≡ suc row)) (sym (get_or-set_same nodes (width + row) word 0 (omega arith))) is))
              (λ (ne : ¬ (r ≡ row)). subst (λ (z : ℕ). (z ≡ 0) ⊎ (z ≡ suc r)) (sym (get_or-set_other nodes (width + row) (width + r) word 0 (λ z. ne (omega arith)))) (l.leaves r m));
        },
        (λ i some m apart. right_else nodes (width + row) word i (omega arith) (λ z. omega arith) (λ z. apart (omega arith)) (λ z. apart (omega arith)) (c.inner i some m)),
      )

  -- What the tree shows

  -- a node beats each node below it that is a row
  pub crown_beats : (width n : ℕ) (nodes : List ℕ) → Crowned ks width n nodes → (k j y : ℕ) → j < 2 * width → get_or nodes j 0 ≡ suc y → (node : ℕ) → 0 < node → half k j ≡ node → Beats ks (get_or nodes node 0) y
  crown_beats width n nodes c zero j y inside is node some e = record { row = y; is = ap (λ (i : ℕ). get_or nodes i 0) (sym e) ∙ is; first = inl refl }
  crown_beats width n nodes c (suc k) j y inside is node some e =
      let p : ℕ = half k j in
      let low = half_le k j in
      let b = crown_beats width n nodes c k j y inside is (half k j) (omega arith) refl in
      let right = c.inner node some (omega arith) in
      dite (ℕ_discrete (half k j) (2 * node))
      (λ (z : half k j ≡ 2 * node). beats_trans (get_or nodes node 0) b.row y (right.left b.row (ap (λ (i : ℕ). get_or nodes i 0) (sym z) ∙ b.is)) b.first)
      (λ (z : ¬ (half k j ≡ 2 * node)). let odd : half k j ≡ 2 * node + 1 = omega arith in beats_trans (get_or nodes node 0) b.row y (right.right b.row (ap (λ (i : ℕ). get_or nodes i 0) (sym odd) ∙ b.is)) b.first)

  -- a node that is a row is an available one
  pub crown_leaf : (width n : ℕ) (nodes : List ℕ) → Crowned ks width n nodes → (gap i x : ℕ) → 2 * width ≤ i + gap → 0 < i → i < 2 * width → get_or nodes i 0 ≡ suc x → IsFreeLeaf width nodes x
  crown_leaf width n nodes c zero i x room some inside is = absurd (omega arith)
  crown_leaf width n nodes c (suc gap) i x room some inside is = dite (dec_lt i width)
      (λ (low : i < width). ⊎_elim
      (λ (e : get_or nodes i 0 ≡ get_or nodes (2 * i) 0). crown_leaf width n nodes c gap (2 * i) x (omega arith) (omega arith) (omega arith) (sym e ∙ is))
      (λ (e : get_or nodes i 0 ≡ get_or nodes (2 * i + 1) 0). crown_leaf width n nodes c gap (2 * i + 1) x (omega arith) (omega arith) (omega arith) (sym e ∙ is))
      (c.inner i some low).either)
      (λ (high : ¬ (i < width)).
      let r : i ≡ width + (i - width) = omega arith in
      let there : get_or nodes (width + (i - width)) 0 ≡ suc x = ap (λ (j : ℕ). get_or nodes j 0) (sym r) ∙ is in
      ⊎_elim
      (λ (e : get_or nodes (width + (i - width)) 0 ≡ 0). absurd (omega arith))
      (λ (e : get_or nodes (width + (i - width)) 0 ≡ suc (i - width)). let same : i - width ≡ x = omega arith in subst (IsFreeLeaf width nodes) same (omega arith, e))
      (c.leafed.leaves (i - width) (omega arith)))

  -- The search for the first that is wanted

  pub nothing_below : (width n : ℕ) (nodes : List ℕ) (node : ℕ) (Want : ℕ → Type 0) → Crowned ks width n nodes → 0 < node → get_or nodes node 0 ≡ 0 → FirstBelow ks width nodes node Want 0
  nothing_below width n nodes node Want c some none = record {
    found = λ x e. absurd (omega arith);
    first = λ y k e leaf want. let low = leaf.0 in let b = crown_beats width n nodes c k (width + y) y (omega arith) leaf.1 node some e in let i = b.is in absurd (omega arith);
  }

  pub best_wanted : (width n : ℕ) (nodes : List ℕ) (node : ℕ) (Want : ℕ → Type 0) → Crowned ks width n nodes → 0 < node → node < 2 * width → 0 < get_or nodes node 0 → Want (get_or nodes node 0 - 1) → FirstBelow ks width nodes node Want (get_or nodes node 0)
  best_wanted width n nodes node Want c some inside full wants = record {
    found = λ x e. let same : get_or nodes node 0 - 1 ≡ x = omega arith in (crown_leaf width n nodes c (2 * width) node x (omega arith) some inside e, subst Want same wants);
    first = λ y k e leaf want. let low = leaf.0 in crown_beats width n nodes c k (width + y) y (omega arith) leaf.1 node some e;
  }

  pub leaf_unwanted : (width n : ℕ) (nodes : List ℕ) (node : ℕ) (Want : ℕ → Type 0) → Crowned ks width n nodes → width ≤ node → 0 < node → node < 2 * width → ¬ (Want (get_or nodes node 0 - 1)) → FirstBelow ks width nodes node Want 0
  leaf_unwanted width n nodes node Want c high some inside not = record {
    found = λ x e. absurd (omega arith);
    first = λ y k e leaf want. absurd (not (subst Want (at_leaf y k e leaf) want));
  }
    where
      at_leaf : (y k : ℕ) → half k (width + y) ≡ node → IsFreeLeaf width nodes y → y ≡ get_or nodes node 0 - 1
      at_leaf y zero e leaf = let l = leaf.1 in let m : get_or nodes node 0 ≡ suc y = ap (λ (i : ℕ). get_or nodes i 0) (sym e) ∙ leaf.1 in omega arith
      at_leaf y (suc k) e leaf = let low = leaf.0 in let h = half_le k (width + y) in absurd (omega arith)

  pub join_below : (width n : ℕ) (nodes : List ℕ) (node l r w : ℕ) (Want : ℕ → Type 0) → 0 < node → node < width
      → FirstBelow ks width nodes (2 * node) Want l → FirstBelow ks width nodes (2 * node + 1) Want r → IsWinner ks l r w → FirstBelow ks width nodes node Want w
  join_below width n nodes node l r w Want some low fl fr win = record {
    found = λ x e. ⊎_elim (λ (z : w ≡ l). fl.found x (sym z ∙ e)) (λ (z : w ≡ r). fr.found x (sym z ∙ e)) win.either;
    first = below;
  }
    where
      below : (y k : ℕ) → half k (width + y) ≡ node → IsFreeLeaf width nodes y → Want y → Beats ks w y
      below y zero e leaf want = absurd (omega arith)
      below y (suc k) e leaf want = dite (ℕ_discrete (half k (width + y)) (2 * node))
          (λ (z : half k (width + y) ≡ 2 * node). let b = fl.first y k z leaf want in beats_trans w b.row y (win.left b.row b.is) b.first)
          (λ (z : ¬ (half k (width + y) ≡ 2 * node)). let odd : half k (width + y) ≡ 2 * node + 1 = omega arith in let b = fr.first y k odd leaf want in beats_trans w b.row y (win.right b.row b.is) b.first)

  -- what is found below a node is a row of the tree
  pub below_inside : (width n : ℕ) (nodes : List ℕ) (node w : ℕ) (Want : ℕ → Type 0) → Crowned ks width n nodes → FirstBelow ks width nodes node Want w → w ≤ n
  below_inside width n nodes node zero Want c f = omega arith
  below_inside width n nodes node (suc x) Want c f = let leaf = (f.found x refl).0 in let low = leaf.0 in let is = leaf.1 in let p = c.leafed.inside (width + x) (omega arith) in omega arith

-- The order is the same for the rows of the tree

pub crowned_agree : (ks js : ℕ → Option (List ℕ)) (width n m : ℕ) (nodes : List ℕ) → ((x : ℕ) → x < n → ks x ≡ js x) → n ≤ m → Crowned ks width n nodes → Crowned js width m nodes
crowned_agree ks js width n m nodes same more c = record {
  leafed = record { long = c.leafed.long; inside = λ i l. let p = c.leafed.inside i l in omega arith; leaves = c.leafed.leaves };
  inner = λ i some low. let w = c.inner i some low in record {
    either = w.either;
    left = λ y e. let long = c.leafed.long in let p = c.leafed.inside (2 * i) (omega arith) in beats_as (get_or nodes i 0) y (c.leafed.inside i (omega arith)) (omega arith) (w.left y e);
    right = λ y e. let long = c.leafed.long in let p = c.leafed.inside (2 * i + 1) (omega arith) in beats_as (get_or nodes i 0) y (c.leafed.inside i (omega arith)) (omega arith) (w.right y e);
  };
}
  where
    before_as : (a b : ℕ) → a < n → b < n → before ks a b → before js a b
    before_as a b la lb p = subst (λ (z : Option (List ℕ) × Option (List ℕ)). KeyBefore z.0 z.1 ⊎ ((z.0 ≡ z.1) × (a < b))) (λ i. (same a la i, same b lb i)) p

    beats_as : (w y : ℕ) → w ≤ n → y < n → Beats ks w y → Beats js w y
    beats_as w y lw ly b = record { row = b.row; is = b.is; first = ⊎_elim (λ (e : b.row ≡ y). inl e) (λ (p : before ks b.row y). inr (let i = b.is in before_as b.row y (omega arith) ly p)) b.first }
