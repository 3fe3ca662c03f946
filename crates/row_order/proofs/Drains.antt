-- the available rows, taken out of a tree one by one
use Rattle.std.proofs.Common.{◌≡◌, ◌≢◌, ◌⊎◌, inl, inr, ℕ, ◌+◌, ◌-◌, ◌*◌, ◌<◌, ◌≤◌, Option, List, [], ◌∷◌, ◌++◌, length, get_or, refl, sym, ap, ◌∙◌, subst, ⊎_elim, arith, zero, suc, length-append}
use Rattle.std.proofs.Math.ListN.{get_or-append}
use Rattle.std.proofs.Math.Seq.{get_or-append_seam}
use mathlib.Core.Logic.{dite}
use native.Mathlib.Decide.{ℕ_discrete, dec_lt}
use Rattle.row_order.specs.Order.{before}
use Rattle.row_order.specs.Tree.{Crowned, LeafSet, IsFreeLeaf, Drained}
use Rattle.row_order.proofs.Crowns.{reach_root, crown_beats, crown_leaf}

-- 1 where the word is a row
abbrev pub full : ℕ → ℕ
full zero = 0
full (suc x) = 1

-- how many of the first n leaves are rows
abbrev pub leaves_full : List ℕ → ℕ → ℕ → ℕ
leaves_full nodes width zero = 0
leaves_full nodes width (suc n) = leaves_full nodes width n + full (get_or nodes (width + n) 0)

same_count : (old new : List ℕ) (width row n : ℕ) → LeafSet width old new row 0 → n ≤ row → leaves_full new width n ≡ leaves_full old width n
same_count old new width row zero s l = refl
same_count old new width row (suc n) s l = let r = same_count old new width row n s (omega arith) in let e = ap full (s.others n (λ z. omega arith)) in omega arith

pub less_full : (old new : List ℕ) (width row n : ℕ) → LeafSet width old new row 0 → row < n → get_or old (width + row) 0 ≡ suc row → leaves_full new width n + 1 ≡ leaves_full old width n
less_full old new width row zero s l is = absurd (omega arith)
less_full old new width row (suc n) s l is = dite (ℕ_discrete n row)
    (λ (e : n ≡ row).
    let r = same_count old new width row n s (omega arith) in
    let a : full (get_or new (width + n) 0) ≡ 0 = subst (λ (z : ℕ). full (get_or new (width + z) 0) ≡ 0) (sym e) (ap full s.here) in
    let b : full (get_or old (width + n) 0) ≡ 1 = subst (λ (z : ℕ). full (get_or old (width + z) 0) ≡ 1) (sym e) (ap full is) in
    omega arith)
    (λ (ne : ¬ (n ≡ row)). let r = less_full old new width row n s (omega arith) is in let e = ap full (s.others n ne) in omega arith)

-- where the draining stands: these rows are out, and those are still in the tree
pub record Draining (ks : ℕ → Option (List ℕ)) (width n : ℕ) (old nodes order : List ℕ) : Type 0 where
  pub tree : Crowned ks width n nodes
  pub out : (i : ℕ) → i < length order → IsFreeLeaf width old (get_or order i 0)
  pub left : (r : ℕ) → IsFreeLeaf width nodes r → IsFreeLeaf width old r
  pub whole : (r : ℕ) → IsFreeLeaf width old r → IsFreeLeaf width nodes r ⊎ ((i : ℕ) × (i < length order) × (get_or order i 0 ≡ r))
  pub sorted : (i j : ℕ) → i < j → j < length order → before ks (get_or order i 0) (get_or order j 0)
  pub later : (i r : ℕ) → i < length order → IsFreeLeaf width nodes r → before ks (get_or order i 0) r
  pub few : length order + leaves_full nodes width width ≤ n

module _ (ks : ℕ → Option (List ℕ)) (width n : ℕ) (old : List ℕ) where
  -- no row above those of the tree
  none_above : (nodes : List ℕ) → Crowned ks width n nodes → (r : ℕ) → n ≤ r → r < width → get_or nodes (width + r) 0 ≡ 0
  none_above nodes c r high low = ⊎_elim (λ (e : get_or nodes (width + r) 0 ≡ 0). e) (λ (e : get_or nodes (width + r) 0 ≡ suc r). let p = c.leafed.inside (width + r) (omega arith) in absurd (omega arith)) (c.leafed.leaves r low)

  few_leaves : (nodes : List ℕ) → Crowned ks width n nodes → (m : ℕ) → m ≤ width → leaves_full nodes width m ≤ n
  few_leaves nodes c m low = counts nodes m (λ r high under. none_above nodes c r high (omega arith))
    where
      full_le : (w : ℕ) → full w ≤ 1
      full_le zero = omega arith
      full_le (suc x) = omega arith

      count_le : (nodes : List ℕ) (m : ℕ) → leaves_full nodes width m ≤ m
      count_le nodes zero = omega arith
      count_le nodes (suc m) = let r = count_le nodes m in let o = full_le (get_or nodes (width + m) 0) in omega arith

      counts : (nodes : List ℕ) (m : ℕ) → ((r : ℕ) → n ≤ r → r < m → get_or nodes (width + r) 0 ≡ 0) → leaves_full nodes width m ≤ n
      counts nodes zero none = omega arith
      counts nodes (suc m) none = dite (dec_lt m n)
          (λ (l : m < n). let h = count_le nodes m in let o = full_le (get_or nodes (width + m) 0) in omega arith)
          (λ (off : ¬ (m < n)). let r = counts nodes m (λ x high under. none x high (omega arith)) in let z : full (get_or nodes (width + m) 0) ≡ 0 = ap full (none m (omega arith) (omega arith)) in omega arith)

  pub drain_begins : Crowned ks width n old → Draining ks width n old old []
  drain_begins c = record {
    tree = c;
    out = λ i l. absurd (omega arith);
    left = λ r f. f;
    whole = λ r f. inl f;
    sorted = λ i j l m. absurd (omega arith);
    later = λ i r l f. absurd (omega arith);
    few = (let f = few_leaves old c width (omega arith) in omega arith);
  }

  -- the root is out
  pub drain_step : (nodes new order : List ℕ) (row : ℕ) → Draining ks width n old nodes order → 0 < width → get_or nodes 1 0 ≡ suc row → Crowned ks width n new → LeafSet width nodes new row 0
      → Draining ks width n old new (order ++ row ∷ []) × (leaves_full new width width < leaves_full nodes width width)
  drain_step nodes new order row d wide root tree leaf =
      let free = crown_leaf ks width n nodes d.tree (2 * width) 1 row (omega arith) (omega arith) (omega arith) root in
      let less = less_full nodes new width row width leaf free.0 free.1 in
      let long = length-append order (row ∷ []) in
      let last : get_or (order ++ row ∷ []) (length order) 0 ≡ row = get_or-append_seam order row [] 0 in
      let same : (i : ℕ) → i < length order → get_or (order ++ row ∷ []) i 0 ≡ get_or order i 0 = λ i l. get_or-append order (row ∷ []) 0 i l in
      let was : (r : ℕ) → IsFreeLeaf width new r → (r ≢ row) × IsFreeLeaf width nodes r = λ r f. (
        (λ e. let z = ap (λ (m : ℕ). get_or new (width + m) 0) e in let f1 = f.1 in let h = leaf.here in absurd (omega arith)),
        dite (ℕ_discrete r row)
            (λ (e : r ≡ row). let z = ap (λ (m : ℕ). get_or new (width + m) 0) e in let f1 = f.1 in let h = leaf.here in absurd (omega arith))
            (λ (ne : ¬ (r ≡ row)). (f.0, sym (leaf.others r ne) ∙ f.1)),
      ) in
      let beats : (r : ℕ) → IsFreeLeaf width nodes r → r ≢ row → before ks row r = λ r f ne.
      (let low = f.0 in
      let up = reach_root (width + r) (width + r) (omega arith) (omega arith) in
      let b = crown_beats ks width n nodes d.tree up.0 (width + r) r (omega arith) f.1 1 (omega arith) up.1 in
      let i = b.is in
      let one : b.row ≡ row = omega arith in
      ⊎_elim (λ (e : b.row ≡ r). absurd (ne (omega arith))) (λ (p : before ks b.row r). subst (λ (z : ℕ). before ks z r) one p) b.first) in (
        record {
          tree = tree;
          out = λ i l. dite (ℕ_discrete i (length order))
              (λ (e : i ≡ length order). subst (IsFreeLeaf width old) (sym (ap (λ (z : ℕ). get_or (order ++ row ∷ []) z 0) e ∙ last)) (d.left row free))
              (λ (ne : ¬ (i ≡ length order)). subst (IsFreeLeaf width old) (sym (same i (omega arith))) (d.out i (omega arith)));
          left = λ r f. d.left r (was r f).1;
          whole = λ r f. ⊎_elim
              (λ (g : IsFreeLeaf width nodes r). dite (ℕ_discrete r row)
              (λ (e : r ≡ row). inr (length order, omega arith, last ∙ sym e))
              (λ (ne : ¬ (r ≡ row)). inl (g.0, leaf.others r ne ∙ g.1)))
              (λ (g : (i : ℕ) × (i < length order) × (get_or order i 0 ≡ r)). let gl = g.1 in inr (g.0, omega arith, same g.0 g.1 ∙ g.2))
              (d.whole r f);
          sorted = λ i j l m. dite (ℕ_discrete j (length order))
              (λ (e : j ≡ length order). subst (λ (z : ℕ × ℕ). before ks z.0 z.1) (λ t. (sym (same i (omega arith)) t, sym (ap (λ (z : ℕ). get_or (order ++ row ∷ []) z 0) e ∙ last) t)) (d.later i row (omega arith) free))
              (λ (ne : ¬ (j ≡ length order)). subst (λ (z : ℕ × ℕ). before ks z.0 z.1) (λ t. (sym (same i (omega arith)) t, sym (same j (omega arith)) t)) (d.sorted i j l (omega arith)));
          later = λ i r l f. let w = was r f in dite (ℕ_discrete i (length order))
              (λ (e : i ≡ length order). subst (λ (z : ℕ). before ks z r) (sym (ap (λ (z : ℕ). get_or (order ++ row ∷ []) z 0) e ∙ last)) (beats r w.1 w.0))
              (λ (ne : ¬ (i ≡ length order)). subst (λ (z : ℕ). before ks z r) (sym (same i (omega arith))) (d.later i r (omega arith) w.1));
          few = (let m = d.few in omega arith);
        },
        omega arith,
      )

  -- the row that goes out, and the room for it
  pub drain_room : (nodes order : List ℕ) → Draining ks width n old nodes order → 0 < width → 0 < get_or nodes 1 0 → (get_or nodes 1 0 - 1 < width) × (get_or nodes 1 0 - 1 < n) × (length order < n)
  drain_room nodes order d wide some =
      let free = crown_leaf ks width n nodes d.tree (2 * width) 1 (get_or nodes 1 0 - 1) (omega arith) (omega arith) (omega arith) (omega arith) in
      let low = free.0 in let is = free.1 in
      let inside = d.tree.leafed.inside 1 (omega arith) in
      let counted = has_full nodes width (get_or nodes 1 0 - 1) low is in
      let few = d.few in
      (low, omega arith, omega arith)
    where
      has_full : (nodes : List ℕ) (m row : ℕ) → row < m → get_or nodes (width + row) 0 ≡ suc row → 0 < leaves_full nodes width m
      has_full nodes zero row l is = absurd (omega arith)
      has_full nodes (suc m) row l is = dite (ℕ_discrete m row)
          (λ (e : m ≡ row). let b : full (get_or nodes (width + m) 0) ≡ 1 = subst (λ (z : ℕ). full (get_or nodes (width + z) 0) ≡ 1) (sym e) (ap full is) in omega arith)
          (λ (ne : ¬ (m ≡ row)). let r = has_full nodes m row (omega arith) is in omega arith)

  -- all are out
  pub drain_ends : (nodes order : List ℕ) → Draining ks width n old nodes order → get_or nodes 1 0 ≡ 0 → Drained ks width old order
  drain_ends nodes order d none = record {
    each = d.out;
    whole = λ r f. ⊎_elim
        (λ (g : IsFreeLeaf width nodes r).
        let low = g.0 in
        let up = reach_root (width + r) (width + r) (omega arith) (omega arith) in
        let b = crown_beats ks width n nodes d.tree up.0 (width + r) r (omega arith) g.1 1 (omega arith) up.1 in
        let i = b.is in absurd (omega arith))
        (λ (g : (i : ℕ) × (i < length order) × (get_or order i 0 ≡ r)). g)
        (d.whole r f);
    sorted = d.sorted;
  }

pub no_items : (xs : List ℕ) → length xs ≡ 0 → xs ≡ []
no_items [] e = refl
no_items (x ∷ xs) e = absurd (omega arith)
