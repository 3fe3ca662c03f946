-- the rows that are not deleted get their leaves, and are gathered in order
use Rattle.std.proofs.Common.{◌≡◌, ◌≢◌, ◌⊎◌, ◌↔◌, inl, inr, ℕ, ◌+◌, ◌-◌, ◌*◌, ◌<◌, ◌≤◌, Bool, true, false, Option, Some, None, List, [], ◌∷◌, ◌++◌, length, map, get_or, set, refl, sym, ap, ◌∙◌, subst, ⊎_elim, arith, zero, suc, length-append, eqb, eqb-true, ne_eqb}
use Rattle.std.specs.Option.{option_map}
use Rattle.std.specs.List.{AllByRecursion}
use Rattle.std.proofs.lemmas.List.{length-set, get_or-set_same, get_or-set_other, get_or-map}
use Rattle.std.proofs.lemmas.Map.Steps.{length-le_from_distinct_below}
use Rattle.std.proofs.lemmas.Map.Keys.{IsDistinct-from_apart}
use Rattle.std.proofs.lemmas.Map.Views.{Contains-from_any}
use mathlib.Core.Logic.{dite}
use native.Mathlib.Decide.{ℕ_discrete, dec_lt}
use Rattle.queue_model.specs.declared.queues.Depth.{Depth}
use Rattle.queue_model.specs.declared.rows.RowState.{RowState}
use Rattle.queue_model.specs.declared.rows.RowState.TheVariants.{Available, Locked, Unlocked, Dequeued, Deleted}
use Rattle.queue_model.specs.declared.rows.Slip.{Slip}
use Rattle.row_order.specs.declared.slots.Slot.{Slot}
use Rattle.row_order.specs.Order.{ranks, before}
use Rattle.row_order.specs.Tree.{Leafed, Crowned, SameLeaves, IsFreeLeaf, Drained}
use Rattle.row_order.proofs.Keys.{before_not}
use Rattle.acts_core.specs.Kept.{Kept, KeptRow, at_home}
use Rattle.acts_core.specs.Load.{Load}
use Rattle.acts_core.specs.Rest.{Left, left_of, Rests, AtRest}
use Rattle.acts_core.specs.declared.cargoes.RestEntry.{RestEntry}
use Rattle.kept_rows.specs.Rows.{no_row, kept_at, rank_at, Comes, CameOut, Fitting}
use Rattle.kept_rows.specs.Keeping.{slot_kept, kept_of, Carries, AllCarry, Awake, Lives, LiveNames, Ready}
use Rattle.kept_rows.specs.Resting.{IsLeftAt, IsLiveAt, Gathered, RestsOf}
use Rattle.kept_rows.proofs.Keeping.{get_or_any, some_item, read_push, kept_length, kept_read, kept_ranks, came_out}

-- Leaves

pub live_names : (s : RowState) (r word : ℕ) → LiveNames s r word → (word ≡ suc r) ↔ (s ≢ Deleted)
live_names s r word n = (
  (λ e gone. let z = n.none gone in absurd (omega arith)),
  (λ off. n.here off),
)

pub live_word_is : (s : RowState) (r word : ℕ) → LiveNames s r word → (word ≡ 0) ⊎ (word ≡ suc r)
live_word_is Available r word n = inr (n.here (λ x. absurd (cc)))
live_word_is (Locked h) r word n = inr (n.here (λ x. absurd (cc)))
live_word_is (Unlocked h) r word n = inr (n.here (λ x. absurd (cc)))
live_word_is Dequeued r word n = inr (n.here (λ x. absurd (cc)))
live_word_is Deleted r word n = inl (n.none refl)

-- one leaf is set
pub leafed_leaf : (width n r word : ℕ) (nodes : List ℕ) → Leafed width n nodes → r < width → r < n → (word ≡ 0) ⊎ (word ≡ suc r) → Leafed width n (set nodes (width + r) word)
leafed_leaf width n r word nodes l low fits is =
    let small : word ≤ n = ⊎_elim (λ (e : word ≡ 0). omega arith) (λ (e : word ≡ suc r). omega arith) is in
    let long = l.long in record {
      long = length-set nodes (width + r) word ∙ l.long;
      inside = λ i m. dite (ℕ_discrete i (width + r))
          (λ (e : i ≡ width + r). let s = get_or-set_same nodes (width + r) word 0 (omega arith) in subst (λ (j : ℕ). get_or (set nodes (width + r) word) j 0 ≤ n) (sym e) (omega arith))
          (λ (ne : ¬ (i ≡ width + r)). let s = get_or-set_other nodes (width + r) i word 0 ne in let p = l.inside i m in omega arith);
      leaves = λ x m. dite (ℕ_discrete x r)
          (λ (e : x ≡ r). subst (λ (j : ℕ). (get_or (set nodes (width + r) word) (width + j) 0 ≡ 0) ⊎ (get_or (set nodes (width + r) word) (width + j) 0 ≡ suc j)) (sym e)
          (subst (λ (z : ℕ). (z ≡ 0) ⊎ (z ≡ suc r)) (sym (get_or-set_same nodes (width + r) word 0 (omega arith))) is))
          (λ (ne : ¬ (x ≡ r)). subst (λ (z : ℕ). (z ≡ 0) ⊎ (z ≡ suc x)) (sym (get_or-set_other nodes (width + r) (width + x) word 0 (λ z. ne (omega arith)))) (l.leaves x m));
    }

-- numbers below n, no two of them equal, are at most n
pub few_apart : (n : ℕ) (xs : List ℕ) → ((i : ℕ) → i < length xs → get_or xs i 0 < n) → ((i j : ℕ) → i < j → j < length xs → get_or xs i 0 ≢ get_or xs j 0) → length xs ≤ n
few_apart n xs inside apart = length-le_from_distinct_below xs n
    (IsDistinct-from_apart eqb xs (λ i j d less l. ne_eqb (get_or xs i d) (get_or xs j d) (λ e. apart i j less l (get_or_any xs i 0 d (omega arith) ∙ (e ∙ get_or_any xs j d 0 l)))))
    (λ q found. let w = Contains-from_any (λ x y e. eqb-true x y e) q xs found in subst (λ (z : ℕ). z < n) (get_or_any xs w.0 0 q w.1 ∙ w.2) (inside w.0 w.1))

module _ {C : Type 0} where
  pub awake_more : (slots : List (Slot C)) (width n word : ℕ) (nodes : List ℕ) (d : Slot C) → Awake slots width n nodes → n < length slots → width + n < length nodes → d ≡ get_or slots n d → LiveNames d.state n word → Awake slots width (n + 1) (set nodes (width + n) word)
  awake_more slots width n word nodes d a l inside at names r s m is = dite (ℕ_discrete r n)
      (λ (e : r ≡ n).
      let same : s ≡ d = is ∙ (ap (λ (z : ℕ). get_or slots z s) e ∙ (get_or_any slots n s d l ∙ sym at)) in
      let w : get_or (set nodes (width + n) word) (width + r) 0 ≡ word = ap (λ (z : ℕ). get_or (set nodes (width + n) word) (width + z) 0) e ∙ get_or-set_same nodes (width + n) word 0 inside in
      let v = live_names d.state n word names in
      ((λ b. subst (λ (z : Slot C). z.state ≢ Deleted) (sym same) (v.0 (sym w ∙ (b ∙ ap suc e)))), (λ off. w ∙ (v.1 (subst (λ (z : Slot C). z.state ≢ Deleted) same off) ∙ ap suc (sym e)))))
      (λ (ne : ¬ (r ≡ n)).
      let old = a r s (omega arith) is in
      let w = get_or-set_other nodes (width + n) (width + r) word 0 (λ z. ne (omega arith)) in
      ((λ b. old.0 (sym w ∙ b)), (λ off. w ∙ old.1 off)))

-- Gathering

module _ {C : Type 0} (load : C → Load) where
  -- the entry of a row
  pub left_at : (slots : List (Slot C)) (d : Depth) (spare r : ℕ) (s : Slot C) (e : RestEntry C) (marks : ℕ → Bool) → r < length slots → s ≡ get_or slots r s → Carries load s → e.slip ≡ s.slip → e.state ≡ s.state → e.outdated ≡ marks r → s.cargo ≡ Some e.cargo
      → IsLeftAt (kept_of load slots d spare) marks (left_of load e) r
  left_at slots d spare r s e marks l at carries slip state outdated cargo =
      let kept : kept_at (kept_of load slots d spare) r ≡ slot_kept load s = kept_read load slots d spare r s l ∙ ap (slot_kept load) (sym at) in record {
        slip = slip ∙ ap (λ (x : KeptRow). x.slip) (sym kept);
        state = state ∙ ap (λ (x : KeptRow). x.state) (sym kept);
        outdated = outdated;
        load = subst (λ (o : Option C). CameOut (kept_at (kept_of load slots d spare) r) (option_map load o)) cargo
            (subst (λ (x : KeptRow). CameOut x (option_map load s.cargo)) (sym kept) (came s.slip s.state s.cargo carries));
      }
    where
      came : (slip : Slip) (state : RowState) (o : Option C) → Carries load (record { slip = slip; state = state; cargo = o }) → CameOut (slot_kept load (record { slip = slip; state = state; cargo = o })) (option_map load o)
      came slip state None f = f
      came slip state (Some c) f = (f.1, f.2, refl)

  pub gathered_none : (k : Kept) (marks : ℕ → Bool) (order : List ℕ) (es : List (RestEntry C)) → es ≡ [] → Gathered load k marks order 0 es
  gathered_none k marks order es none = record { long = ap (λ (l : List (RestEntry C)). length l) none; each = λ i e l. absurd (omega arith) }

  pub gathered_more : (k : Kept) (marks : ℕ → Bool) (order : List ℕ) (n : ℕ) (es : List (RestEntry C)) (e : RestEntry C) → Gathered load k marks order n es → IsLeftAt k marks (left_of load e) (get_or order n 0) → Gathered load k marks order (n + 1) (es ++ e ∷ [])
  gathered_more k marks order n es e g is = record {
    long = (let a = length-append es (e ∷ []) in let b = g.long in omega arith);
    each = λ i f l at. ⊎_elim
        (λ (z : (i < length es) × (f ≡ get_or es i f)). g.each i f (let b = g.long in let m = z.0 in omega arith) z.1)
        (λ (z : (i ≡ length es) × (f ≡ e)). subst (λ (w : RestEntry C × ℕ). IsLeftAt k marks (left_of load w.0) (get_or order w.1 0)) (λ t. (sym z.1 t, (sym g.long ∙ sym z.0) t)) is)
        (read_push es e f i at (let a = length-append es (e ∷ []) in let b = g.long in omega arith));
  }

  pub full_slot : (s : Slot C) → Carries load s → at_home s.state ≡ true → s.cargo ≢ None
  full_slot s c h none =
      let f : at_home s.state ≡ false = subst (λ (o : Option C). Fitting s.slip s.state (option_map load o)) none c in
      let bad : true ≡ false = sym h ∙ f in
      absurd (cc)

  -- What is left

  module _ (b : Bool) (slots : List (Slot C)) (d : Depth) (spare : ℕ) (order : List ℕ) (lives : Lives (ranks b slots) slots order) where
    rest_at : (xs : List KeptRow) (r : ℕ) → r < length xs → AllByRecursion (λ (x : KeptRow). Rests x.state) xs → Rests (get_or xs r no_row).state
    rest_at [] r l all = absurd (omega arith)
    rest_at (x ∷ xs) zero l all = all.0
    rest_at (x ∷ xs) (suc r) l all = rest_at xs r (omega arith) all.1

    home : (s : RowState) → Rests s → s ≢ Deleted → at_home s ≡ true
    home Available r off = refl
    home (Locked h) r off = absurd r
    home (Unlocked h) r off = refl
    home Dequeued r off = absurd r
    home Deleted r off = absurd (off refl)

    pub ready_at : AllCarry load slots → AtRest (kept_of load slots d spare) → (i : ℕ) → i < length order → Ready load slots (get_or order i 0)
    ready_at carry rests i l =
        let r : ℕ = get_or order i 0 in
        let inside = lives.inside i l in record {
          inside = inside;
          carries = λ s at. carry (get_or order i 0) s inside at;
          home = λ s at.
              let state : (get_or (map (slot_kept load) slots) (get_or order i 0) no_row).state ≡ s.state = ap (λ (x : KeptRow). x.state) (kept_read load slots d spare (get_or order i 0) s inside) ∙ ap (λ (x : Slot C). x.state) (sym at) in
              home s.state (subst Rests state (rest_at (map (slot_kept load) slots) (get_or order i 0) (let n = kept_length load slots d spare in omega arith) rests)) (lives.each i s l at);
        }

    pub apart_order : (i j : ℕ) → i < j → j < length order → get_or order i 0 ≢ get_or order j 0
    apart_order i j less l same = before_not (ranks b slots) (get_or order j 0) (subst (λ (z : ℕ). before (ranks b slots) z (get_or order j 0)) same (lives.sorted i j less l))

    pub rests_of : (marks : ℕ → Bool) (es : List (RestEntry C)) → Gathered load (kept_of load slots d spare) marks order (length order) es → RestsOf b (kept_of load slots d spare) marks (map (left_of load) es)
    rests_of marks es g = record {
      rows = order;
      long = map_long es ∙ g.long;
      left = λ i e l at.
          let x = some_item es i (let n = g.long in omega arith) in
          let same : e ≡ left_of load x.0 = at ∙ (get_or-map (left_of load) es i x.0 e (let n = g.long in omega arith) ∙ ap (left_of load) (sym x.1)) in
          subst (λ (z : Left). IsLeftAt (kept_of load slots d spare) marks z (get_or order i 0)) (sym same) (g.each i x.0 l x.1);
      each = λ i l.
          let inside = lives.inside i l in
          let s = some_item slots (get_or order i 0) inside in record {
            inside = (let n = kept_length load slots d spare in omega arith);
            live = λ gone. lives.each i s.0 l s.1 (ap (λ (x : Slot C). x.state) s.1 ∙ (ap (λ (x : KeptRow). x.state) (sym (kept_read load slots d spare (get_or order i 0) s.0 inside)) ∙ gone));
          };
      whole = λ r is.
          let l : r < length slots = (let n = kept_length load slots d spare in let m = is.inside in omega arith) in
          let s = some_item slots r l in
          lives.whole r s.0 l s.1 (λ gone. is.live (ap (λ (x : KeptRow). x.state) (kept_read load slots d spare r s.0 l) ∙ (ap (λ (x : Slot C). x.state) (sym s.1) ∙ gone)));
      ordered = λ i j less l. subst (λ (z : ℕ → Option (List ℕ)). before z (get_or order i 0) (get_or order j 0)) (kept_ranks load b slots d spare) (lives.sorted i j less l);
    }
      where
        map_long : (xs : List (RestEntry C)) → length (map (left_of load) xs) ≡ length xs
        map_long [] = refl
        map_long (x ∷ xs) = ap suc (map_long xs)

-- what is drained of a tree in which each live row has its leaf
pub lives_of : {C : Type 0} (ks : ℕ → Option (List ℕ)) (slots : List (Slot C)) (width : ℕ) (nodes order : List ℕ) → length slots ≤ width → Crowned ks width (length slots) nodes → Awake slots width (length slots) nodes → Drained ks width nodes order → Lives ks slots order
lives_of ks slots width nodes order wide c awake dr = record {
  inside = λ i l. inside (get_or order i 0) (dr.each i l);
  each = λ i s l at. (awake (get_or order i 0) s (inside (get_or order i 0) (dr.each i l)) at).0 (dr.each i l).1;
  whole = λ r s l at live. dr.whole r (omega arith, (awake r s l at).1 live);
  sorted = dr.sorted;
}
  where
    inside : (r : ℕ) → IsFreeLeaf width nodes r → r < length slots
    inside r leaf = let low = leaf.0 in let is = leaf.1 in let fits = c.leafed.inside (width + r) (omega arith) in omega arith

-- the leaves of a tree as those of another that has the same
pub awake_same : {C : Type 0} (slots : List (Slot C)) (width n : ℕ) (old new : List ℕ) → SameLeaves width old new → Awake slots width n old → Awake slots width n new
awake_same slots width n old new same a r s l at =
    let w = same (width + r) (omega arith) in
    let o = a r s l at in
    ((λ e. o.0 (sym w ∙ e)), (λ off. w ∙ o.1 off))
