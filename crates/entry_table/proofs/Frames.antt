-- what a step of one seat leaves of the rule for the others
use Rattle.std.proofs.Common.{true, ◌≡◌, ◌≢◌, ℕ, zero, suc, ◌+◌, ◌<◌, ◌≤◌, List, [], ◌∷◌, ◌++◌, length, set, Option, Some, None, find, refl, sym, ap, ◌∙◌, subst, ⊎_elim, arith, append-nil, length-set, inl, inr}
use Rattle.std.specs.Prelude.{slice_index}
use Rattle.std.specs.List.{sum_by}
use Rattle.std.proofs.lemmas.Bool.{cases_eq}
use Rattle.std.proofs.lemmas.List.Elements.{filter-append}
use Rattle.std.proofs.lemmas.List.Sums.{sum_by-cons}
use mathlib.Core.Option.{some, none}
use mathlib.Core.Option as maybe
use mathlib.Core.List.{IsPrefix}
use lib.ListN.{get_elem?}
use Rattle.atomic_table.proofs.Lists.{at_set, set_else}
use Rattle.queue_model.specs.declared.deeds.Deed.{Deed}
use Rattle.queue_model.specs.declared.queues.Queue.{Queue}
use Rattle.queue_model.specs.declared.rows.RowState.TheVariants.{Locked}
use Rattle.queue_model.specs.declared.steps.DraftWord.{DraftWord}
use Rattle.queue_model.specs.History.{after, Legal, own}
use Rattle.queue_model.specs.State.{IsIn}
use Rattle.link_core.specs.Layout.{draft_of}
use Rattle.queue_model.proofs.Histories.{own-append}
use Rattle.queue_model.proofs.Prefixes.{prefix_more, prefix_trans}
use Rattle.queue_model.proofs.Stable.{held_stays}
use Rattle.entry_table.specs.declared.view.Drawing.{Drawing}
use Rattle.entry_table.specs.declared.view.Shape.{Shape}
use Rattle.entry_table.specs.declared.view.View.{View}
use Rattle.entry_table.specs.Views.{Has, caller_of, is_drawing, drawing_at, is_take_of, takes_of}
use Rattle.entry_table.specs.Rule.{Knows, Serves, Tells, Drafted, Reaches, Takes, Holds, Alone, Counts, Each}

-- Views

-- a fact of each view, after one has changed
pub views_set : {V : Type 0} (P : ℕ → V → Type 0) (views : List V) (id : ℕ) (w : V) → ((j : ℕ) (u : V) → j ≢ id → get_elem? views j ≡ some u → P j u) → P id w → Each P (set views id w)
views_set {V} P views id w others mine j u e = ⊎_elim
    (λ (x : (j ≡ id) × (w ≡ u)). subst (λ (y : ℕ × V). P y.0 y.1) (λ i. (sym x.0 i, x.1 i)) mine)
    (λ (x : (j ≢ id) × (get_elem? views j ≡ some u)). others j u x.0 x.1)
    (at_set views id j w u e)

pub set_at : {V : Type 0} (views : List V) (id : ℕ) (v w : V) → get_elem? views id ≡ some v → get_elem? (set views id w) id ≡ some w
set_at [] id v w e = absurd (cc)
set_at (x ∷ xs) zero v w e = refl
set_at (x ∷ xs) (suc id) v w e = set_at xs id v w e

pub at_less : {V : Type 0} (l : List V) (i : ℕ) (v : V) → get_elem? l i ≡ some v → i < length l
at_less [] i v e = absurd (cc)
at_less (x ∷ xs) zero v e = omega arith
at_less (x ∷ xs) (suc i) v e = let r = at_less xs i v e in omega arith

-- two views of one seat are one
pub same_view : {V : Type 0} (views : List V) (i j : ℕ) (v u : V) → get_elem? views i ≡ some v → get_elem? views j ≡ some u → i ≡ j → v ≡ u
same_view views i j v u a b e = let c : some v ≡ some u = sym a ∙ ap (get_elem? views) e ∙ b in cc

-- a sum over all views, after one has changed
pub sum_views : {V : Type 0} (f : V → ℕ) (views : List V) (id : ℕ) (v w : V) → get_elem? views id ≡ some v → sum_by f (set views id w) + f v ≡ sum_by f views + f w
sum_views f [] id v w e = absurd (cc)
sum_views f (x ∷ xs) zero v w e = let is : x ≡ v = cc in let g = ap f is in omega (arith, sum_by-cons f x xs, sum_by-cons f w xs)
sum_views f (x ∷ xs) (suc id) v w e = let r = sum_views f xs id v w e in omega (arith, sum_by-cons f x xs, sum_by-cons f x (set xs id w))

pub in_sum : {V : Type 0} (f : V → ℕ) (views : List V) (id : ℕ) (v : V) → get_elem? views id ≡ some v → f v ≤ sum_by f views
in_sum f [] id v e = absurd (cc)
in_sum f (x ∷ xs) zero v e = let is : x ≡ v = cc in let g = ap f is in omega (arith, sum_by-cons f x xs)
in_sum f (x ∷ xs) (suc id) v e = let r = in_sum f xs id v e in omega (arith, sum_by-cons f x xs)

-- Histories

-- what a view has seen of the deeds of one kind is all of them, after deeds that are not of the kind
pub nothing_more : (H ds seen : List Deed) (part : List Deed → List Deed) → ((xs ys : List Deed) → part (xs ++ ys) ≡ part xs ++ part ys) → part ds ≡ [] → part H ≡ part seen → part (H ++ ds) ≡ part seen
nothing_more H ds seen part append idle same = append H ds ∙ ap (λ (l : List Deed). part H ++ l) idle ∙ append-nil (part H) ∙ same

module _ (shape : Shape) (O : Queue) (H ds : List Deed) (seats : ℕ → ℕ) (callers : ℕ) where
  knows_on : (j : ℕ) (u : View) → ((k : ℕ) → seats k ≡ j → own k ds ≡ []) → Knows shape O H seats callers j u → Knows shape O (H ++ ds) seats callers j u
  knows_on j u idle k = record {
    prefix = prefix_trans u.seen H (H ++ ds) k.prefix (prefix_more H ds);
    opens = k.opens;
    mine = λ c has. let m = k.mine c has in (m.0, m.1, nothing_more H ds u.seen (own c) (own-append c) (idle c m.0) m.2);
  }

  -- the seat itself has seen all of its own, and speaks for the same callers
  pub knows_set : (views : List View) (id : ℕ) (v w : View) → get_elem? views id ≡ some v → ((k : ℕ) → seats k ≢ id → own k ds ≡ []) → IsPrefix w.seen (H ++ ds) → ((k : ℕ) → Has k v.callers → own k (H ++ ds) ≡ own k w.seen) → w.callers ≡ v.callers → w.opening ≡ v.opening → w.shape ≡ v.shape
      → Each (Knows shape O H seats callers) views → Each (Knows shape O (H ++ ds) seats callers) (set views id w)
  knows_set views id v w at idle prefix all same opened shaped each = views_set (Knows shape O (H ++ ds) seats callers) views id w
      (λ j u apart e. knows_on j u (λ k is. idle k (λ (z : seats k ≡ id). apart (sym is ∙ z))) (each j u e))
      (record {
        prefix = prefix;
        opens = λ k has. let o = (each id v at).opens k (subst (Has k) same has) in (opened ∙ o.0, shaped ∙ o.1);
        mine = λ k has. let old = subst (Has k) same has in let m = (each id v at).mine k old in (m.0, m.1, all k old);
      })

pub takes-append : (c : ℕ) (xs ys : List Deed) → takes_of c (xs ++ ys) ≡ takes_of c xs ++ takes_of c ys
takes-append c xs ys = filter-append (is_take_of c) xs ys

pub serves_set : (H ds : List Deed) (owners : ℕ → ℕ) (consumers : ℕ) (views : List View) (id : ℕ) (v w : View) → get_elem? views id ≡ some v → ((c : ℕ) → owners c ≢ id → takes_of c ds ≡ []) → ((c : ℕ) → Has c v.consumers → takes_of c (H ++ ds) ≡ takes_of c w.seen) → w.consumers ≡ v.consumers
    → Each (Serves H owners consumers) views → Each (Serves (H ++ ds) owners consumers) (set views id w)
serves_set H ds owners consumers views id v w at idle all same each = views_set (Serves (H ++ ds) owners consumers) views id w
    (λ j u apart e c has. let m = each j u e c has in (m.0, m.1, nothing_more H ds u.seen (takes_of c) (takes-append c) (idle c (λ (z : owners c ≡ id). apart (sym m.0 ∙ z))) m.2))
    (λ c has. let old = subst (Has c) same has in let m = each id v at c old in (m.0, m.1, all c old))

-- what joined passes had seen, after a step of one seat, which keeps nothing of it for itself
pub tells_set : (shape : Shape) (O : Queue) (H ds : List Deed) (seats owners : ℕ → ℕ) (callers consumers : ℕ) (views : List View) (id : ℕ) (w : View) → ((k : ℕ) → seats k ≢ id → own k ds ≡ []) → ((c : ℕ) → owners c ≢ id → takes_of c ds ≡ [])
    → Each (Knows shape O H seats callers) views → Each (Serves H owners consumers) views → w.told ≡ [] → Each (Tells H) views → Each (Tells (H ++ ds)) (set views id w)
tells_set shape O H ds seats owners callers consumers views id w idle silent knows serves untold each = views_set (Tells (H ++ ds)) views id w
    (λ j u apart e t has.
    let x = each j u e t has in
    record {
      prefix = prefix_trans t.seen H (H ++ ds) x.prefix (prefix_more H ds);
      callers = λ k mine. let y = x.callers k mine in (y.0, nothing_more H ds t.seen (own k) (own-append k) (idle k (λ (z : seats k ≡ id). apart (sym ((knows j u e).mine k y.0).0 ∙ z))) y.1);
      consumers = λ c mine. let y = x.consumers c mine in (y.0, nothing_more H ds t.seen (takes_of c) (takes-append c) (silent c (λ (z : owners c ≡ id). apart (sym (serves j u e c y.0).0 ∙ z))) y.1);
    })
    (λ t has. absurd (subst (Has t) untold has))

-- Drafts

-- the words of drafts are written by their drawers alone: other words may change
pub drafts_set : (rows : ℕ) (words words' : List ℕ) (drawer : ℕ → Option ℕ) (views : List View) (id : ℕ) (v w : View) → get_elem? views id ≡ some v → ((r h : ℕ) → drawer r ≡ Some h → r < rows) → ((r : ℕ) (x : DraftWord) → r < rows → slice_index words' (draft_of r x) ≡ slice_index words (draft_of r x)) → w.drawn ≡ v.drawn → w.callers ≡ v.callers
    → Each (Drafted words drawer) views → Each (Drafted words' drawer) (set views id w)
drafts_set rows words words' drawer views id v w at low off same callers each = views_set (Drafted words' drawer) views id w
    (λ j u ne e r d found. let t = each j u e r d found in record { mine = t.mine; drew = t.drew; written = λ x. off r x (low r (caller_of u.callers) t.drew) ∙ t.written x })
    (λ r d found.
    let t = each id v at r d (subst (λ (l : List Drawing). find (is_drawing r) l ≡ Some d) same found) in
    record {
      mine = subst (λ (l : List ℕ). Has (caller_of l) l) (sym callers) t.mine;
      drew = t.drew ∙ ap (λ (l : List ℕ). Some (caller_of l)) (sym callers);
      written = λ x. off r x (low r (caller_of v.callers) t.drew) ∙ t.written x;
    })

-- the rows drawn are no fewer
pub reaches_set : (top top' : ℕ) (views : List View) (id : ℕ) (w : View) → top ≤ top' → w.reached ≤ top' → Each (Reaches top) views → Each (Reaches top') (set views id w)
reaches_set top top' views id w more mine each = views_set (Reaches top') views id w (λ j u ne e. let low : u.reached ≤ top = each j u e in omega (arith, low, more)) mine

-- Slots

pub takes_set : {S : Type 0} (homes : List (maybe.Option S)) (outs : ℕ → ℕ) (views : List View) (id : ℕ) (v w : View) → get_elem? views id ≡ some v → w.slot ≡ v.slot → Each (Takes homes outs) views → Each (Takes homes outs) (set views id w)
takes_set homes outs views id v w at same each = views_set (Takes homes outs) views id w (λ j u apart e. each j u e) (λ r e. each id v at r (sym same ∙ e))

-- who has a slot still has it
pub away_set : (views : List View) (id : ℕ) (v w : View) (j : ℕ) (r : ℕ) → get_elem? views id ≡ some v → w.slot ≡ v.slot → (u : View) × (get_elem? views j ≡ some u) × (u.slot ≡ Some r) → (u : View) × (get_elem? (set views id w) j ≡ some u) × (u.slot ≡ Some r)
away_set views id v w j r at same t = ⊎_elim
    (λ (hit : j ≡ id). (w, subst (λ (k : ℕ). get_elem? (set views id w) k ≡ some w) (sym hit) (set_at views id v w at), same ∙ ap (λ (x : View). x.slot) (same_view views id j v t.0 at t.1 (sym hit)) ∙ t.2))
    (λ (miss : j ≢ id). (t.0, set_else views id j w miss ∙ t.1, t.2))
    (cases_eq j id)

-- other seats hold what they held
pub holds_set : (shape : Shape) (O q : Queue) (seats : ℕ → ℕ) (callers id : ℕ) (H ds : List Deed) (views : List View) (w : View) → Legal q ds → ((k : ℕ) → seats k ≢ id → own k ds ≡ []) → Each (Knows shape O H seats callers) views → Holds (after q ds) id w → Each (Holds q) views → Each (Holds (after q ds)) (set views id w)
holds_set shape O q seats callers id H ds views w legal idle knows mine each = views_set (Holds (after q ds)) views id w
    (λ j u ne e r is. ⊎_elim (λ (t : (d : Drawing) × (drawing_at u r ≡ Some d)). inl t)
    (λ (t : (k : ℕ) × Has k u.callers × IsIn q r (Locked k)). inr (t.0, t.1, held_stays q ds t.0 r (idle t.0 (λ (z : seats t.0 ≡ id). ne (sym ((knows j u e).mine t.0 t.1).0 ∙ z))) legal t.2)) (each j u e r is))
    mine

-- a view that has no slot out holds none
pub holds_idle : (q : Queue) (id : ℕ) (w : View) → w.slot ≡ None → Holds q id w
holds_idle q id w idle r is = let z : None ≡ Some r = sym idle ∙ is in absurd (cc)

-- The boss, and the pass that is alone

pub not_alone : (views : List View) (H : List Deed) (id j : ℕ) (v u : View) → get_elem? views id ≡ some v → j ≢ id → get_elem? views j ≡ some u → Each (Alone views H) views → u.alone ≡ true → ⊥
not_alone views H id j v u at ne e each one = let t = (each j u e one).0 in let a = at_less views j u e in let b = at_less views id v at in ne (omega arith)

pub alone_set : (views : List View) (H H' : List Deed) (id : ℕ) (v w : View) → get_elem? views id ≡ some v → w.alone ≡ v.alone → (v.alone ≡ true → w.seen ≡ H') → Each (Alone views H) views → Each (Alone (set views id w) H') (set views id w)
alone_set views H H' id v w at same all each = views_set (Alone (set views id w) H') views id w
    (λ j u ne e one. absurd (not_alone views H id j v u at ne e each one))
    (λ one. let was = sym same ∙ one in (length-set views id w ∙ (each id v at was).0, all was))

pub counts_set : (n : ℕ) (views : List View) (id : ℕ) (v w : View) → get_elem? views id ≡ some v → w.callers ≡ v.callers → w.made ≡ v.made → Each (Counts n) views → Each (Counts n) (set views id w)
counts_set n views id v w at callers made each = views_set (Counts n) views id w
    (λ j u ne e ended is. each j u e ended is)
    (λ ended is. made ∙ each id v at ended (sym callers ∙ is))
