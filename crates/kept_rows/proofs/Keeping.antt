-- slots and their tree, kept as rows change
use Rattle.std.proofs.Common.{◌≡◌, ◌≢◌, ◌⊎◌, ◌↔◌, inl, inr, ℕ, ◌+◌, ◌-◌, ◌*◌, ◌<◌, ◌≤◌, Bool, true, false, Option, Some, None, IfSome, IfNone, List, [], ◌∷◌, ◌++◌, length, map, get_or, set, refl, sym, ap, ◌∙◌, subst, ⊎_elim, arith, zero, suc, length-append, append-nil, take, drop}
use Rattle.std.specs.Option.{option_map}
use Rattle.std.specs.Int.{bit_at}
use Rattle.std.proofs.lemmas.List.{take_all, drop_all, map-append, map-set, length-set, get_or-set_same, get_or-set_other, get_or-map}
use Rattle.std.proofs.Math.Seq.{map-set_same}
use mathlib.Core.Logic.{dite}
use native.Mathlib.Decide.{ℕ_discrete, dec_lt}
use Rattle.queue_model.specs.declared.queues.Depth.{Depth}
use Rattle.queue_model.specs.declared.rows.RowState.{RowState}
use Rattle.queue_model.specs.declared.rows.RowState.TheVariants.{Available, Locked, Unlocked, Dequeued, Deleted}
use Rattle.queue_model.specs.declared.rows.Slip.{Slip}
use Rattle.row_order.specs.declared.slots.Slot.{Slot}
use Rattle.row_order.specs.Order.{rank, ranks, key_of, key_at, mask_of, before, IsWanted}
use Rattle.row_order.specs.Tree.{Crowned, LeafSet, IsFreeLeaf, FirstBelow, Leftmost, Beats}
use Rattle.row_order.proofs.Crowns.{crowned_agree, reach_root}
use Rattle.acts_core.specs.Kept.{Kept, KeptRow, Goods, at_home}
use Rattle.acts_core.specs.Load.{Load}
use Rattle.kept_rows.specs.Rows.{no_row, kept_at, with_row, with_new, row_in, goods_in, rank_at, Comes, Fitting, CameOut, FirstOf, NoneOf, IsFreeTo, IsAvailable}
use Rattle.kept_rows.specs.Keeping.{slot_kept, kept_of, Carries, AllCarry, Keeps, Names, Widened}

pub get_or_any : {X : Type 0} (xs : List X) (r : ℕ) (d e : X) → r < length xs → get_or xs r d ≡ get_or xs r e
get_or_any [] r d e l = absurd (omega arith)
get_or_any (x ∷ xs) zero d e l = refl
get_or_any (x ∷ xs) (suc r) d e l = get_or_any xs r d e (omega arith)

pub some_item : {X : Type 0} (xs : List X) (r : ℕ) → r < length xs → (x : X) × (x ≡ get_or xs r x)
some_item [] r l = absurd (omega arith)
some_item (y ∷ xs) zero l = (y, refl)
some_item (y ∷ xs) (suc r) l = some_item xs r (omega arith)

map_length : {X Y : Type 0} (f : X → Y) (xs : List X) → length (map f xs) ≡ length xs
map_length f [] = refl
map_length f (x ∷ xs) = ap suc (map_length f xs)

-- an item of a list with one more is one before, or the new one
pub read_push : {X : Type 0} (xs : List X) (s t : X) (r : ℕ) → t ≡ get_or (xs ++ s ∷ []) r t → r < length (xs ++ s ∷ []) → ((r < length xs) × (t ≡ get_or xs r t)) ⊎ ((r ≡ length xs) × (t ≡ s))
read_push [] s t zero e inside = inr (refl, e)
read_push [] s t (suc r) e inside = absurd (omega arith)
read_push {X} (y ∷ xs) s t zero e inside = inl (omega arith, e)
read_push {X} (y ∷ xs) s t (suc r) e inside = ⊎_elim (λ (x : (r < length xs) × (t ≡ get_or xs r t)). let l = x.0 in inl (omega arith, x.1)) (λ (x : (r ≡ length xs) × (t ≡ s)). let l = x.0 in inr (omega arith, x.1)) (read_push xs s t r e (omega arith))

-- the nodes of a vector that were changed in place
pub nodes_back : (items new : List ℕ) (len : ℕ) → len ≡ length items → length new ≡ length items → take len (new ++ drop (length new) items) ≡ new
nodes_back items new len long same =
    ap (λ (l : List ℕ). take len (new ++ l)) (drop_all (length new) items (omega (arith, same))) ∙ (ap (take len) (append-nil new) ∙ take_all len new (omega (arith, same, long)))

-- the word of a leaf is none or the row's own
pub names_word : (s : RowState) (r word : ℕ) → Names s r word → (word ≡ 0) ⊎ (word ≡ suc r)
names_word Available r word n = inr (n.here refl)
names_word (Locked h) r word n = inl (n.none (λ x. absurd (cc)))
names_word (Unlocked h) r word n = inl (n.none (λ x. absurd (cc)))
names_word Dequeued r word n = inl (n.none (λ x. absurd (cc)))
names_word Deleted r word n = inl (n.none (λ x. absurd (cc)))

-- what holds of what an option has
pub if_some : {A : Type 0} (o : Option A) (P Q : A → Type 0) → ((x : A) → P x → Q x) → IfSome o P → IfSome o Q
if_some None P Q f p = p
if_some (Some x) P Q f p = f x p

pub if_none : {A : Type 0} (o : Option A) (P Q : Type 0) → (P → Q) → IfNone o P → IfNone o Q
if_none None P Q f p = f p
if_none (Some x) P Q f p = p

module _ {C : Type 0} (load : C → Load) where
  -- Slots and what is kept of them

  pub kept_length : (slots : List (Slot C)) (depth : Depth) (spare : ℕ) → length (kept_of load slots depth spare).rows ≡ length slots
  kept_length slots depth spare = map_length (slot_kept load) slots

  pub kept_read : (slots : List (Slot C)) (depth : Depth) (spare r : ℕ) (d : Slot C) → r < length slots → kept_at (kept_of load slots depth spare) r ≡ slot_kept load (get_or slots r d)
  kept_read slots depth spare r d l = get_or-map (slot_kept load) slots r d no_row l

  kept_key : (slots : List (Slot C)) (r : ℕ) → key_at slots r ≡ (get_or (map (slot_kept load) slots) r no_row).slip.key
  kept_key [] r = refl
  kept_key (x ∷ slots) zero = refl
  kept_key (x ∷ slots) (suc r) = kept_key slots r

  pub kept_mask : (slots : List (Slot C)) (r : ℕ) → get_or (map mask_of slots) r 0 ≡ (get_or (map (slot_kept load) slots) r no_row).slip.mask
  kept_mask [] r = refl
  kept_mask (x ∷ slots) zero = refl
  kept_mask (x ∷ slots) (suc r) = kept_mask slots r

  pub kept_ranks : (b : Bool) (slots : List (Slot C)) (depth : Depth) (spare : ℕ) → ranks b slots ≡ rank_at b (kept_of load slots depth spare)
  kept_ranks b slots depth spare = λ i r. rank b (kept_key slots r i)

  -- one more
  pub kept_push : (slots : List (Slot C)) (depth : Depth) (spare less : ℕ) (slip : Slip) (c : C) → kept_of load (slots ++ record { slip = slip; state = Available; cargo = Some c } ∷ []) depth less ≡ with_new (kept_of load slots depth spare) less slip (load c)
  kept_push slots depth spare less slip c = let s : Slot C = record { slip = slip; state = Available; cargo = Some c } in λ i. record { spare = less; depth = depth; rows = map-append (slot_kept load) slots (s ∷ []) i }

  -- one that changed
  pub kept_change : (slots : List (Slot C)) (depth : Depth) (spare r : ℕ) (s d : Slot C) → r < length slots → s.slip ≡ (get_or slots r d).slip
      → kept_of load (set slots r s) depth spare ≡ with_row (kept_of load slots depth spare) r (row_in s.state (option_map (λ c. goods_in (load c)) s.cargo) (kept_at (kept_of load slots depth spare) r))
  kept_change slots depth spare r s d l same =
      let slip : s.slip ≡ (kept_at (kept_of load slots depth spare) r).slip = same ∙ ap (λ (x : KeptRow). x.slip) (sym (kept_read slots depth spare r d l)) in
      let goods : Option Goods = option_map (λ c. goods_in (load c)) s.cargo in
      λ i. record { spare = spare; depth = depth; rows = (map-set (slot_kept load) slots r s ∙ ap (λ (z : Slip). set (map (slot_kept load) slots) r (record { slip = z; state = s.state; goods = goods })) slip) i }

  came_by : (slip : Slip) (state : RowState) (o : Option C) → Fitting slip state (option_map load o) → CameOut (record { slip = slip; state = state; goods = option_map (λ c. goods_in (load c)) o }) (option_map load o)
  came_by slip state None f = f
  came_by slip state (Some c) f = (f.1, f.2, refl)

  -- the cargo that was in a slot comes out of it
  pub came_out : (slots : List (Slot C)) (depth : Depth) (spare r : ℕ) (t : Slot C) → AllCarry load slots → r < length slots → t ≡ get_or slots r t → CameOut (kept_at (kept_of load slots depth spare) r) (option_map load t.cargo)
  came_out slots depth spare r t all l at = subst (λ (x : KeptRow). CameOut x (option_map load t.cargo)) (ap (slot_kept load) at ∙ sym (kept_read slots depth spare r t l)) (came_by t.slip t.state t.cargo (all r t l at))

  -- The tree as rows change

  pub crowned_set : (b : Bool) (slots : List (Slot C)) (nodes : List ℕ) (width r : ℕ) (s d : Slot C) → s.slip ≡ (get_or slots r d).slip → Crowned (ranks b slots) width (length slots) nodes → Crowned (ranks b (set slots r s)) width (length (set slots r s)) nodes
  crowned_set b slots nodes width r s d same c =
      let keys : map key_of (set slots r s) ≡ map key_of slots = map-set_same key_of slots r s d (ap (λ (z : Slip). z.key) same) in
      subst (λ (z : (ℕ → Option (List ℕ)) × ℕ). Crowned z.0 width z.1 nodes) (λ i. ((λ x. rank b (get_or (sym keys i) x None)), sym (length-set slots r s) i)) c

  key_push : (slots : List (Slot C)) (s : Slot C) (x : ℕ) → x < length slots → key_at slots x ≡ key_at (slots ++ s ∷ []) x
  key_push [] s x inside = absurd (omega arith)
  key_push (y ∷ slots) s zero inside = refl
  key_push (y ∷ slots) s (suc x) inside = key_push slots s x (omega arith)

  pub crowned_push : (b : Bool) (slots : List (Slot C)) (nodes : List ℕ) (width : ℕ) (s : Slot C) → Crowned (ranks b slots) width (length slots) nodes → Crowned (ranks b (slots ++ s ∷ [])) width (length (slots ++ s ∷ [])) nodes
  crowned_push b slots nodes width s c = crowned_agree (ranks b slots) (ranks b (slots ++ s ∷ [])) width (length slots) (length (slots ++ s ∷ [])) nodes (λ x l. ap (rank b) (key_push slots s x l)) (let n = length-append slots (s ∷ []) in omega arith) c

  leaf_names : (s : RowState) (r word : ℕ) → Names s r word → (word ≡ suc r) ↔ (s ≡ Available)
  leaf_names Available r word n = ((λ e. refl), (λ e. n.here refl))
  leaf_names (Locked h) r word n = ((λ e. let z = n.none (λ x. absurd (cc)) in absurd (omega arith)), (λ e. absurd (cc)))
  leaf_names (Unlocked h) r word n = ((λ e. let z = n.none (λ x. absurd (cc)) in absurd (omega arith)), (λ e. absurd (cc)))
  leaf_names Dequeued r word n = ((λ e. let z = n.none (λ x. absurd (cc)) in absurd (omega arith)), (λ e. absurd (cc)))
  leaf_names Deleted r word n = ((λ e. let z = n.none (λ x. absurd (cc)) in absurd (omega arith)), (λ e. absurd (cc)))

  -- a row was changed
  pub keeps_set : (b : Bool) (slots : List (Slot C)) (nodes nodes' : List ℕ) (width r word : ℕ) (s : Slot C) → Keeps load b slots nodes width → r < length slots → Carries load s → Names s.state r word
      → Crowned (ranks b (set slots r s)) width (length (set slots r s)) nodes' → LeafSet width nodes nodes' r word → Keeps load b (set slots r s) nodes' width
  keeps_set b slots nodes nodes' width r word s k l carries names tree leaf = record {
    tree = tree;
    power = k.power;
    leaves = λ x t m e. dite (ℕ_discrete x r)
        (λ (z : x ≡ r).
        let is : t ≡ s = e ∙ (ap (λ (n : ℕ). get_or (set slots r s) n t) z ∙ get_or-set_same slots r s t l) in
        let w : get_or nodes' (width + x) 0 ≡ word = ap (λ (n : ℕ). get_or nodes' (width + n) 0) z ∙ leaf.here in
        let n = leaf_names s.state r word names in
        ((λ a. ap (λ (u : Slot C). u.state) is ∙ n.0 (sym w ∙ (a ∙ ap suc z))), (λ a. w ∙ (n.1 (ap (λ (u : Slot C). u.state) (sym is) ∙ a) ∙ ap suc (sym z)))))
        (λ (ne : ¬ (x ≡ r)).
        let old = k.leaves x t (let n = length-set slots r s in omega arith) (e ∙ get_or-set_other slots r x s t ne) in
        ((λ a. old.0 (sym (leaf.others x ne) ∙ a)), (λ a. leaf.others x ne ∙ old.1 a)));
    carry = λ x t m e. dite (ℕ_discrete x r)
        (λ (z : x ≡ r). let is : t ≡ s = e ∙ (ap (λ (n : ℕ). get_or (set slots r s) n t) z ∙ get_or-set_same slots r s t l) in subst (Carries load) (sym is) carries)
        (λ (ne : ¬ (x ≡ r)). k.carry x t (let n = length-set slots r s in omega arith) (e ∙ get_or-set_other slots r x s t ne));
  }

  -- a row came
  pub keeps_push : (b : Bool) (slots : List (Slot C)) (nodes nodes' : List ℕ) (width : ℕ) (s : Slot C) → Keeps load b slots nodes width → Carries load s → s.state ≡ Available
      → Crowned (ranks b (slots ++ s ∷ [])) width (length (slots ++ s ∷ [])) nodes' → LeafSet width nodes nodes' (length slots) (suc (length slots)) → Keeps load b (slots ++ s ∷ []) nodes' width
  keeps_push b slots nodes nodes' width s k carries free tree leaf = record {
    tree = tree;
    power = k.power;
    leaves = λ x t m e. ⊎_elim
        (λ (z : (x < length slots) × (t ≡ get_or slots x t)).
        let ne : x ≢ length slots = (λ w. let l = z.0 in omega arith) in
        let old = k.leaves x t z.0 z.1 in
        ((λ a. old.0 (sym (leaf.others x ne) ∙ a)), (λ a. leaf.others x ne ∙ old.1 a)))
        (λ (z : (x ≡ length slots) × (t ≡ s)).
        ((λ a. ap (λ (u : Slot C). u.state) z.1 ∙ free), (λ a. ap (λ (n : ℕ). get_or nodes' (width + n) 0) z.0 ∙ (leaf.here ∙ ap suc (sym z.0)))))
        (read_push slots s t x e m);
    carry = λ x t m e. ⊎_elim
        (λ (z : (x < length slots) × (t ≡ get_or slots x t)). k.carry x t z.0 z.1)
        (λ (z : (x ≡ length slots) × (t ≡ s)). subst (Carries load) (sym z.1) carries)
        (read_push slots s t x e m);
  }

  -- the tree was widened
  pub keeps_widened : (b : Bool) (slots : List (Slot C)) (nodes nodes' : List ℕ) (width wide : ℕ) → Keeps load b slots nodes width → Widened (ranks b slots) (length slots) width nodes wide nodes' → Keeps load b slots nodes' wide
  keeps_widened b slots nodes nodes' width wide k w = record {
    tree = w.tree;
    power = w.power;
    leaves = λ r s l at. let old = k.leaves r s l at in ((λ e. old.0 (sym (w.same r l) ∙ e)), (λ e. w.same r l ∙ old.1 e));
    carry = k.carry;
  }

  -- What the tree shows

  module _ (b : Bool) (slots : List (Slot C)) (nodes : List ℕ) (width : ℕ) (k : Keeps load b slots nodes width) (depth : Depth) (spare : ℕ) where
    -- an available row has its leaf
    pub leaf_of : (r : ℕ) → length slots ≤ width → r < length slots → (kept_at (kept_of load slots depth spare) r).state ≡ Available → IsFreeLeaf width nodes r
    leaf_of r wide l free =
        let s = some_item slots r l in
        (omega arith, (k.leaves r s.0 l s.1).1 (ap (λ (z : Slot C). z.state) s.1 ∙ (ap (λ (z : KeptRow). z.state) (sym (kept_read slots depth spare r s.0 l)) ∙ free)))

    -- a leaf is that of an available row
    pub row_of_leaf : (r : ℕ) → IsFreeLeaf width nodes r → (r < length slots) × ((kept_at (kept_of load slots depth spare) r).state ≡ Available)
    row_of_leaf r leaf =
        let low = leaf.0 in
        let is = leaf.1 in
        let fits = k.tree.leafed.inside (width + r) (omega arith) in
        let l : r < length slots = omega arith in
        let s = some_item slots r l in
        (l, ap (λ (z : KeptRow). z.state) (kept_read slots depth spare r s.0 l) ∙ (ap (λ (z : Slot C). z.state) (sym s.1) ∙ (k.leaves r s.0 l s.1).0 is))

    wanted_kept : (c r : ℕ) → IsWanted slots c r → bit_at (kept_at (kept_of load slots depth spare) r).slip.mask c ≡ 1
    wanted_kept c r w = subst (λ (n : ℕ). bit_at n c ≡ 1) (kept_mask slots r) w

    kept_wanted : (c r : ℕ) → bit_at (kept_at (kept_of load slots depth spare) r).slip.mask c ≡ 1 → IsWanted slots c r
    kept_wanted c r w = subst (λ (n : ℕ). bit_at n c ≡ 1) (sym (kept_mask slots r)) w

    pub first_free : (c w r : ℕ) → length slots ≤ width → FirstBelow (ranks b slots) width nodes 1 (IsWanted slots c) w → w ≡ r + 1 → FirstOf (kept_of load slots depth spare) (IsFreeTo c) (Comes b (kept_of load slots depth spare)) r
    first_free c w r wide f is =
        let K : Kept = kept_of load slots depth spare in
        let found = f.found r (is ∙ omega arith) in
        let row = row_of_leaf r found.0 in record {
          inside = (let n = kept_length slots depth spare in let l = row.0 in omega arith);
          passes = record { available = row.1; wanted = wanted_kept c r found.1 };
          first = λ s l free apart.
              let ls : s < length slots = (let n = kept_length slots depth spare in omega arith) in
              let leaf = leaf_of s wide ls free.available in
              let root = reach_root (width + s) (width + s) (omega arith) (omega arith) in
              let beats = f.first s root.0 root.1 leaf (kept_wanted c s free.wanted) in
              let same : beats.row ≡ r = (let a = beats.is in omega arith) in
              ⊎_elim
              (λ (e : beats.row ≡ s). absurd (apart (sym e ∙ same)))
              (λ (p : before (ranks b slots) beats.row s). subst (λ (z : (ℕ → Option (List ℕ)) × ℕ). before z.0 z.1 s) (λ i. (kept_ranks b slots depth spare i, same i)) p)
              beats.first;
        }

    pub none_free : (c w : ℕ) → length slots ≤ width → FirstBelow (ranks b slots) width nodes 1 (IsWanted slots c) w → w ≡ 0 → NoneOf (kept_of load slots depth spare) (IsFreeTo c)
    none_free c w wide f is s l free =
        let ls : s < length slots = (let n = kept_length slots depth spare in omega arith) in
        let leaf = leaf_of s wide ls free.available in
        let root = reach_root (width + s) (width + s) (omega arith) (omega arith) in
        let beats = f.first s root.0 root.1 leaf (kept_wanted c s free.wanted) in
        let a = beats.is in absurd (omega arith)

    pub first_old : (w r : ℕ) → length slots ≤ width → Leftmost width nodes w → w ≡ r + 1 → FirstOf (kept_of load slots depth spare) IsAvailable (λ x y. x < y) r
    first_old w r wide f is =
        let row = row_of_leaf r (f.found r (is ∙ omega arith)) in record {
          inside = (let n = kept_length slots depth spare in let l = row.0 in omega arith);
          passes = row.1;
          first = λ s l free apart.
              let ls : s < length slots = (let n = kept_length slots depth spare in omega arith) in
              let low = f.first s (leaf_of s wide ls free) in
              let a = low.1 in let c = low.2 in omega arith;
        }

    pub none_old : (w : ℕ) → length slots ≤ width → Leftmost width nodes w → w ≡ 0 → NoneOf (kept_of load slots depth spare) IsAvailable
    none_old w wide f is s l free =
        let ls : s < length slots = (let n = kept_length slots depth spare in omega arith) in
        let low = f.first s (leaf_of s wide ls free) in
        let a = low.1 in absurd (omega arith)
