-- several steps of one call
use Rattle.std.proofs.Common.{◌≡◌, ◌≢◌, ℕ, suc, ◌<◌, ◌≤◌, List, [], ◌∷◌, ◌++◌, Option, Some, None, find, inl, refl, sym, ap, ◌∙◌, subst, arith, append_assoc}
use Rattle.atomic_table.specs.Table.{Me}
use Rattle.queue_model.specs.declared.deeds.Act.{Act}
use Rattle.queue_model.specs.declared.deeds.Deed.{Deed}
use Rattle.queue_model.specs.declared.queues.Queue.{Queue}
use Rattle.queue_model.specs.declared.steps.Node.{Node}
use Rattle.queue_model.specs.declared.steps.Node.TheVariants as nodes
use Rattle.queue_model.specs.declared.steps.Step.{Step}
use Rattle.queue_model.specs.declared.steps.Step.TheVariants as steps
use Rattle.queue_model.specs.declared.steps.WordName.TheVariants as names
use Rattle.queue_model.specs.History.{after, own}
use Rattle.acts_core.specs.Load.{Load}
use Rattle.queue_model.proofs.Owns.{own_rest}
use Rattle.queue_model.proofs.Prefixes.{prefix_trans}
use Rattle.link_core.specs.Layout.{words_of, link_of}
use Rattle.entry_table.specs.declared.draft.Draft.{Draft}
use Rattle.entry_table.specs.declared.view.Drawing.{Drawing}
use Rattle.entry_table.specs.declared.view.Shape.{Shape}
use Rattle.entry_table.specs.declared.view.View.{View}
use Rattle.entry_table.specs.Views.{caller_of, rest_of, is_drawing, drawing_at, drawn_without, entry, state_in, Mine}
use Rattle.entry_table.specs.Plays.{Steps, Within, Went, Shows, looked, looked_view, slotted_view, by_me, IsKnown, Linkable, enters, linked_view, DidLink, CanLink, LinkReady, DidEnter, Blocked, quiet, later_view, linked, linking, AfterCall}
use Rattle.entry_table.proofs.Keeping.{Same}

pub steps_trans : (O : Queue) (h : ℕ) (cs ks : List ℕ) (a b c ds es : List Deed) → Steps O h cs ks a b ds → Steps O h cs ks b c es → Steps O h cs ks a c (ds ++ es)
steps_trans O h cs ks a b c ds es p q = record {
  prefix = prefix_trans a b c p.prefix q.prefix;
  legal = q.legal;
  own_more = q.own_more ∙ (ap (λ (l : List Deed). l ++ es) p.own_more ∙ append_assoc (own h a) ds es);
  concern_more = q.concern_more ∙ (ap (λ (l : List Deed). l ++ es) p.concern_more ∙ append_assoc _ ds es);
}

pub went_trans : (v w u : View) (ds es : List Deed) → Same v w → Went v w ds → Went w u es → Went v u (ds ++ es)
went_trans v w u ds es same p q =
    let shaped : w.shape ≡ v.shape = same.shape in record {
      steps = steps_trans v.opening (caller_of v.callers) v.callers v.consumers v.seen w.seen u.seen ds es p.steps
          (subst (λ (x : Queue × List ℕ × List ℕ). Steps x.0 (caller_of x.1) x.1 x.2 w.seen u.seen es) (λ i. (same.opening i, same.callers i, same.consumers i)) q.steps);
      within = subst (λ (x : Shape × Queue). Within x.0 (after x.1 u.seen)) (λ i. (same.shape i, same.opening i)) q.within;
      more = let a = p.more in let b = q.more in omega (arith, a, b);
      most = subst (λ (x : Shape). u.reached ≤ x.rows) shaped q.most;
      alone = λ one. q.alone (same.alone ∙ one) ∙ (ap (λ (l : List Deed). l ++ es) (p.alone one) ∙ append_assoc v.seen ds es);
      bound = λ zero_me k high. q.bound (ap caller_of same.callers ∙ zero_me) k (let m = same.made in omega (arith, m, high));
    }

-- its caller did nothing

module _ (O : Queue) (h : ℕ) (cs ks : List ℕ) (S0 S1 : List Deed) (s : Steps O h cs ks S0 S1 []) where
  pub idle_since : own h s.prefix.0 ≡ []
  idle_since = own_rest h S0 S1 [] s.prefix s.own_more

-- what is told of a view is told of another that has seen as much
pub went_same : (v u x : View) (ds : List Deed) → x.seen ≡ u.seen → x.reached ≡ u.reached → Went v u ds → Went v x ds
went_same v u x ds seen reached g =
    let more = g.more in let most = g.most in record {
      steps = subst (λ (l : List Deed). Steps v.opening (caller_of v.callers) v.callers v.consumers v.seen l ds) (sym seen) g.steps;
      within = subst (λ (l : List Deed). Within v.shape (after v.opening l)) (sym seen) g.within;
      more = omega (arith, reached, more);
      most = omega (arith, reached, most);
      alone = λ one. seen ∙ g.alone one;
      bound = λ zero_me k high. ap (own k) seen ∙ g.bound zero_me k high;
    }

-- What a load for a slot's sake leaves

abbrev taking : Step
taking = steps.Load names.Callers

-- what is told of the view with the slot is told of the view without it
pub went_slotted : (v u : View) (slot : Option ℕ) (n : ℕ) (ds : List Deed) → Went (slotted_view v slot taking n) u ds → Went v u ds
went_slotted v u slot n ds g = record { steps = g.steps; within = g.within; more = g.more; most = g.most; alone = g.alone; bound = g.bound }

-- a view that is the old one but for what later_view changes
pub is_later : (v w m : View) (drawn : List Drawing) → w ≡ m → m ≡ later_view v drawn m → w ≡ later_view v drawn w
is_later v w m drawn e f = e ∙ f ∙ ap (later_view v drawn) (sym e)

module _ {C : Type 0} (load : C → Load) where
  -- after the load that took the slot, and the exchange of the slot for the cargo
  pub link_ready : (v : View) (m : Me (Option C) View) (h : ℕ) (draft : Draft C) (node : Node) (n : ℕ) → CanLink load v h draft node → m.0 ≡ slotted_view v (Some draft.row) taking n → m.1 ≡ (draft.row, Some draft.cargo) ∷ [] → LinkReady load m h draft.row node
  link_ready v m h draft node n can e carried = record {
    d = can.d;
    c = draft.cargo;
    out = ap (λ (z : View). z.slot) e;
    carried = carried;
    drawing = ap (λ (z : View). drawing_at z draft.row) e ∙ can.drawing;
    linkable = subst (λ (z : View). Linkable (state_in z) h can.d node) (sym e) can.linkable;
    id = can.id;
    size = can.size;
  }

  -- the draft's row was linked
  pub link_hit : (v w u : View) (draft : Draft C) (node : Node) (d : Drawing) (n : ℕ) → v.slot ≡ None → drawing_at v draft.row ≡ Some d → w ≡ slotted_view v (Some draft.row) taking n
      → DidLink w u draft.row node (enters draft.row d (load draft.cargo)) → DidEnter load v u draft node
  link_hit v w u draft node d n idle drawing e l = from_slotted (subst (λ (z : View). DidLink z u draft.row node (enters draft.row d (load draft.cargo))) e l) where
    a : Act
    a = enters draft.row d (load draft.cargo)

    from_slotted : DidLink (slotted_view v (Some draft.row) taking n) u draft.row node a → DidEnter load v u draft node
    from_slotted k =
        let m : View = linked_view (slotted_view v (Some draft.row) taking n) draft.row node a k.before in
        let now : u.seen ≡ k.before ++ by_me v a ∷ [] = ap (λ (z : View). z.seen) k.view in
        record {
          d = d;
          drawing = drawing;
          went = went_slotted v u (Some draft.row) n (by_me v a ∷ []) k.went;
          before = k.before;
          prefix = k.prefix;
          seen = now;
          view = is_later v u m (drawn_without draft.row v.drawn) k.view (ap (λ (o : Option ℕ). record m { slot = o }) (sym idle));
          shown = record {
            first = n;
            shown_is = ap (λ (z : View). z.shown) k.view ∙ append_assoc v.shown (quiet n v.seen ∷ []) (entry (steps.Link draft.row node) 0 (suc draft.row) m.seen ∷ [])
                ∙ ap (λ (l : List Deed). v.shown ++ quiet n v.seen ∷ entry (steps.Link draft.row node) 0 (suc draft.row) l ∷ []) (sym now);
          };
        }

-- another link was there, and the slot was given back
pub link_miss : {C : Type 0} (v w u x : View) (draft : Draft C) (cargo : C) (node : Node) (n k n' : ℕ) → v.slot ≡ None → k ≢ 0 → cargo ≡ draft.cargo → w ≡ slotted_view v (Some draft.row) taking n
    → Went w u [] → Shows (steps.Link draft.row node) k (after w.opening u.seen) → u ≡ looked_view w (steps.Link draft.row node) k u.seen → x ≡ slotted_view u None taking n' → Blocked v x draft draft.row cargo node k
link_miss v w u x draft cargo node n k n' idle some same e went shows is_u is_x = from_slotted
    (subst (λ (z : View). Went z u [] × Shows (steps.Link draft.row node) k (after z.opening u.seen) × (u ≡ looked_view z (steps.Link draft.row node) k u.seen)) e (went, shows, is_u))
  where
    step : Step
    step = steps.Link draft.row node

    W : View
    W = slotted_view v (Some draft.row) taking n

    from_slotted : Went W u [] × Shows step k (after v.opening u.seen) × (u ≡ looked_view W step k u.seen) → Blocked v x draft draft.row cargo node k
    from_slotted t =
        let m : View = slotted_view (looked_view W step k u.seen) None taking n' in
        let is_m : x ≡ m = is_x ∙ ap (λ (z : View). slotted_view z None taking n') t.2 in
        let seen : x.seen ≡ u.seen = ap (λ (z : View). z.seen) is_x in
        let went : Went v u [] = went_slotted v u (Some draft.row) n [] t.0 in
        let reached : x.reached ≡ u.reached = ap (λ (z : View). z.reached) is_x in
        record {
          other = some;
          same_row = refl;
          same_cargo = same;
          went = went_same v u x [] seen reached went;
          shows = subst (λ (l : List Deed). Shows step k (after v.opening l)) (sym seen) t.1;
          view = is_later v x m v.drawn is_m (ap (λ (o : Option ℕ). record m { slot = o }) (sym idle));
          last = n';
          shown = record {
            first = n;
            shown_is = ap (λ (z : View). z.shown) is_m
                ∙ append_assoc (v.shown ++ quiet n v.seen ∷ []) (entry step k k u.seen ∷ []) (quiet n' u.seen ∷ [])
                ∙ append_assoc v.shown (quiet n v.seen ∷ []) (entry step k k u.seen ∷ quiet n' u.seen ∷ [])
                ∙ ap (λ (l : List Deed). v.shown ++ quiet n v.seen ∷ entry step k k l ∷ quiet n' l ∷ []) (sym seen);
          };
        }

-- the link of a node that the pass knows is a word of the table
pub node_low : (shape : Shape) (q : Queue) (node : Node) → Within shape q → IsKnown q node → link_of shape.rows node < words_of shape.rows shape.lists
node_low shape q (nodes.Head l) w low = let lt : l < q.lists = low in let same = w.lists in omega arith
node_low shape q (nodes.Row a) w there = let lt = w.low a there.0 there.1 in omega arith

-- after a link that another link stopped
pub record Missed {C : Type 0} (v : View) (m : Me (Option C) View) (h row : ℕ) (c : C) : Type 0 where
  pub callers : m.0.callers ≡ h ∷ rest_of m.0.callers
  pub carried : m.1 ≡ (row, Some c) ∷ []
  pub out : m.0.slot ≡ Some row
  pub mine : Mine (state_in m.0) m.0 row

pub after_miss : {C : Type 0} (load : C → Load) (v : View) (m m' : Me (Option C) View) (h k : ℕ) (node : Node) (draft : Draft C) (n : ℕ) → v.callers ≡ h ∷ rest_of v.callers → (can : CanLink load v h draft node) → m.0 ≡ slotted_view v (Some draft.row) taking n
    → m.1 ≡ (draft.row, Some draft.cargo) ∷ [] → looked (steps.Link draft.row node) m k m' → Missed v m' h draft.row draft.cargo
after_miss load v m m' h k node draft n is can e carried l =
    let view = l.3 in
    let callers : m'.0.callers ≡ v.callers = ap (λ (z : View). z.callers) view ∙ ap (λ (z : View). z.callers) e in
    let drawn : m'.0.drawn ≡ v.drawn = ap (λ (z : View). z.drawn) view ∙ ap (λ (z : View). z.drawn) e in record {
      callers = callers ∙ is ∙ ap (λ (z : List ℕ). h ∷ rest_of z) (sym callers);
      carried = l.0 ∙ carried;
      out = ap (λ (z : View). z.slot) view ∙ ap (λ (z : View). z.slot) e;
      mine = inl (can.d, ap (λ (z : List Drawing). find (is_drawing draft.row) z) drawn ∙ can.drawing);
    }

module _ {C : Type 0} (load : C → Load) where
  -- what the exchange tells, by the cargo in the slot
  pub told_link : (v : View) (m m' : Me (Option C) View) (h n k : ℕ) (draft : Draft C) (node : Node) (can : CanLink load v h draft node) → m.0 ≡ slotted_view v (Some draft.row) taking n → m.1 ≡ (draft.row, Some draft.cargo) ∷ []
      → linking load draft.row node m k m' → linked draft.row node (enters draft.row can.d (load draft.cargo)) m k m'
  told_link v m m' h n k draft node can e carried told = told can.d draft.cargo (ap (λ (z : View). drawing_at z draft.row) e ∙ can.drawing) carried

-- what is left after steps with these deeds
pub after_went : (v w : View) (ds : List Deed) (drawn : List Drawing) → Went v w ds → w ≡ later_view v drawn w → AfterCall v w
after_went v w ds drawn g view = record { drawn = drawn; view = view; within = g.within; more = g.more; most = g.most; bound = g.bound }

-- the cargo that comes back
pub same_cargo : {C : Type 0} (a b : C) (r : ℕ) (l : List (ℕ × Option C)) → l ≡ (r, Some a) ∷ [] → l ≡ (r, Some b) ∷ [] → b ≡ a
same_cargo {C} a b r l e f = let s : Some b ≡ Some a = ap (slot_of b) (sym f ∙ e) in cc where
  slot_of : C → List (ℕ × Option C) → Option C
  slot_of c [] = Some c
  slot_of c (x ∷ xs) = x.1
