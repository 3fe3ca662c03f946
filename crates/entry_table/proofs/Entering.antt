-- an exchange of an empty link for a drawn row, with its cargo
use Rattle.std.proofs.Common.{◌≡◌, ◌≢◌, ℕ, suc, ◌+◌, ◌^◌, ◌<◌, ◌≤◌, ◌⊎◌, eqb, not, List, [], ◌∷◌, length, set, Option, Some, None, refl, sym, ap, ◌∙◌, subst, ⊎_elim, arith, length-set, inl, inr, eqb-true, ne_eqb}
use Rattle.std.specs.Prelude.{slice_index}
use Rattle.std.specs.List.{sum_by}
use Rattle.std.proofs.lemmas.Bool.{cases_eq}
use mathlib.Core.Option as maybe
use lib.ListN.{get_elem?}
use prog.Atomic.{either}
use Rattle.atomic_table.specs.Table.{State, Me, gives, put_back, rest, carried_after, Allows}
use Rattle.atomic_table.proofs.Lists as lists
use Rattle.queue_model.specs.declared.deeds.Act.{Act}
use Rattle.queue_model.specs.declared.deeds.Act.TheVariants as acts
use Rattle.queue_model.specs.declared.deeds.Deed.{Deed}
use Rattle.queue_model.specs.declared.queues.Queue.{Queue}
use Rattle.queue_model.specs.declared.queues.Reservation.{Reservation}
use Rattle.queue_model.specs.declared.rows.Row.{Row}
use Rattle.queue_model.specs.declared.rows.RowState.TheVariants.{Available}
use Rattle.queue_model.specs.declared.rows.Slip.{Slip}
use Rattle.queue_model.specs.declared.steps.DraftWord.{DraftWord}
use Rattle.queue_model.specs.declared.steps.DraftWord.TheVariants as drafts
use Rattle.queue_model.specs.declared.steps.Node.{Node}
use Rattle.queue_model.specs.declared.steps.Node.TheVariants as nodes
use Rattle.queue_model.specs.declared.steps.Step.TheVariants as steps
use Rattle.queue_model.specs.History.{after}
use Rattle.queue_model.specs.Laws.{SameGoods}
use Rattle.acts_core.specs.Load.{Load}
use Rattle.acts_core.proofs.Running.{lists_stay}
use Rattle.queue_model.specs.State.{row_at, list_at, place_at, entries}
use Rattle.queue_model.specs.Table.{Can, CanGive, acted, with_less}
use Rattle.queue_model.proofs.Depths.{depth_kept}
use Rattle.queue_model.proofs.Histories.{own-mine}
use Rattle.queue_model.proofs.KeyedLemmas.{find-filter_other, find-filter_not}
use Rattle.queue_model.proofs.Owns.{own_enqueued}
use Rattle.queue_model.proofs.RowFacts.{row_push_other}
use Rattle.queue_model.proofs.SoundSteps.{list_found}
use Rattle.queue_model.proofs.Stable.{row_stays, list_stays, place_stays, new_step}
use Rattle.link_core.specs.Layout.{draft_of, link_of}
use Rattle.link_core.specs.Stands.{Stands}
use Rattle.link_core.specs.Steps.{FitsLink, slip_in, size_in, place_behind}
use Rattle.link_core.specs.Table.{Table, but, IsNode, list_of_node}
use Rattle.link_core.proofs.Frames.{but_else, draft_low, draft_high, set_else}
use Rattle.link_core.proofs.Linking.{node_facts, link_step}
use Rattle.entry_table.specs.declared.view.Drawing.{Drawing}
use Rattle.entry_table.specs.declared.view.Shape.{Shape}
use Rattle.entry_table.specs.declared.view.View.{View}
use Rattle.entry_table.specs.Views.{caller_of, is_drawing, drawing_at, slip_of}
use Rattle.entry_table.specs.Rule.{table_at, Cargoes, Lies, Drafted, RuledAt, Ruled, allowance, share}
use Rattle.entry_table.specs.Plays.{by_me, IsKnown, list_at_node, place_at_node, Linkable, enters, linked, linked_view, DidLink, LinkReady, linking, looked}
use Rattle.entry_table.proofs.Frames.{views_set, sum_views}
use Rattle.entry_table.proofs.Onwards.{links_written, watches_set}
use Rattle.entry_table.proofs.Keeping.{opened, now, me, knows_me, after_seen, reserved_now, sees_all, ruled_next, went, mine_alone}
use Rattle.entry_table.proofs.Looking.{miss_owes, by_found}
use Rattle.entry_table.proofs.Reserving.{ends_more}
use Rattle.entry_table.proofs.Drafting.{other_draft}
use Rattle.entry_table.proofs.Slots.{lies_else, bare_else, takes_back, away_back, mine_less}

-- Rows of a queue with one more

-- the row that an Enq adds
abbrev pub entered : ℕ → Slip → List ℕ → List ℕ → ℕ → Row
entered r slip content origin n = record { number = r; slip = slip; state = Available; content = content; origin = origin; count = n }

module _ (q : Queue) (h r : ℕ) (slip : Slip) (content origin : List ℕ) (n : ℕ) (can : Can q h (acts.Enq r slip content origin n)) where
  pub found_entered : (k : ℕ) (y : Row) → row_at (acted q h (acts.Enq r slip content origin n)) k ≡ Some y → ((k ≡ r) × (y ≡ entered r slip content origin n)) ⊎ ((k ≢ r) × (row_at q k ≡ Some y))
  found_entered k y e = ⊎_elim
      (λ (same : k ≡ r). let both : Some y ≡ Some (entered r slip content origin n) = sym e ∙ ap (row_at (acted q h (acts.Enq r slip content origin n))) same ∙ own_enqueued q h r slip content origin n can in inl (same, cc))
      (λ (other : k ≢ r). inr (other, sym (row_push_other k q.rows (entered r slip content origin n) (λ back. other (sym back))) ∙ e))
      (cases_eq k r)

  pub none_entered : (k : ℕ) → row_at (acted q h (acts.Enq r slip content origin n)) k ≡ None → (k ≢ r) × (row_at q k ≡ None)
  none_entered k e = ((λ same. let bad : None ≡ Some (entered r slip content origin n) = sym e ∙ ap (row_at (acted q h (acts.Enq r slip content origin n))) same ∙ own_enqueued q h r slip content origin n can in absurd (cc)), new_step q h (acts.Enq r slip content origin n) k e)

-- the link of a node is no draft word, and none of the first two words
pub link_off : (t : Table) (q : Queue) (node : Node) → Stands t q → IsNode t node → (link_of t.rows node ≢ 0) × (link_of t.rows node ≢ 1) × ((k : ℕ) (x : DraftWord) → k < t.rows → draft_of k x ≢ link_of t.rows node)
link_off t q (nodes.Head l) s low = (omega arith, omega arith, λ k x less. omega (arith, draft_high k x))
link_off t q (nodes.Row a) s linked = (omega arith, omega arith, λ k x less. omega (arith, draft_low k x, draft_high k x))

module _ {C : Type 0} (load : C → Load) (shape : Shape) where
  -- the cargo of the new row comes home
  cargoes_entered : (homes : List (maybe.Option (Option C))) (q : Queue) (h r : ℕ) (slip : Slip) (c : C) → Can q h (acts.Enq r slip (load c).content (load c).origin (load c).count) → r < length homes → (load c).id ≡ slip.id → (load c).size ≡ slip.size
      → Cargoes load homes q → Cargoes load (set homes r (maybe.some (Some c))) (acted q h (acts.Enq r slip (load c).content (load c).origin (load c).count))
  cargoes_entered homes q h r slip c can less same_id same_size cargoes =
      let l : Load = load c in
      let homes' : List (maybe.Option (Option C)) = set homes r (maybe.some (Some c)) in record {
        rows = λ k y e. ⊎_elim
            (λ (p : (k ≡ r) × (y ≡ entered r slip l.content l.origin l.count)).
            subst (λ (z : Row). Lies load homes' k z z.state) (sym p.1)
            (c, subst (λ (i : ℕ). get_elem? homes' i ≡ maybe.some (maybe.some (Some c))) (sym p.0) (lists.set_here homes r (maybe.some (Some c)) less), record { id = same_id; size = same_size; count = refl; content = refl; origin = refl }))
            (λ (p : (k ≢ r) × (row_at q k ≡ Some y)). lies_else load homes r k (maybe.some (Some c)) y y.state p.0 (cargoes.rows k y p.1))
            (found_entered q h r slip l.content l.origin l.count can k y e);
        others = λ k within e. let p = none_entered q h r slip l.content l.origin l.count can k e in
            let wide = length-set homes r (maybe.some (Some c)) in bare_else load homes r k (maybe.some (Some c)) p.0 (cargoes.others k (omega (arith, within, wide)) p.1);
      }

  module _ (s : State (Option C) View) (id : ℕ) (v : View) (h : ℕ) (ended : List ℕ) (is : v.callers ≡ h ∷ ended) (at : get_elem? s.views id ≡ maybe.some v) (r : RuledAt load shape v.opening s) where
    abbrev tab : Table
    tab = table_at shape s.words r.drawer r.reserved

    abbrev q : Queue
    q = now load shape s id v h ended is at r

    abbrev known : Queue
    known = after v.opening v.seen

    -- a row that the pass knows is in the queue
    pub row_now : (a : ℕ) (x : Row) → row_at known a ≡ Some x → (y : Row) × (row_at q a ≡ Some y)
    row_now a x found =
        let k = knows_me load shape s id v h ended is at r in
        let there = row_stays known k.prefix.0 a x found in
        (there.0, subst (λ (z : Queue). row_at z a ≡ Some there.0) (after_seen load shape s id v h ended is at r) there.1)

    -- with its slip, content and origin
    pub row_same : (a : ℕ) (x : Row) → row_at known a ≡ Some x → (y : Row) × (row_at q a ≡ Some y) × SameGoods x y
    row_same a x found =
        let k = knows_me load shape s id v h ended is at r in
        let there = row_stays known k.prefix.0 a x found in
        (there.0, subst (λ (z : Queue). row_at z a ≡ Some there.0) (after_seen load shape s id v h ended is at r) there.1, there.2)

    pub shape_now : (known.lists ≡ shape.lists) × (known.consumers ≡ shape.consumers)
    shape_now =
        let k = knows_me load shape s id v h ended is at r in
        let more = lists_stay known k.prefix.0 in
        let all = after_seen load shape s id v h ended is at r in
        (sym more.0 ∙ ap (λ (z : Queue). z.lists) all ∙ sym r.stands.shaped.lists, sym more.1 ∙ ap (λ (z : Queue). z.consumers) all ∙ sym r.stands.shaped.consumers)

    -- a node that the pass knows
    pub node_now : (node : Node) → IsKnown known node → IsNode tab node
    node_now (nodes.Head l) low = let lt : l < known.lists = low in let same = shape_now.0 in omega (arith, lt, same)
    node_now (nodes.Row a) there = let row = row_now a there.0 there.1 in record { drawn = r.stands.draws.below a row.0 row.1; free = r.stands.draws.free a row.0 row.1 }

    pub node_place : (node : Node) → IsKnown known node → (list_of_node tab node ≡ list_at_node known node) × (place_behind tab node ≡ place_at_node known node)
    node_place (nodes.Head l) low = (refl, refl)
    node_place (nodes.Row a) there =
        let k = knows_me load shape s id v h ended is at r in
        let row = row_now a there.0 there.1 in
        let d = r.stands.drafted a row.0 row.1 in
        let all = after_seen load shape s id v h ended is at r in
        let list : list_at q a ≡ list_at known a = ap (λ (z : Queue). list_at z a) (sym all) ∙ list_stays known k.prefix.0 a there.0 there.1 in
        let place : place_at q a ≡ place_at known a = ap (λ (z : Queue). place_at z a) (sym all) ∙ place_stays known k.prefix.0 a there.0 there.1 in
        (d.list ∙ sym (list_found q a row.0 row.1) ∙ list, ap (λ (n : ℕ). n + 1) (d.place ∙ place))

    -- what the pass knows of a link makes it fit
    pub links_fit : (row : ℕ) (d : Drawing) (node : Node) → drawing_at v row ≡ Some d → Linkable known (caller_of v.callers) d node → FitsLink tab (caller_of v.callers) row node
    links_fit row d node drawing l =
        let x = r.drafts id v at row d drawing in
        let tops = r.stands.draws.top in
        let low = r.stands.draws.low row (caller_of v.callers) x.drew in
        let place = node_place node l.known in
        let size = x.written drafts.Size in
        record {
          drawn = record { row = omega (arith, tops, low); drawer = x.drew };
          node = node_now node l.known;
          behind = record {
            list = x.written drafts.List ∙ l.list ∙ sym place.0;
            place = x.written drafts.Place ∙ l.place ∙ sym place.1;
            mask = subst (λ (n : ℕ). n < 2 ^ shape.consumers) (sym (x.written drafts.Mask)) (subst (λ (n : ℕ). d.mask < 2 ^ n) shape_now.1 l.mask);
            size = subst (λ (n : ℕ). n ≤ 1048576) (sym size) l.size;
            reserved = subst (λ (n : ℕ). CanGive (r.reserved (caller_of v.callers)) n) (sym size)
                (subst (λ (z : Reservation). CanGive z d.size) (r.stands.reserved (caller_of v.callers)) (subst (λ (z : Reservation). CanGive z d.size) (sym (reserved_now load shape s id v h ended is at r)) l.reserved));
          };
        }

    slip_same : (row : ℕ) (d : Drawing) → drawing_at v row ≡ Some d → slip_in tab row ≡ slip_of d
    slip_same row d drawing = let x = r.drafts id v at row d drawing in
        λ i. record { id = x.written drafts.Ident i; size = x.written drafts.Size i; mask = x.written drafts.Mask i; list = x.written drafts.List i; key = None }

    -- the rule after a link
    linked_rule : (row : ℕ) (d : Drawing) (node : Node) (c : C) → drawing_at v row ≡ Some d → v.slot ≡ Some row → Linkable known (caller_of v.callers) d node → (load c).id ≡ d.ident → (load c).size ≡ d.size → slice_index s.words (link_of shape.rows node) ≡ 0
        → RuledAt load shape v.opening record { words = set s.words (link_of shape.rows node) (suc row); homes = set s.homes row (maybe.some (Some c)); views = set s.views id (linked_view v row node (enters row d (load c)) r.history) }
        × DidLink v (linked_view v row node (enters row d (load c)) r.history) row node (enters row d (load c))
    linked_rule row d node c drawing out l same_id same_size empty =
        let k : ℕ = me load shape s id v h ended is at r in
        let H : List Deed = r.history in
        let a : Act = enters row d (load c) in
        let w : View = linked_view v row node a H in
        let i : ℕ = link_of shape.rows node in
        let words : List ℕ = set s.words i (suc row) in
        let homes : List (maybe.Option (Option C)) = set s.homes row (maybe.some (Some c)) in
        let fits = links_fit row d node drawing l in
        let off = link_off tab q node r.stands fits.node in
        let drawer : ℕ → Option ℕ = but r.drawer row None in
        let reserved : ℕ → Reservation = but r.reserved k (with_less (r.reserved k) (size_in tab row)) in
        let step = link_step tab q k row node (load c).content (load c).origin (load c).count r.stands fits empty in
        let both : Can q k a × Stands (table_at shape words drawer reserved) (acted q k a) = subst (λ (x : Slip). Can q k (acts.Enq row x (load c).content (load c).origin (load c).count) × Stands (table_at shape words drawer reserved) (acted q k (acts.Enq row x (load c).content (load c).origin (load c).count))) (slip_same row d drawing) step in
        let x = r.drafts id v at row d drawing in
        let less = mine_less load shape s id v h ended is at r row (inl (d, drawing)) in
        let sums = sum_views allowance s.views id v w at in
        let shares = sum_views share s.views id v w at in
        let allowed : sum_by allowance s.views + entries q ≤ 524288 = r.allowed in
        let shared : sum_by share s.views + slice_index s.words 0 ≤ shape.rows = r.shared in
        let same_depth = depth_kept q k a both.0 tt in
        let depth_is : entries (acted q k a) ≡ entries q = same_depth.0 in
        let top : slice_index words 0 ≡ slice_index s.words 0 = set_else s.words i (suc row) 0 (λ e. off.0 (sym e)) in
        let words_off : (j : ℕ) (y : DraftWord) → j < shape.rows → slice_index words (draft_of j y) ≡ slice_index s.words (draft_of j y) = λ j y less. set_else s.words i (suc row) (draft_of j y) (off.2 j y less) in
        let drawn_low : (j g : ℕ) → r.drawer j ≡ Some g → j < shape.rows = λ j g e. let under = r.stands.draws.low j g e in let tops = r.stands.draws.top in omega (arith, under, tops) in
        let reached : v.reached ≤ slice_index s.words 0 = r.reaches id v at in (
          ruled_next load shape s id v h ended is at r (by_me v a ∷ []) w words homes drawer reserved r.outs r.enders record {
            seen = sees_all load shape s id v h ended is at r (by_me v a ∷ []) w refl;
            same = record { shape = refl; opening = refl; callers = refl; made = refl; alone = refl; consumers = refl };
            legal = (both.0, tt);
            mine = mine_alone load shape s id v h ended is at r a;
            bells = λ b ne. refl;
            told = refl;
            ends = ends_more r.enders H (by_me v a) r.ends tt;
            rows = length-set s.homes row (maybe.some (Some c)) ∙ r.rows;
            callers = set_else s.words i (suc row) 1 (λ e. off.1 (sym e));
            stands = both.1;
            cargoes = cargoes_entered s.homes q k row (slip_of d) c both.0 less same_id same_size r.cargoes;
            drafts = views_set (Drafted words drawer) s.views id w
                (λ j u ne e b y found. let z = r.drafts j u e b y found in let apart = other_draft load shape s id v h ended is at r row x.drew j u ne e b y found in
                record { mine = z.mine; drew = but_else r.drawer row None b apart ∙ z.drew; written = λ o. words_off b o (drawn_low b (caller_of u.callers) z.drew) ∙ z.written o })
                (λ b y found. ⊎_elim
                (λ (hit : b ≡ row). let gone : None ≡ Some y = sym (find-filter_not (is_drawing row) v.drawn) ∙ ap (drawing_at w) (sym hit) ∙ found in absurd (cc))
                (λ (miss : b ≢ row).
                let before : drawing_at v b ≡ Some y = sym (find-filter_other (is_drawing b) (λ f. not (is_drawing row f)) v.drawn (λ f hit. ap not (ne_eqb f.row row (λ g. miss (sym (eqb-true f.row b hit) ∙ g))))) ∙ found in
                let z = r.drafts id v at b y before in record { mine = z.mine; drew = but_else r.drawer row None b miss ∙ z.drew; written = λ o. words_off b o (drawn_low b (caller_of v.callers) z.drew) ∙ z.written o })
                (cases_eq b row));
            unwritten = λ j y less high. words_off j y less ∙ r.unwritten j y less (omega (arith, top, high));
            top = omega (arith, top);
            reaches = omega (arith, top, reached);
            watches = watches_set shape q (by_me v a ∷ []) s.words words s.views id v w at refl (links_written shape q s.words i (suc row) (node_facts tab q node (list_of_node tab node) r.stands fits.node refl).long (λ f y named found. absurd (omega (arith, named, empty)))) r.watches;
            takes = takes_back s.homes r.outs s.views id row v w (Some c) at out refl r.takes;
            held = λ j e. let z : None ≡ Some j = e in absurd (cc);
            away = away_back s.homes r.outs s.views id row v w (Some c) less at out r.away;
            allowed = omega (arith, sums, allowed, depth_is);
            shared = omega (arith, shares, shared, top);
          },
          record {
            went = went load shape s id v h ended is at r w (by_me v a ∷ []) words drawer reserved refl (both.0, tt) (own-mine (by_me v a)) (mine_alone load shape s id v h ended is at r a) both.1 (omega arith) (omega (arith, reached, top));
            before = H;
            prefix = (knows_me load shape s id v h ended is at r).prefix;
            view = refl;
          },
        )

  pub links_allowed : (slots id row : ℕ) (d : Drawing) (node : Node) (c : C) (m : Me (Option C) View) (h : ℕ) (ended : List ℕ) → m.0.callers ≡ h ∷ ended → m.0.slot ≡ Some row → m.1 ≡ (row, Some c) ∷ [] → drawing_at m.0 row ≡ Some d
      → Linkable (after m.0.opening m.0.seen) (caller_of m.0.callers) d node → (load c).id ≡ d.ident → (load c).size ≡ d.size
      → Allows (Ruled load shape) slots id m (link_of shape.rows node) (λ n. either (eqb n 0) (suc row) n) (linked row node (enters row d (load c)) m)
  links_allowed slots id row d node c m h ended is out carried drawing l same_id same_size s ruled len at low =
      let v : View = m.0 in
      let r = opened load shape s id v h ended is at ruled in
      let i : ℕ = link_of shape.rows node in
      let a : Act = enters row d (load c) in
      let w : View = linked_view v row node a r.history in
      by_found load shape s id i 0 (suc row) m (λ m'. (m'.1 ≡ rest m.1) × DidLink m.0 m'.0 row node a) (looked (steps.Link row node) m (slice_index s.words i)) (linked row node a m)
      (λ u e told. ((λ hit. told), (λ ne. absurd (ne e))))
      (λ u e told. ((λ hit. absurd (e hit)), (λ ne. told)))
      (λ e. let p = linked_rule s id v h ended is at r row d node c drawing out l same_id same_size e in
      (w, gives, tt, (v.opening, subst (λ (k : List (ℕ × Option C)). RuledAt load shape v.opening record { words = set s.words i (suc row); homes = put_back s.homes k; views = set s.views id w }) (sym carried) p.0), (refl, p.1)))
      (λ e. miss_owes load shape s id i (steps.Link row node) m h ended (λ ws. refl) is at r)

  abbrev slot_of : C → List (ℕ × Option C) → Option C
  slot_of c [] = Some c
  slot_of c (x ∷ xs) = x.1

  -- the same, told by the view and the slot
  pub links_told : (slots id row : ℕ) (d : Drawing) (node : Node) (c : C) (m : Me (Option C) View) (h : ℕ) (ended : List ℕ) → m.0.callers ≡ h ∷ ended → m.0.slot ≡ Some row → m.1 ≡ (row, Some c) ∷ [] → drawing_at m.0 row ≡ Some d
      → Linkable (after m.0.opening m.0.seen) (caller_of m.0.callers) d node → (load c).id ≡ d.ident → (load c).size ≡ d.size
      → Allows (Ruled load shape) slots id m (link_of shape.rows node) (λ n. either (eqb n 0) (suc row) n) (linking load row node m)
  links_told slots id row d node c m h ended is out carried drawing l same_id same_size s ruled len at low =
      let o = links_allowed slots id row d node c m h ended is out carried drawing l same_id same_size s ruled len at low in (
        o.0,
        o.1,
        o.2,
        o.3,
        λ d' c' drawing' carried'.
            let de : Some d ≡ Some d' = sym drawing ∙ drawing' in let d_same : d ≡ d' = cc in
            let ce : (row, Some c) ∷ [] ≡ (row, Some c') ∷ [] = sym carried ∙ carried' in
            let ce' : Some c ≡ Some c' = ap (slot_of c) ce in let c_same : c ≡ c' = cc in
            subst (λ (a : Act). linked row node a m (slice_index s.words (link_of shape.rows node)) (o.0, carried_after m.1 o.1)) (λ i. enters row (d_same i) (load (c_same i))) o.4,
      )

  -- the same, for numbers that are given by equations
  pub links_at : (slots id i row new k : ℕ) (node b : Node) (m : Me (Option C) View) (h : ℕ) (ended : List ℕ) → i ≡ link_of shape.rows node → new ≡ suc row → k ≡ row → b ≡ node → m.0.callers ≡ h ∷ ended → LinkReady load m h row node
      → Allows (Ruled load shape) slots id m i (λ n. either (eqb n 0) new n) (linking load k b m)
  links_at slots id i row new k node b m h ended ei en ek eb is ready =
      subst (λ (z : Node). Allows (Ruled load shape) slots id m i (λ n. either (eqb n 0) new n) (linking load k z m)) (sym eb)
      (subst (λ (z : ℕ). Allows (Ruled load shape) slots id m i (λ n. either (eqb n 0) new n) (linking load z node m)) (sym ek)
      (subst (λ (z : ℕ). Allows (Ruled load shape) slots id m i (λ n. either (eqb n 0) z n) (linking load row node m)) (sym en)
      (subst (λ (z : ℕ). Allows (Ruled load shape) slots id m z (λ n. either (eqb n 0) (suc row) n) (linking load row node m)) (sym ei)
      (links_told slots id row ready.d node ready.c m h ended is ready.out ready.carried ready.drawing (subst (λ (z : ℕ). Linkable (after m.0.opening m.0.seen) z ready.d node) (sym (ap caller_of is)) ready.linkable) ready.id ready.size))))
