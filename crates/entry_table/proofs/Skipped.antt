-- loads of links that are watched, and unlinks, are allowed
use Rattle.std.proofs.Common.{◌≡◌, ◌≢◌, ℕ, zero, suc, ◌+◌, ◌<◌, ◌≤◌, ◌==◌, eqb, Bool, Option, Some, None, List, [], ◌∷◌, ◌++◌, set, refl, sym, ap, ◌∙◌, subst, ⊎_elim, arith, append-nil, eq-eqb, ne_eqb}
use Rattle.std.specs.Prelude.{slice_index}
use Rattle.std.specs.List.{sum_by}
use Rattle.std.proofs.lemmas.Bool.{cases_eq}
use Rattle.std.proofs.lemmas.List.{set-get_or}
use mathlib.Core.Option as maybe
use lib.ListN.{get_elem?}
use prog.Atomic.{either}
use Rattle.atomic_table.specs.Table.{State, Me, keeps, Allows}
use Rattle.queue_model.specs.declared.deeds.Deed.{Deed}
use Rattle.queue_model.specs.declared.queues.Queue.{Queue}
use Rattle.queue_model.specs.declared.queues.Reservation.{Reservation}
use Rattle.queue_model.specs.declared.rows.Row.{Row}
use Rattle.queue_model.specs.declared.rows.RowState.TheVariants.{Deleted}
use Rattle.queue_model.specs.declared.rows.Slip.{Slip}
use Rattle.queue_model.specs.declared.steps.DraftWord.{DraftWord}
use Rattle.queue_model.specs.declared.steps.Node.{Node}
use Rattle.queue_model.specs.declared.steps.Node.TheVariants as nodes
use Rattle.queue_model.specs.declared.steps.Step.{Step}
use Rattle.queue_model.specs.declared.steps.Step.TheVariants as steps
use Rattle.queue_model.specs.declared.steps.WordName.TheVariants as names
use Rattle.queue_model.specs.History.{after}
use Rattle.queue_model.specs.State.{row_at, list_at, place_at, IsIn, entries}
use Rattle.queue_model.specs.Packing.{pack_state}
use Rattle.queue_model.specs.Sound.{Sound}
use Rattle.queue_model.proofs.SoundSteps.{list_found, row_fits}
use Rattle.queue_model.proofs.Stable.{deleted_stays, list_stays, place_stays}
use Rattle.acts_core.specs.Load.{Load}
use Rattle.acts_core.specs.Walks.{AreDeleted, IsStop, node_at}
use Rattle.link_core.specs.Layout.{draft_of, link_of}
use Rattle.link_core.specs.Stands.{Stands}
use Rattle.link_core.specs.Steps.{place_of_step, shown, IsBetween, FitsUnlink}
use Rattle.link_core.specs.Table.{Table, IsLinked, but, list_of_node}
use Rattle.link_core.proofs.Changing.{linked_row}
use Rattle.link_core.proofs.Frames.{set_here, set_else}
use Rattle.link_core.proofs.Linking.{node_facts}
use Rattle.link_core.proofs.Unlinking.{unlink_step}
use Rattle.entry_table.specs.declared.view.Shape.{Shape}
use Rattle.entry_table.specs.declared.view.View.{View}
use Rattle.entry_table.specs.declared.view.Watched.{Watched}
use Rattle.entry_table.specs.Views.{AllEnd}
use Rattle.entry_table.specs.Rule.{table_at, Each, HasNode, IsOnward, MovesOn, Watches, RuledAt, Ruled, allowance}
use Rattle.entry_table.specs.Plays.{IsKnown, Went, Within}
use Rattle.entry_table.specs.Skips.{watch_of, watched_view, watching, Watching, Unlinkable, unlinking, Moves, Unlinks}
use Rattle.entry_table.proofs.Frames.{sum_views}
use Rattle.entry_table.proofs.Keeping.{opened, now, me, knows_me, after_seen, legal_more, went}
use Rattle.entry_table.proofs.Onwards.{onward_self, links_same, links_written, watches_with}
use Rattle.entry_table.proofs.Looking.{Owes, plain, by_found}
use Rattle.entry_table.proofs.Entering.{shape_now, row_now, node_now, node_place, link_off}
use Rattle.entry_table.proofs.Following.{link_tells}
use Rattle.entry_table.proofs.Lasting.{deleted_later}

-- a link that is not empty names a row
link_row : (t : Table) (q : Queue) (node : Node) (r : ℕ) → Stands t q → IsKnown q node → slice_index t.words (link_of t.rows node) ≡ suc r → (x : Row) × (row_at q r ≡ Some x)
link_row t q (nodes.Head l) r s known named =
    let low : l < q.lists = known in
    let y = (link_tells t q l 0 s (let lists = s.shaped.lists in omega (arith, low, lists)) tt).leads r named in (y.0.0, y.0.1)
link_row t q (nodes.Row a) r s known named =
    let x : Row = known.0 in
    let fits = row_fits q a x s.sound known.1 in
    let y = (link_tells t q x.slip.list (suc a) s (let lists = s.shaped.lists in let low = fits.list in omega (arith, low, lists)) (x, known.1, refl)).leads r named in (y.0.0, y.0.1)

module _ {C : Type 0} (load : C → Load) (shape : Shape) where
  module _ (s : State (Option C) View) (id : ℕ) (v : View) (h : ℕ) (ended : List ℕ) (is : v.callers ≡ h ∷ ended) (at : get_elem? s.views id ≡ maybe.some v) (r : RuledAt load shape v.opening s) where
    abbrev tab : Table
    tab = table_at shape s.words r.drawer r.reserved

    abbrev q : Queue
    q = now load shape s id v h ended is at r

    abbrev known : Queue
    known = after v.opening v.seen

    -- a node that the pass knows is one of the table
    has_node : (node : Node) → IsKnown known node → HasNode shape node
    has_node (nodes.Head l) low = let lt : l < known.lists = low in let same = (shape_now load shape s id v h ended is at r).0 in omega (arith, lt, same)
    has_node (nodes.Row a) there =
        let row = row_now load shape s id v h ended is at r a there.0 there.1 in
        let below = r.stands.draws.below a row.0 row.1 in let tops = r.stands.draws.top in omega (arith, below, tops)

    -- and known in the whole history
    known_now : (node : Node) → IsKnown known node → IsKnown q node
    known_now (nodes.Head l) low =
        let lt : l < known.lists = low in let same = (shape_now load shape s id v h ended is at r).0 in let lists = r.stands.shaped.lists in omega (arith, lt, same, lists)
    known_now (nodes.Row a) there = row_now load shape s id v h ended is at r a there.0 there.1

    -- what the pass watches after a step that left the link of the node as it was
    watches_same : (node : Node) (step : Step) → IsKnown known node → Watches shape s.words q id (watched_view v node step (slice_index s.words (link_of shape.rows node)) (slice_index s.words (link_of shape.rows node)) r.history)
    watches_same node step there w same =
        let n : ℕ = slice_index s.words (link_of shape.rows node) in
        let both : Some (record { node = node; link = n }) ≡ Some w = same in
        let one : record { node = node; link = n } ≡ w = cc in
        subst (λ (x : Watched). HasNode shape x.node × MovesOn q x.link (slice_index s.words (link_of shape.rows x.node))) one
        (has_node node there, λ k named. let y = link_row tab q node k r.stands (known_now node there) named in (k, named, onward_self q k y.0 y.1))

    -- a step that shows the link of a node, and leaves it
    pub watch_owes : (node : Node) (step : Step) (carried : List (ℕ × Option C)) → IsKnown known node → place_of_step shape.rows s.words step ≡ link_of shape.rows node
        → Owes load shape s id (v, carried) (link_of shape.rows node) (slice_index s.words (link_of shape.rows node)) (watching node step (v, carried) (slice_index s.words (link_of shape.rows node)))
    watch_owes node step carried there place =
        let i : ℕ = link_of shape.rows node in
        let n : ℕ = slice_index s.words i in
        let H : List Deed = r.history in
        let all : H ≡ H ++ [] = sym (append-nil H) in
        let w : View = watched_view v node step n n H in
        let sums = sum_views allowance s.views id v w at in
        let allowed : sum_by allowance s.views + entries q ≤ 524288 = r.allowed in
        let reached : v.reached ≤ slice_index s.words 0 = r.reaches id v at in
        let rule : RuledAt load shape v.opening record { words = s.words; homes = s.homes; views = set s.views id w } =
        plain load shape s id v h ended is at r [] w s.words r.reserved r.enders all (record { shape = refl; opening = refl; callers = refl; made = refl; alone = refl; consumers = refl }) refl refl refl (r.held id v at) refl reached tt (λ k ne. refl) (λ c ne. refl) (subst (AllEnd r.enders) all r.ends)
        refl refl (λ k x less. refl) r.stands r.cargoes (omega (arith, sums, allowed))
        (watches_with shape q [] s.words s.words s.views id w (watches_same node step there) (links_same shape q s.words) r.watches) in (
          w,
          keeps,
          tt,
          (v.opening, subst (λ (l : List ℕ). RuledAt load shape v.opening record { words = l; homes = s.homes; views = set s.views id w }) (sym (set-get_or s.words i 0)) rule),
          (
            refl,
            went load shape s id v h ended is at r w [] s.words r.drawer r.reserved all tt refl (λ k ne. refl) r.stands (omega arith) reached,
            (tab, r.stands, ap (slice_index s.words) place),
            (λ k same. (r.watches id v at (record { node = node; link = k }) same).1),
            refl,
          ),
        )

    -- what the pass knows of an unlink makes it fit
    pub unlink_fits : (node : Node) (from to : ℕ) → Sound known → Unlinkable known node from to → FitsUnlink tab node from to
    unlink_fits node from to sound can =
        let k = knows_me load shape s id v h ended is at r in
        let all = after_seen load shape s id v h ended is at r in
        let legal = legal_more load shape s id v h ended is at r in
        let first = node_place load shape s id v h ended is at r (nodes.Row from) (can.gone.0, can.gone.1) in
        let last = node_place load shape s id v h ended is at r (nodes.Row to) can.there in
        let gone : IsIn q from Deleted = subst (λ (z : Queue). IsIn z from Deleted) all (deleted_stays known k.prefix.0 from legal can.gone) in
        let l : ℕ = list_at known from in
        let list : can.there.0.slip.list ≡ l = sym (list_found known to can.there.0 can.there.1) ∙ can.list in
        let between : AreDeleted q l (suc (place_at known from)) (place_at known to) =
        subst (λ (z : Queue). AreDeleted z l (suc (place_at known from)) (place_at known to)) all (deleted_later known k.prefix.0 l (suc (place_at known from)) to can.there.0 sound.rows_apart legal can.there.1 list can.between) in
        let later = can.later in record {
          node = node_now load shape s id v h ended is at r node can.known;
          out = node_now load shape s id v h ended is at r (nodes.Row from) (can.gone.0, can.gone.1);
          next = node_now load shape s id v h ended is at r (nodes.Row to) can.there;
          gone = r.stands.states from gone.0 gone.1 ∙ ap pack_state gone.2;
          list = last.0 ∙ can.list ∙ sym first.0;
          later = (let a = first.1 in let b = last.1 in omega (arith, a, b, later));
          between = λ e linked b.
              let x = linked_row tab q e r.stands linked in
              let d = r.stands.drafted e x.0 x.1 in
              let place = d.place in
              let low = b.behind in let high = b.before in
              let a = first.1 in let z = last.1 in
              r.stands.states e x.0 x.1 ∙ ap pack_state (between e x.0 x.1 (sym d.list ∙ b.list ∙ first.0) (omega (arith, place, low, a)) (omega (arith, place, high, z)));
        }

    -- the row that the link then names comes later
    unlink_onward : (node : Node) (from to : ℕ) → FitsUnlink tab node from to → IsOnward q from to
    unlink_onward node from to fits =
        let x = linked_row tab q from r.stands fits.out in
        let y = linked_row tab q to r.stands fits.next in
        let dx = r.stands.drafted from x.0 x.1 in let dy = r.stands.drafted to y.0 y.1 in
        let px = dx.place in let py = dy.place in let later = fits.later in record {
          from = x.0;
          from_found = x.1;
          to = y.0;
          to_found = y.1;
          list = sym dy.list ∙ fits.list ∙ dx.list;
          later = omega (arith, px, py, later);
        }

    -- an exchange that shows the deleted row
    unlink_owes : (node : Node) (from to : ℕ) (carried : List (ℕ × Option C)) → Sound known → Unlinkable known node from to → slice_index s.words (link_of shape.rows node) ≡ suc from
        → Owes load shape s id (v, carried) (link_of shape.rows node) (suc to) (λ m'. (m'.1 ≡ carried) × Went v m'.0 [] × (m'.0 ≡ watched_view v node (steps.Unlink node from to) (suc from) (suc to) m'.0.seen))
    unlink_owes node from to carried sound can here =
        let i : ℕ = link_of shape.rows node in
        let k : ℕ = me load shape s id v h ended is at r in
        let H : List Deed = r.history in
        let all : H ≡ H ++ [] = sym (append-nil H) in
        let fits = unlink_fits node from to sound can in
        let words : List ℕ = set s.words i (suc to) in
        let reserved : ℕ → Reservation = but r.reserved k (r.reserved k) in
        let stands : Stands (table_at shape words r.drawer reserved) q = unlink_step tab q node from to r.stands fits k here in
        let off = link_off tab q node r.stands fits.node in
        let long = (node_facts tab q node (list_of_node tab node) r.stands fits.node refl).long in
        let onward = unlink_onward node from to fits in
        let w : View = watched_view v node (steps.Unlink node from to) (suc from) (suc to) H in
        let top : slice_index words 0 ≡ slice_index s.words 0 = set_else s.words i (suc to) 0 (λ e. off.0 (sym e)) in
        let words_off : (j : ℕ) (y : DraftWord) → j < shape.rows → slice_index words (draft_of j y) ≡ slice_index s.words (draft_of j y) = λ j y less. set_else s.words i (suc to) (draft_of j y) (off.2 j y less) in
        let sums = sum_views allowance s.views id v w at in
        let allowed : sum_by allowance s.views + entries q ≤ 524288 = r.allowed in
        let reached : v.reached ≤ slice_index s.words 0 = r.reaches id v at in
        let mine : Watches shape words q id w = λ x same.
        let both : Some (record { node = node; link = suc to }) ≡ Some x = same in
        let one : record { node = node; link = suc to } ≡ x = cc in
        subst (λ (z : Watched). HasNode shape z.node × MovesOn q z.link (slice_index words (link_of shape.rows z.node))) one
        (has_node node can.known, λ j named. (to, set_here s.words i (suc to) long, subst (λ (z : ℕ). IsOnward q z to) (let z : to ≡ j = omega (arith, named) in z) (onward_self q to onward.to onward.to_found))) in
        let moves : (j : ℕ) (y : Row) → slice_index s.words i ≡ suc j → row_at q j ≡ Some y → (u : ℕ) × (suc to ≡ suc u) × IsOnward q j u =
        λ j y named found. (to, refl, subst (λ (z : ℕ). IsOnward q z to) (let z : from ≡ j = omega (arith, named, here) in z) onward) in (
          w,
          keeps,
          tt,
          (
            v.opening,
            plain load shape s id v h ended is at r [] w words reserved r.enders all (record { shape = refl; opening = refl; callers = refl; made = refl; alone = refl; consumers = refl }) refl refl refl (r.held id v at) refl reached tt (λ j ne. refl) (λ c ne. refl) (subst (AllEnd r.enders) all r.ends)
                top (set_else s.words i (suc to) 1 (λ e. off.1 (sym e))) words_off stands r.cargoes (omega (arith, sums, allowed))
                (watches_with shape q [] s.words words s.views id w mine (links_written shape q s.words i (suc to) long moves) r.watches),
          ),
          (refl, went load shape s id v h ended is at r w [] words r.drawer reserved all tt refl (λ j ne. refl) stands (omega arith) (omega (arith, reached, top)), refl),
        )

  -- a load of the link of a node
  pub watch_allowed : (slots id : ℕ) (node : Node) (m : Me (Option C) View) (h : ℕ) (ended : List ℕ) → m.0.callers ≡ h ∷ ended → IsKnown (after m.0.opening m.0.seen) node
      → Allows (Ruled load shape) slots id m (link_of shape.rows node) (λ n. n) (watching node (steps.Load (names.Link node)) m)
  watch_allowed slots id node m h ended is there s ruled len at small = watch_owes s id m.0 h ended is at (opened load shape s id m.0 h ended is at ruled) node (steps.Load (names.Link node)) m.1 there refl

  -- the same, for numbers and nodes that are given by equations
  pub watch_at : (slots id i : ℕ) (node k : Node) (m : Me (Option C) View) (h : ℕ) (ended : List ℕ) → i ≡ link_of shape.rows node → k ≡ node → m.0.callers ≡ h ∷ ended → IsKnown (after m.0.opening m.0.seen) node
      → Allows (Ruled load shape) slots id m i (λ n. n) (watching k (steps.Load (names.Link k)) m)
  watch_at slots id i node k m h ended ei ek is there =
      subst (λ (z : Node). Allows (Ruled load shape) slots id m i (λ n. n) (watching z (steps.Load (names.Link z)) m)) (sym ek)
      (subst (λ (z : ℕ). Allows (Ruled load shape) slots id m z (λ n. n) (watching node (steps.Load (names.Link node)) m)) (sym ei)
      (watch_allowed slots id node m h ended is there))

  -- an exchange of the link of a node
  pub unlink_allowed : (slots id : ℕ) (node : Node) (from to : ℕ) (m : Me (Option C) View) (h : ℕ) (ended : List ℕ) → m.0.callers ≡ h ∷ ended → Sound (after m.0.opening m.0.seen) → Unlinkable (after m.0.opening m.0.seen) node from to
      → Allows (Ruled load shape) slots id m (link_of shape.rows node) (λ n. either (eqb n (suc from)) (suc to) n) (unlinking node from to m)
  unlink_allowed slots id node from to m h ended is sound can s ruled len at small =
      let v : View = m.0 in
      let r = opened load shape s id v h ended is at ruled in
      let i : ℕ = link_of shape.rows node in
      by_found load shape s id i (suc from) (suc to) m
      (λ m'. (m'.1 ≡ m.1) × Went v m'.0 [] × (m'.0 ≡ watched_view v node (steps.Unlink node from to) (suc from) (suc to) m'.0.seen)) (watching node (steps.Unlink node from to) m (slice_index s.words i)) (unlinking node from to m)
      (λ u e told. ((λ hit. told), (λ ne. absurd (ne e))))
      (λ u e told. ((λ hit. absurd (e hit)), (λ ne. told)))
      (λ e. unlink_owes s id v h ended is at r node from to m.1 sound can e)
      (λ e. watch_owes s id v h ended is at r node (steps.Unlink node from to) m.1 can.known refl)

  -- the same, for numbers and nodes that are given by equations
  pub unlink_at : (slots id i old new : ℕ) (node k : Node) (from a to b : ℕ) (m : Me (Option C) View) (h : ℕ) (ended : List ℕ) → i ≡ link_of shape.rows node → old ≡ suc from → new ≡ suc to → k ≡ node → a ≡ from → b ≡ to → m.0.callers ≡ h ∷ ended → Sound (after m.0.opening m.0.seen)
      → Unlinkable (after m.0.opening m.0.seen) node from to → Allows (Ruled load shape) slots id m i (λ n. either (eqb n old) new n) (unlinking k a b m)
  unlink_at slots id i old new node k from a to b m h ended ei eo en ek ea eb is sound can =
      subst (λ (z : Node × ℕ × ℕ). Allows (Ruled load shape) slots id m i (λ n. either (eqb n old) new n) (unlinking z.0 z.1 z.2 m)) (λ j. (sym ek j, sym ea j, sym eb j))
      (subst (λ (z : ℕ × ℕ × ℕ). Allows (Ruled load shape) slots id m z.0 (λ n. either (eqb n z.1) z.2 n) (unlinking node from to m)) (λ j. (sym ei j, sym eo j, sym en j))
      (unlink_allowed slots id node from to m h ended is sound can))

-- What a watch and an unlink told

pub did_watch : {S : Type 0} (node : Node) (step : Step) (m : Me S View) (n : ℕ) (m' : Me S View) → watching node step m n m' → Watching m.0 m'.0 node step n
did_watch node step m n m' told = record { shows = told.2; onward = told.3; watches = record { watched = ap (λ (z : View). z.watched) told.4; shown = ap (λ (z : View). z.shown) told.4 } }

pub did_move : {S : Type 0} (node : Node) (from to : ℕ) (m : Me S View) (n : ℕ) (m' : Me S View) → unlinking node from to m n m' → Moves m.0 m'.0 node from to n
did_move node from to m n m' told = (
  (λ hit. let t = told.0 hit in record { watched = ap (λ (z : View). z.watched) t.2; shown = ap (λ (z : View). z.shown) t.2 }),
  (λ miss. did_watch node (steps.Unlink node from to) m n m' (told.1 miss)),
)

-- whether it moved
pub did_unlink : (node : Node) (from to : ℕ) (v : View) (n : ℕ) (w : View) → Moves v w node from to n → Unlinks v w node from to (n == suc from)
did_unlink node from to v n w told = ⊎_elim
    (λ (hit : n ≡ suc from). subst (λ (b : Bool). Unlinks v w node from to b) (sym (eq-eqb n (suc from) hit)) (told.0 hit))
    (λ (miss : n ≢ suc from). subst (λ (b : Bool). Unlinks v w node from to b) (sym (ne_eqb n (suc from) miss)) (n, miss, told.1 miss))
    (cases_eq n (suc from))

-- a node that is known is one of the table
pub node_there : (shape : Shape) (q : Queue) (node : Node) → Within shape q → IsKnown q node → HasNode shape node
node_there shape q (nodes.Head l) within known = let low : l < q.lists = known in let lists = within.lists in omega (arith, low, lists)
node_there shape q (nodes.Row r) within known = within.low r known.0 known.1

-- and so is that of a stop
pub stop_known : (q : Queue) (l w : ℕ) → l < q.lists → IsStop q l w → IsKnown q (node_at l w)
stop_known q l zero low stop = low
stop_known q l (suc r) low stop = (stop.0, stop.1)
