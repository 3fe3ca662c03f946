-- slots that leave with a seat, and come home
use Rattle.std.proofs.Common.{◌≡◌, ◌≢◌, ℕ, ◌+◌, ◌<◌, ◌≤◌, ◌⊎◌, List, [], ◌∷◌, ◌++◌, length, set, Option, Some, None, refl, sym, ap, ◌∙◌, subst, ⊎_elim, arith, append-nil, length-set, inl, inr, eqb, eq-eqb, ne_eqb, if◌then◌else◌}
use Rattle.std.specs.Prelude.{slice_index}
use Rattle.std.specs.List.{sum_by}
use Rattle.std.proofs.lemmas.Bool.{cases_eq, cond-true, cond-false}
use Rattle.std.proofs.lemmas.List.{set-get_or}
use mathlib.Core.Option.{some, none}
use mathlib.Core.Option as maybe
use lib.ListN.{get_elem?}
use Rattle.atomic_table.specs.Table.{State, Me, takes, gives, put_back, Allows}
use Rattle.atomic_table.proofs.Lists as lists
use Rattle.queue_model.specs.declared.queues.Queue.{Queue}
use Rattle.queue_model.specs.declared.rows.Row.{Row}
use Rattle.queue_model.specs.declared.rows.RowState.{RowState}
use Rattle.queue_model.specs.declared.rows.RowState.TheVariants.{Available, Locked, Unlocked, Dequeued, Deleted}
use Rattle.queue_model.specs.declared.steps.Step.{Step}
use Rattle.queue_model.specs.History.{after}
use Rattle.acts_core.specs.Load.{Load}
use Rattle.queue_model.specs.State.{row_at, IsIn, entries}
use Rattle.queue_model.proofs.Stable.{same_state}
use Rattle.link_core.proofs.Drawing.{not_linked}
use Rattle.link_core.specs.Steps.{place_of_step, shown}
use Rattle.link_core.specs.Table.{Table}
use Rattle.entry_table.specs.declared.view.Drawing.{Drawing}
use Rattle.entry_table.specs.declared.view.Shape.{Shape}
use Rattle.entry_table.specs.declared.view.View.{View}
use Rattle.entry_table.specs.Views.{Has, caller_of, drawing_at, Mine, reached_by, AllEnd}
use Rattle.entry_table.specs.Rule.{table_at, Bare, Lies, Cargoes, Each, Takes, Holds, Away, RuledAt, Ruled, allowance, share}
use Rattle.entry_table.specs.Plays.{fetched, given, slotted_view}
use Rattle.entry_table.proofs.Frames.{views_set, set_at, same_view, sum_views, drafts_set}
use Rattle.entry_table.proofs.Onwards.{links_same, watches_set}
use Rattle.entry_table.proofs.Keeping.{opened, now, me, drawn_low, has_me, held_now, sees_same, ruled_next}
use Rattle.entry_table.proofs.Looking.{reached_low}

-- another seat for the slot of one row
abbrev pub out_to : (ℕ → ℕ) → ℕ → ℕ → ℕ → ℕ
out_to outs row id r = if eqb r row then id else outs r

pub out_here : (outs : ℕ → ℕ) (row id r : ℕ) → r ≡ row → out_to outs row id r ≡ id
out_here outs row id r e = cond-true (eqb r row) id (outs r) (eq-eqb r row e)

pub out_else : (outs : ℕ → ℕ) (row id r : ℕ) → r ≢ row → out_to outs row id r ≡ outs r
out_else outs row id r ne = cond-false (eqb r row) id (outs r) (ne_eqb r row ne)

-- what is out is not at home
pub not_out : {S : Type 0} (y : S) → (o : maybe.Option S) → o ≡ none → some o ≡ some (some y) → ⊥
not_out {S} y o z e = let n : o ≡ some y = cc in absurd (cc)

module _ {S : Type 0} (homes : List (maybe.Option S)) (outs : ℕ → ℕ) (views : List View) (id row : ℕ) where
  pub takes_more : (w : View) (y : S) → row < length homes → get_elem? homes row ≡ some (some y) → w.slot ≡ Some row → Each (Takes homes outs) views → Each (Takes (set homes row none) (out_to outs row id)) (set views id w)
  takes_more w y less full out each = views_set (Takes (set homes row none) (out_to outs row id)) views id w
      (λ j u ne e r is. let t = each j u e r is in
      let off : r ≢ row = λ (z : r ≡ row). not_out y none refl (sym t.1 ∙ ap (get_elem? homes) z ∙ full) in
      (out_else outs row id r off ∙ t.0, lists.set_else homes row r none off ∙ t.1))
      (λ r is. let same : row ≡ r = (let z : Some row ≡ Some r = sym out ∙ is in cc) in (out_here outs row id r (sym same), subst (λ (k : ℕ). get_elem? (set homes row none) k ≡ some none) same (lists.set_here homes row none less)))

  pub away_more : (v w : View) → get_elem? views id ≡ some v → v.slot ≡ None → w.slot ≡ Some row → Away homes outs views → Away (set homes row none) (out_to outs row id) (set views id w)
  away_more v w at idle out away r e = ⊎_elim
      (λ (hit : r ≡ row). (w, subst (λ (k : ℕ). get_elem? (set views id w) k ≡ some w) (sym (out_here outs row id r hit)) (set_at views id v w at), out ∙ ap (λ (k : ℕ). Some k) (sym hit)))
      (λ (miss : r ≢ row). let a = away r (sym (lists.set_else homes row r none miss) ∙ e) in
      let off : outs r ≢ id = λ (z : outs r ≡ id). (let n : None ≡ Some r = sym idle ∙ ap (λ (x : View). x.slot) (same_view views id (outs r) v a.0 at a.1 (sym z)) ∙ a.2 in absurd (cc)) in
      (a.0, subst (λ (k : ℕ). get_elem? (set views id w) k ≡ some a.0) (sym (out_else outs row id r miss)) (lists.set_else views id (outs r) w off ∙ a.1), a.2))
      (cases_eq r row)

  pub takes_back : (v w : View) (y : S) → get_elem? views id ≡ some v → v.slot ≡ Some row → w.slot ≡ None → Each (Takes homes outs) views → Each (Takes (set homes row (some y)) outs) (set views id w)
  takes_back v w y at out idle each =
      let mine = each id v at row out in
      views_set (Takes (set homes row (some y)) outs) views id w
      (λ j u ne e r is. let t = each j u e r is in let off : r ≢ row = λ (z : r ≡ row). ne (sym t.0 ∙ (ap outs z ∙ mine.0)) in (t.0, lists.set_else homes row r (some y) off ∙ t.1))
      (λ r is. let z : None ≡ Some r = sym idle ∙ is in absurd (cc))

  pub away_back : (v w : View) (y : S) → row < length homes → get_elem? views id ≡ some v → v.slot ≡ Some row → Away homes outs views → Away (set homes row (some y)) outs (set views id w)
  away_back v w y less at out away r e = ⊎_elim
      (λ (hit : r ≡ row). absurd (not_out y none refl (sym e ∙ (ap (get_elem? (set homes row (some y))) hit ∙ lists.set_here homes row (some y) less))))
      (λ (miss : r ≢ row). let a = away r (sym (lists.set_else homes row r (some y) miss) ∙ e) in
      let off : outs r ≢ id = λ (z : outs r ≡ id). (let n : Some row ≡ Some r = sym out ∙ ap (λ (x : View). x.slot) (same_view views id (outs r) v a.0 at a.1 (sym z)) ∙ a.2 in absurd (miss (let y : r ≡ row = cc in y))) in
      (a.0, lists.set_else views id (outs r) w off ∙ a.1, a.2))
      (cases_eq r row)

-- the slot is out, or empty
abbrev pub IsBare : {C : Type 0} → maybe.Option (Option C) → Type 0
IsBare none = Unit {0}
IsBare (some None) = Unit {0}
IsBare (some (Some c)) = ⊥

module _ {C : Type 0} (load : C → Load) where
  bare_of : (homes : List (maybe.Option (Option C))) (r : ℕ) (o : maybe.Option (Option C)) → IsBare o → get_elem? homes r ≡ some o → Bare load homes r
  bare_of homes r none bare e = inl e
  bare_of homes r (some None) bare e = inr e
  bare_of homes r (some (Some c)) bare e = absurd bare

  -- the slots of other rows
  pub lies_else : (homes : List (maybe.Option (Option C))) (s r : ℕ) (o : maybe.Option (Option C)) (x : Row) (k : RowState) → r ≢ s → Lies load homes r x k → Lies load (set homes s o) r x k
  lies_else homes s r o x Available ne l = (l.0, lists.set_else homes s r o ne ∙ l.1, l.2)
  lies_else homes s r o x (Unlocked h) ne l = (l.0, lists.set_else homes s r o ne ∙ l.1, l.2)
  lies_else homes s r o x (Locked h) ne l = ⊎_elim (λ e. inl (lists.set_else homes s r o ne ∙ e)) (λ e. inr (lists.set_else homes s r o ne ∙ e)) l
  lies_else homes s r o x Dequeued ne l = ⊎_elim (λ e. inl (lists.set_else homes s r o ne ∙ e)) (λ e. inr (lists.set_else homes s r o ne ∙ e)) l
  lies_else homes s r o x Deleted ne l = ⊎_elim (λ e. inl (lists.set_else homes s r o ne ∙ e)) (λ e. inr (lists.set_else homes s r o ne ∙ e)) l

  pub bare_else : (homes : List (maybe.Option (Option C))) (s r : ℕ) (o : maybe.Option (Option C)) → r ≢ s → Bare load homes r → Bare load (set homes s o) r
  bare_else homes s r o ne l = ⊎_elim (λ e. inl (lists.set_else homes s r o ne ∙ e)) (λ e. inr (lists.set_else homes s r o ne ∙ e)) l

  -- the slot of a row that is not in the queue, or is locked, goes out or comes home empty
  pub cargoes_bare : (homes : List (maybe.Option (Option C))) (q : Queue) (row : ℕ) (o : maybe.Option (Option C)) → row < length homes → IsBare o → (row_at q row ≡ None) ⊎ ((k : ℕ) × IsIn q row (Locked k)) → Cargoes load homes q → Cargoes load (set homes row o) q
  cargoes_bare homes q row o less bare kind c =
      let here : Bare load (set homes row o) row = bare_of (set homes row o) row o bare (lists.set_here homes row o less) in record {
        rows = λ r y e. ⊎_elim
            (λ (hit : r ≡ row). ⊎_elim
            (λ (t : row_at q row ≡ None). let n : Some y ≡ None = sym e ∙ (ap (row_at q) hit ∙ t) in absurd (cc))
            (λ (t : (k : ℕ) × IsIn q row (Locked k)).
            let eq : Some t.1.0 ≡ Some y = sym t.1.1 ∙ (ap (row_at q) (sym hit) ∙ e) in let xy : t.1.0 ≡ y = cc in
            let state : y.state ≡ Locked t.0 = ap (λ (z : Row). z.state) (sym xy) ∙ t.1.2 in
            subst (λ (z : RowState). Lies load (set homes row o) r y z) (sym state) (subst (Bare load (set homes row o)) (sym hit) here)) kind)
            (λ (miss : r ≢ row). lies_else homes row r o y y.state miss (c.rows r y e))
            (cases_eq r row);
        others = λ r within e. ⊎_elim
            (λ (hit : r ≡ row). subst (Bare load (set homes row o)) (sym hit) here)
            (λ (miss : r ≢ row). bare_else homes row r o miss (c.others r (let same = length-set homes row o in omega (arith, within, same)) e))
            (cases_eq r row);
      }

module _ {C : Type 0} (load : C → Load) (shape : Shape) where
  module _ (s : State (Option C) View) (id : ℕ) (v : View) (h : ℕ) (ended : List ℕ) (is : v.callers ≡ h ∷ ended) (at : get_elem? s.views id ≡ some v) (r : RuledAt load shape v.opening s) where
    -- a row that the pass drew is not in the queue
    pub drawn_none : (row : ℕ) (d : Drawing) → drawing_at v row ≡ Some d → row_at (now load shape s id v h ended is at r) row ≡ None
    drawn_none row d drawing = not_linked (table_at shape s.words r.drawer r.reserved) (now load shape s id v h ended is at r) (me load shape s id v h ended is at r) row r.stands ((r.drafts id v at row d drawing).drew)

    pub mine_kind : (row : ℕ) → Mine (now load shape s id v h ended is at r) v row → (row_at (now load shape s id v h ended is at r) row ≡ None) ⊎ ((k : ℕ) × IsIn (now load shape s id v h ended is at r) row (Locked k))
    mine_kind row mine = ⊎_elim
        (λ (t : (d : Drawing) × (drawing_at v row ≡ Some d)). inl (drawn_none row t.0 t.1))
        (λ (t : IsIn (now load shape s id v h ended is at r) row (Locked (caller_of v.callers))). inr (caller_of v.callers, t)) mine

    pub mine_less : (row : ℕ) → Mine (now load shape s id v h ended is at r) v row → row < length s.homes
    mine_less row mine = let tops = r.stands.draws.top in let rows = r.rows in ⊎_elim
        (λ (t : (d : Drawing) × (drawing_at v row ≡ Some d)). let low = r.stands.draws.low row (caller_of v.callers) ((r.drafts id v at row t.0 t.1).drew) in omega (arith, tops, rows, low))
        (λ (t : IsIn (now load shape s id v h ended is at r) row (Locked (caller_of v.callers))). let low = r.stands.draws.below row t.0 t.1 in omega (arith, tops, rows, low)) mine

    -- its slot is at home, and empty, while the pass has none out
    pub slot_home : (row : ℕ) → v.slot ≡ None → Mine (now load shape s id v h ended is at r) v row → get_elem? s.homes row ≡ some (some None)
    slot_home row idle mine = ⊎_elim (λ (out : get_elem? s.homes row ≡ some none). absurd (elsewhere out)) (λ (home : get_elem? s.homes row ≡ some (some None)). home) bare
      where
        q : Queue
        q = now load shape s id v h ended is at r

        bare : Bare load s.homes row
        bare = ⊎_elim
            (λ (t : (d : Drawing) × (drawing_at v row ≡ Some d)). r.cargoes.others row (mine_less row mine) (drawn_none row t.0 t.1))
            (λ (t : IsIn (now load shape s id v h ended is at r) row (Locked (caller_of v.callers))). subst (λ (k : RowState). Lies load s.homes row t.0 k) t.2 (r.cargoes.rows row t.0 t.1)) mine

        seat_mine : r.seats (caller_of v.callers) ≡ id
        seat_mine = ((r.knows id v at).mine (caller_of v.callers) (has_me load shape s id v h ended is at r)).0

        elsewhere : get_elem? s.homes row ≡ some none → ⊥
        elsewhere out =
            let a = r.away row out in
            let j : ℕ = r.outs row in
            let same : j ≡ id → ⊥ = λ z. (let n : None ≡ Some row = sym idle ∙ ap (λ (x : View). x.slot) (same_view s.views id j v a.0 at a.1 (sym z)) ∙ a.2 in absurd (cc)) in
            ⊎_elim
            (λ (u : (d : Drawing) × (drawing_at a.0 row ≡ Some d)). let x = r.drafts j a.0 a.1 row u.0 u.1 in ⊎_elim
            (λ (t : (d : Drawing) × (drawing_at v row ≡ Some d)).
            let e : Some (caller_of a.0.callers) ≡ Some (caller_of v.callers) = sym x.drew ∙ (r.drafts id v at row t.0 t.1).drew in let k : caller_of a.0.callers ≡ caller_of v.callers = cc in
            same (sym ((r.knows j a.0 a.1).mine (caller_of a.0.callers) x.mine).0 ∙ ap r.seats k ∙ seat_mine))
            (λ (t : IsIn (now load shape s id v h ended is at r) row (Locked (caller_of v.callers))).
            let n : None ≡ Some t.0 = sym (not_linked (table_at shape s.words r.drawer r.reserved) q (caller_of a.0.callers) row r.stands x.drew) ∙ t.1 in absurd (cc)) mine)
            (λ (u : (k : ℕ) × Has k a.0.callers × IsIn q row (Locked k)). ⊎_elim
            (λ (t : (d : Drawing) × (drawing_at v row ≡ Some d)). let n : None ≡ Some u.2.0 = sym (drawn_none row t.0 t.1) ∙ u.2.1 in absurd (cc))
            (λ (t : IsIn (now load shape s id v h ended is at r) row (Locked (caller_of v.callers))).
            let l : Locked (caller_of v.callers) ≡ Locked u.0 = same_state q row (Locked (caller_of v.callers)) (Locked u.0) t u.2 in let k : caller_of v.callers ≡ u.0 = cc in
            same (sym ((r.knows j a.0 a.1).mine u.0 u.1).0 ∙ ap r.seats (sym k) ∙ seat_mine)) mine)
            (r.held j a.0 a.1 row a.2)

    pub mine_now : (row : ℕ) → Mine (after v.opening v.seen) v row → Mine (now load shape s id v h ended is at r) v row
    mine_now row mine = ⊎_elim
        (λ (t : (d : Drawing) × (drawing_at v row ≡ Some d)). inl t)
        (λ (t : IsIn (after v.opening v.seen) row (Locked (caller_of v.callers))). inr (held_now load shape s id v h ended is at r (caller_of v.callers) row (has_me load shape s id v h ended is at r) t)) mine

    -- the rule after a load that moves the slot of such a row
    slotted : (row : ℕ) (slot : Option ℕ) (o : maybe.Option (Option C)) (outs : ℕ → ℕ) (step : Step) (n : ℕ) (words : List ℕ) → words ≡ s.words → reached_by step n v.reached ≤ slice_index s.words 0
        → IsBare o → Mine (now load shape s id v h ended is at r) v row
        → Each (Takes (set s.homes row o) outs) (set s.views id (slotted_view v slot step n))
        → Holds (now load shape s id v h ended is at r) id (slotted_view v slot step n)
        → Away (set s.homes row o) outs (set s.views id (slotted_view v slot step n))
        → RuledAt load shape v.opening record { words = words; homes = set s.homes row o; views = set s.views id (slotted_view v slot step n) }
    slotted row slot o outs step n words is_same reached bare mine taking held away =
        let w : View = slotted_view v slot step n in
        let all : r.history ≡ r.history ++ [] = sym (append-nil r.history) in
        let sums = sum_views allowance s.views id v w at in
        let shares = sum_views share s.views id v w at in
        let allowed : sum_by allowance s.views + entries (after v.opening r.history) ≤ 524288 = r.allowed in
        let shared : sum_by share s.views + slice_index s.words 0 ≤ shape.rows = r.shared in
        subst (λ (l : List ℕ). RuledAt load shape v.opening record { words = l; homes = set s.homes row o; views = set s.views id w }) (sym is_same)
        (ruled_next load shape s id v h ended is at r [] w s.words (set s.homes row o) r.drawer r.reserved outs r.enders record {
          seen = sees_same load shape s id v h ended is at r w refl;
          same = record { shape = refl; opening = refl; callers = refl; made = refl; alone = refl; consumers = refl };
          legal = tt;
          mine = λ k ne. refl;
          bells = λ c ne. refl;
          told = refl;
          ends = subst (AllEnd r.enders) all r.ends;
          rows = length-set s.homes row o ∙ r.rows;
          callers = refl;
          stands = r.stands;
          cargoes = cargoes_bare load s.homes (now load shape s id v h ended is at r) row o (mine_less row mine) bare (mine_kind row mine) r.cargoes;
          drafts = drafts_set shape.rows s.words s.words r.drawer s.views id v w at (drawn_low load shape s id v h ended is at r) (λ k x less. refl) refl refl r.drafts;
          unwritten = r.unwritten;
          top = omega arith;
          reaches = reached;
          watches = watches_set shape (now load shape s id v h ended is at r) [] s.words s.words s.views id v w at refl (links_same shape (now load shape s id v h ended is at r) s.words) r.watches;
          takes = taking;
          held = held;
          away = away;
          allowed = omega (arith, sums, allowed);
          shared = omega (arith, shares, shared);
        })

  -- a load that takes the slot of a row that the pass drew or holds
  pub fetches_allowed : (slots id i row : ℕ) (step : Step) (m : Me (Option C) View) (h : ℕ) (ended : List ℕ) → ((ws : List ℕ) → i ≡ place_of_step shape.rows ws step) → m.0.callers ≡ h ∷ ended → m.0.slot ≡ None → Mine (after m.0.opening m.0.seen) m.0 row
      → Allows (Ruled load shape) slots id m i (λ n. n) (fetched row step m)
  fetches_allowed slots id i row step m h ended place is idle mine s ruled len at low =
      let v : View = m.0 in
      let r = opened load shape s id v h ended is at ruled in
      let n : ℕ = slice_index s.words i in
      let t : Table = table_at shape s.words r.drawer r.reserved in
      let shows : shown t step ≡ n = ap (slice_index s.words) (sym (place s.words)) in
      let reached : (v.reached ≤ reached_by step n v.reached) × (reached_by step n v.reached ≤ slice_index s.words 0) = subst (λ (k : ℕ). (v.reached ≤ reached_by step k v.reached) × (reached_by step k v.reached ≤ slice_index s.words 0)) shows (reached_low load shape step v t (r.reaches id v at)) in
      let mine' = mine_now s id v h ended is at r row mine in
      let home = slot_home s id v h ended is at r row idle mine' in
      let less = mine_less s id v h ended is at r row mine' in
      let w : View = slotted_view v (Some row) step n in (
        w,
        takes row None,
        home,
        (
          v.opening,
          slotted s id v h ended is at r row (Some row) none (out_to r.outs row id) step n (set s.words i n) (set-get_or s.words i 0) reached.1 tt mine'
              (takes_more s.homes r.outs s.views id row w None less home refl r.takes)
              (λ k e. let z : row ≡ k = (let y : Some row ≡ Some k = e in cc) in ⊎_elim
              (λ (x : (d : Drawing) × (drawing_at v row ≡ Some d)). inl (x.0, subst (λ (y : ℕ). drawing_at v y ≡ Some x.0) z x.1))
              (λ (x : IsIn (now load shape s id v h ended is at r) row (Locked (caller_of v.callers))). inr (caller_of v.callers, has_me load shape s id v h ended is at r, subst (λ (y : ℕ). IsIn (now load shape s id v h ended is at r) y (Locked (caller_of v.callers))) z x)) mine')
              (away_more s.homes r.outs s.views id row v w at idle refl r.away),
        ),
        (refl, refl),
      )

  -- a load that gives the slot back, empty
  pub gives_allowed : (slots id i row : ℕ) (step : Step) (m : Me (Option C) View) (h : ℕ) (ended : List ℕ) → ((ws : List ℕ) → i ≡ place_of_step shape.rows ws step) → m.0.callers ≡ h ∷ ended → m.0.slot ≡ Some row → m.1 ≡ (row, None) ∷ [] → Mine (after m.0.opening m.0.seen) m.0 row
      → Allows (Ruled load shape) slots id m i (λ n. n) (given step m)
  gives_allowed slots id i row step m h ended place is out carried mine s ruled len at low =
      let v : View = m.0 in
      let r = opened load shape s id v h ended is at ruled in
      let n : ℕ = slice_index s.words i in
      let t : Table = table_at shape s.words r.drawer r.reserved in
      let shows : shown t step ≡ n = ap (slice_index s.words) (sym (place s.words)) in
      let reached : (v.reached ≤ reached_by step n v.reached) × (reached_by step n v.reached ≤ slice_index s.words 0) = subst (λ (k : ℕ). (v.reached ≤ reached_by step k v.reached) × (reached_by step k v.reached ≤ slice_index s.words 0)) shows (reached_low load shape step v t (r.reaches id v at)) in
      let mine' = mine_now s id v h ended is at r row mine in
      let less = mine_less s id v h ended is at r row mine' in
      let w : View = slotted_view v None step n in
      let rule = slotted s id v h ended is at r row None (some None) r.outs step n (set s.words i n) (set-get_or s.words i 0) reached.1 tt mine'
      (takes_back s.homes r.outs s.views id row v w None at out refl r.takes)
      (λ k e. let z : None ≡ Some k = e in absurd (cc))
      (away_back s.homes r.outs s.views id row v w None less at out r.away) in (
        w,
        gives,
        tt,
        (v.opening, subst (λ (l : List (ℕ × Option C)). RuledAt load shape v.opening record { words = set s.words i n; homes = put_back s.homes l; views = set s.views id w }) (sym carried) rule),
        (refl, refl),
      )
