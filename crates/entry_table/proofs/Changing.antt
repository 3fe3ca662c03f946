-- exchanges of a row's state
use Rattle.std.proofs.Common.{◌≡◌, ◌≢◌, ℕ, ◌+◌, ◌<◌, ◌≤◌, eqb, List, [], ◌∷◌, ◌++◌, length, set, Option, Some, None, find, refl, sym, ap, ◌∙◌, subst, ⊎_elim, arith, length-set, inl, inr}
use Rattle.std.specs.Prelude.{slice_index}
use Rattle.std.specs.List.{sum_by}
use mathlib.Core.Option as maybe
use lib.ListN.{get_elem?}
use prog.Atomic.{either}
use Rattle.atomic_table.specs.Table.{State, Me, keeps, takes, gives, put_back, rest, Allows}
use Rattle.atomic_table.proofs.Lists as lists
use Rattle.queue_model.specs.declared.deeds.Act.{Act}
use Rattle.queue_model.specs.declared.deeds.Act.TheVariants as acts
use Rattle.queue_model.specs.declared.deeds.Deed.{Deed}
use Rattle.queue_model.specs.declared.queues.Queue.{Queue}
use Rattle.queue_model.specs.declared.queues.Reservation.{Reservation}
use Rattle.queue_model.specs.declared.rows.Row.{Row}
use Rattle.queue_model.specs.declared.rows.RowState.{RowState}
use Rattle.queue_model.specs.declared.rows.RowState.TheVariants.{Available, Locked, Unlocked, Dequeued, Deleted}
use Rattle.queue_model.specs.declared.steps.Change.{Change}
use Rattle.queue_model.specs.declared.steps.Change.TheVariants.{Acq, Lock, Unlock, Steal, Rel, Deq, Del}
use Rattle.queue_model.specs.declared.steps.DraftWord.{DraftWord}
use Rattle.queue_model.specs.declared.steps.Node.TheVariants as nodes
use Rattle.queue_model.specs.declared.steps.Step.TheVariants as steps
use Rattle.queue_model.specs.History.{after, Legal, deed}
use Rattle.queue_model.specs.Laws.{SameGoods, KeepsDepth}
use Rattle.acts_core.specs.Load.{Load}
use Rattle.acts_core.specs.Moments.{IsLoadOf}
use Rattle.queue_model.specs.State.{is_row, row_at, IsIn, entries}
use Rattle.queue_model.specs.Table.{Can, acted, changed, in_state, left_in}
use Rattle.queue_model.proofs.Depths.{depth_kept}
use Rattle.queue_model.proofs.Histories.{own-mine}
use Rattle.queue_model.proofs.Owns.{own_acquired, own_locked, own_stolen}
use Rattle.link_core.specs.Layout.{state_of, draft_of}
use Rattle.queue_model.specs.Packing.{pack_state}
use Rattle.link_core.specs.Stands.{Stands}
use Rattle.link_core.specs.Steps.{FitsState, GoesFrom, IsPackable, goes_to, act_with, reserved_after, size_in}
use Rattle.link_core.specs.Table.{Table, but}
use Rattle.link_core.proofs.Changing.{state_step, row_of_change}
use Rattle.link_core.proofs.Frames.{but_here, draft_low, draft_high, set_else}
use Rattle.link_core.proofs.Softening.{found_before, none_before}
use Rattle.entry_table.specs.declared.view.Shape.{Shape}
use Rattle.entry_table.specs.declared.view.View.{View}
use Rattle.entry_table.specs.Views.{Has, caller_of, takes_of, EndsBy, AllEnd}
use Rattle.entry_table.specs.Rule.{table_at, Full, Cargoes, Lies, Each, Takes, Holds, Away, RuledAt, Ruled, allowance, share}
use Rattle.entry_table.specs.Plays.{by_me, Went, changed_view, DidChange, took, freed, ended, looked, TakesOut, IsEnding}
use Rattle.entry_table.proofs.Frames.{sum_views, drafts_set, takes_set, away_set}
use Rattle.entry_table.proofs.Onwards.{links_off, watches_set}
use Rattle.entry_table.proofs.Keeping.{Same, opened, now, drawn_low, has_me, knows_me, held_now, sees_all, ruled_next, went, mine_alone}
use Rattle.entry_table.proofs.Looking.{miss_owes, by_found}
use Rattle.entry_table.proofs.Reserving.{ends_more}
use Rattle.entry_table.proofs.Slots.{out_to, takes_more, away_more, takes_back, away_back}
use Rattle.entry_table.proofs.Entering.{node_now, row_same}
use Rattle.entry_table.proofs.Ending.{ends_but_any, ender_of, has_more}
use Rattle.queue_model.specs.declared.rows.Slip.{Slip}
use mathlib.Core.List.{IsPrefix}

-- What all changes have in common

no_take : (n : ℕ) (change : Change) (row h c : ℕ) → takes_of c (deed h (act_with n change row) ∷ []) ≡ []
no_take n Acq row h c = refl
no_take n Lock row h c = refl
no_take n Unlock row h c = refl
no_take n Steal row h c = refl
no_take n Rel row h c = refl
no_take n Deq row h c = refl
no_take n Del row h c = refl

keeps_depth : (n : ℕ) (change : Change) (row : ℕ) → KeepsDepth (act_with n change row)
keeps_depth n Acq row = tt
keeps_depth n Lock row = tt
keeps_depth n Unlock row = tt
keeps_depth n Steal row = tt
keeps_depth n Rel row = tt
keeps_depth n Deq row = tt
keeps_depth n Del row = tt

-- Changes that take the cargo out

rows_out : (q : Queue) (h n : ℕ) (change : Change) (row : ℕ) → TakesOut change → (acted q h (act_with n change row)).rows ≡ (changed q row (in_state (Locked h))).rows
rows_out q h n Acq row out = refl
rows_out q h n Lock row out = refl
rows_out q h n Steal row out = refl
rows_out q h n Unlock row out = absurd out
rows_out q h n Rel row out = absurd out
rows_out q h n Deq row out = absurd out
rows_out q h n Del row out = absurd out

pub held_out : (q : Queue) (h n : ℕ) (change : Change) (row : ℕ) → TakesOut change → Can q h (act_with n change row) → IsIn (acted q h (act_with n change row)) row (Locked h)
held_out q h n Acq row out can = own_acquired q h row can
held_out q h n Lock row out can = own_locked q h row can
held_out q h n Steal row out can = own_stolen q h row can
held_out q h n Unlock row out can = absurd out
held_out q h n Rel row out can = absurd out
held_out q h n Deq row out can = absurd out
held_out q h n Del row out can = absurd out

ends_out : (enders : ℕ → ℕ) (h n : ℕ) (change : Change) (row : ℕ) → TakesOut change → EndsBy enders h (act_with n change row)
ends_out enders h n Acq row out = tt
ends_out enders h n Lock row out = tt
ends_out enders h n Steal row out = tt
ends_out enders h n Unlock row out = absurd out
ends_out enders h n Rel row out = absurd out
ends_out enders h n Deq row out = absurd out
ends_out enders h n Del row out = absurd out

module _ {C : Type 0} (load : C → Load) where
  -- where such a change goes from, the cargo is at home
  full_out : (homes : List (maybe.Option (Option C))) (h : ℕ) (change : Change) (row : ℕ) (x : Row) (from : RowState) → TakesOut change → GoesFrom h change from → Lies load homes row x from → Full load homes row x
  full_out homes h Acq row x from out goes lies = subst (λ (s : RowState). Lies load homes row x s) goes lies
  full_out homes h Lock row x from out goes lies = subst (λ (s : RowState). Lies load homes row x s) goes lies
  full_out homes h Steal row x from out goes lies = subst (λ (s : RowState). Lies load homes row x s) goes.1 lies
  full_out homes h Unlock row x from out goes lies = absurd out
  full_out homes h Rel row x from out goes lies = absurd out
  full_out homes h Deq row x from out goes lies = absurd out
  full_out homes h Del row x from out goes lies = absurd out

  lies_same : (homes homes' : List (maybe.Option (Option C))) (r : ℕ) (x : Row) (k : RowState) → get_elem? homes' r ≡ get_elem? homes r → Lies load homes r x k → Lies load homes' r x k
  lies_same homes homes' r x Available e l = (l.0, e ∙ l.1, l.2)
  lies_same homes homes' r x (Unlocked h) e l = (l.0, e ∙ l.1, l.2)
  lies_same homes homes' r x (Locked h) e l = ⊎_elim (λ a. inl (e ∙ a)) (λ a. inr (e ∙ a)) l
  lies_same homes homes' r x Dequeued e l = ⊎_elim (λ a. inl (e ∙ a)) (λ a. inr (e ∙ a)) l
  lies_same homes homes' r x Deleted e l = ⊎_elim (λ a. inl (e ∙ a)) (λ a. inr (e ∙ a)) l

  -- one row is changed, and maybe what its slot has
  pub cargoes_changed : (homes homes' : List (maybe.Option (Option C))) (q q' : Queue) (row : ℕ) (f : Row → Row) (x : Row) → ((z : Row) → SameGoods z (f z)) → row_at q row ≡ Some x → q'.rows ≡ (changed q row f).rows
      → length homes' ≡ length homes → ((r : ℕ) → r ≢ row → get_elem? homes' r ≡ get_elem? homes r) → Lies load homes' row (f x) (f x).state → Cargoes load homes q → Cargoes load homes' q'
  cargoes_changed homes homes' q q' row f x kept found rows wide else lies c = record {
    rows = λ r y e. ⊎_elim
        (λ (p : (r ≡ row) × (y ≡ f x)). subst (λ (z : ℕ × Row). Lies load homes' z.0 z.1 z.1.state) (λ i. (sym p.0 i, sym p.1 i)) lies)
        (λ (p : (r ≢ row) × (row_at q r ≡ Some y)). lies_same homes homes' r y y.state (else r p.0) (c.rows r y p.1))
        (found_before q row r f x y kept found (ap (λ (l : List Row). find (is_row r) l) (sym rows) ∙ e));
    others = λ r within e.
        let p = none_before q row r f x kept found (ap (λ (l : List Row). find (is_row r) l) (sym rows) ∙ e) in
        ⊎_elim (λ a. inl (else r p.0 ∙ a)) (λ a. inr (else r p.0 ∙ a)) (c.others r (omega (arith, within, wide)) p.1);
  }

-- Changes that bring the cargo home

abbrev pub IsHome : Change → Type 0
IsHome Unlock = Unit {0}
IsHome Rel = Unit {0}
IsHome change = ⊥

-- the cargo is that of the row, but for its count
abbrev pub Goods : Load → Row → Type 0
Goods l x = (l.id ≡ x.slip.id) × (l.size ≡ x.slip.size) × (l.content ≡ x.content) × (l.origin ≡ x.origin)

goods_left : (s : RowState) (n : ℕ) (z : Row) → SameGoods z (left_in s n z)
goods_left s n z = record { number = refl; slip = refl; content = refl; origin = refl }

goes_home : (h : ℕ) (change : Change) → IsHome change → GoesFrom h change (Locked h)
goes_home h Unlock home = refl
goes_home h Rel home = refl
goes_home h Acq home = absurd home
goes_home h Lock home = absurd home
goes_home h Steal home = absurd home
goes_home h Deq home = absurd home
goes_home h Del home = absurd home

rows_home : (q : Queue) (h n : ℕ) (change : Change) (row : ℕ) → IsHome change → (acted q h (act_with n change row)).rows ≡ (changed q row (left_in (goes_to h change) n)).rows
rows_home q h n Unlock row home = refl
rows_home q h n Rel row home = refl
rows_home q h n Acq row home = absurd home
rows_home q h n Lock row home = absurd home
rows_home q h n Steal row home = absurd home
rows_home q h n Deq row home = absurd home
rows_home q h n Del row home = absurd home

ends_home : (enders : ℕ → ℕ) (h n : ℕ) (change : Change) (row : ℕ) → IsHome change → EndsBy enders h (act_with n change row)
ends_home enders h n Unlock row home = tt
ends_home enders h n Rel row home = tt
ends_home enders h n Acq row home = absurd home
ends_home enders h n Lock row home = absurd home
ends_home enders h n Steal row home = absurd home
ends_home enders h n Deq row home = absurd home
ends_home enders h n Del row home = absurd home

-- Changes that move no cargo

rows_end : (q : Queue) (h : ℕ) (change : Change) (row : ℕ) (v : View) → IsEnding change v row → (acted q h (act_with 0 change row)).rows ≡ (changed q row (in_state (goes_to h change))).rows
rows_end q h Deq row v e = refl
rows_end q h Del row v e = refl
rows_end q h Acq row v e = absurd e
rows_end q h Lock row v e = absurd e
rows_end q h Unlock row v e = absurd e
rows_end q h Steal row v e = absurd e
rows_end q h Rel row v e = absurd e

-- who ends the row, after such a change
ends_after : (enders : ℕ → ℕ) (H : List Deed) (O : Queue) (h : ℕ) (change : Change) (from : RowState) (row : ℕ) (v : View) → Legal O H → IsEnding change v row → GoesFrom h change from → IsPrefix v.seen H → IsIn (after O H) row from → AllEnd enders H
    → (enders' : ℕ → ℕ) × AllEnd enders' (H ++ deed (caller_of v.callers) (act_with 0 change row) ∷ [])
ends_after enders H O h Deq from row v legal e goes p there all =
    let held : IsIn (after O H) row (Locked h) = subst (λ (s : RowState). IsIn (after O H) row s) goes there in
    (but enders row (caller_of v.callers), ends_more (but enders row (caller_of v.callers)) H (deed (caller_of v.callers) (acts.Deq row)) (ends_but_any enders row h (caller_of v.callers) O H legal held all) (but_here enders row (caller_of v.callers)))
ends_after enders H O h Del from row v legal e goes p there all =
    (enders, ends_more enders H (deed (caller_of v.callers) (acts.Del row)) all (ender_of enders (caller_of v.callers) row H all (subst (λ (l : List Deed). Has (deed (caller_of v.callers) (acts.Deq row)) l) p.1 (has_more (deed (caller_of v.callers) (acts.Deq row)) v.seen p.0 e))))
ends_after enders H O h Acq from row v legal e goes p there all = absurd e
ends_after enders H O h Lock from row v legal e goes p there all = absurd e
ends_after enders H O h Unlock from row v legal e goes p there all = absurd e
ends_after enders H O h Steal from row v legal e goes p there all = absurd e
ends_after enders H O h Rel from row v legal e goes p there all = absurd e

module _ {C : Type 0} (load : C → Load) where
  lies_home : (homes : List (maybe.Option (Option C))) (h : ℕ) (change : Change) (row : ℕ) (x : Row) → IsHome change → Full load homes row x → Lies load homes row x (goes_to h change)
  lies_home homes h Unlock row x home full = full
  lies_home homes h Rel row x home full = full
  lies_home homes h Acq row x home full = absurd home
  lies_home homes h Lock row x home full = absurd home
  lies_home homes h Steal row x home full = absurd home
  lies_home homes h Deq row x home full = absurd home
  lies_home homes h Del row x home full = absurd home

  lies_end : (homes : List (maybe.Option (Option C))) (h : ℕ) (change : Change) (from : RowState) (row : ℕ) (x : Row) (v : View) → IsEnding change v row → GoesFrom h change from → Lies load homes row x from → Lies load homes row (in_state (goes_to h change) x) (goes_to h change)
  lies_end homes h Deq from row x v e goes lies = subst (λ (s : RowState). Lies load homes row x s) goes lies
  lies_end homes h Del from row x v e goes lies = subst (λ (s : RowState). Lies load homes row x s) goes lies
  lies_end homes h Acq from row x v e goes lies = absurd e
  lies_end homes h Lock from row x v e goes lies = absurd e
  lies_end homes h Unlock from row x v e goes lies = absurd e
  lies_end homes h Steal from row x v e goes lies = absurd e
  lies_end homes h Rel from row x v e goes lies = absurd e

goods_in : (s : RowState) (z : Row) → SameGoods z (in_state s z)
goods_in s z = record { number = refl; slip = refl; content = refl; origin = refl }

module _ {C : Type 0} (load : C → Load) (shape : Shape) where
  module _ (s : State (Option C) View) (id : ℕ) (v : View) (h : ℕ) (ended : List ℕ) (is : v.callers ≡ h ∷ ended) (at : get_elem? s.views id ≡ maybe.some v) (r : RuledAt load shape v.opening s) (row : ℕ) (change : Change) (from : RowState) (count : ℕ) where
    abbrev tab : Table
    tab = table_at shape s.words r.drawer r.reserved

    abbrev q : Queue
    q = now load shape s id v h ended is at r

    abbrev k : ℕ
    k = caller_of v.callers

    abbrev a : Act
    a = act_with count change row

    -- what any change makes of the rule
    pub state_rule : (w : View) (homes : List (maybe.Option (Option C))) (outs enders : ℕ → ℕ) → FitsState tab k row change from → slice_index s.words (state_of row) ≡ pack_state from
        → w.seen ≡ r.history ++ by_me v a ∷ [] → Same v w → w.drawn ≡ v.drawn → w.told ≡ [] → w.watched ≡ v.watched → w.allowance ≡ v.allowance → w.share ≡ v.share → w.reached ≡ v.reached
        → length homes ≡ shape.rows → AllEnd enders (r.history ++ by_me v a ∷ []) → Cargoes load homes (acted q k a) → Each (Takes homes outs) (set s.views id w) → Holds (acted q k a) id w → Away homes outs (set s.views id w)
        → RuledAt load shape v.opening record { words = set s.words (state_of row) (pack_state (goes_to k change)); homes = homes; views = set s.views id w } × Went v w (by_me v a ∷ [])
    state_rule w homes outs enders fits hit seen same drawn told watched allowances shares reached rows ends cargoes taking held away =
        let i : ℕ = state_of row in
        let n : ℕ = pack_state (goes_to k change) in
        let words : List ℕ = set s.words i n in
        let reserved : ℕ → Reservation = but r.reserved k (reserved_after change (r.reserved k) (size_in tab row)) in
        let step = state_step tab q k row count change from r.stands fits hit in
        let stands : Stands (table_at shape words r.drawer reserved) (acted q k a) = step.1 in
        let off : (j : ℕ) (y : DraftWord) → j < shape.rows → slice_index words (draft_of j y) ≡ slice_index s.words (draft_of j y) = λ j y less. set_else s.words i n (draft_of j y) (omega (arith, draft_low j y, draft_high j y)) in
        let top : slice_index words 0 ≡ slice_index s.words 0 = set_else s.words i n 0 (omega arith) in
        let sums = sum_views allowance s.views id v w at in
        let share_sums = sum_views share s.views id v w at in
        let allowed : sum_by allowance s.views + entries q ≤ 524288 = r.allowed in
        let shared : sum_by share s.views + slice_index s.words 0 ≤ shape.rows = r.shared in
        let depth_is : entries (acted q k a) ≡ entries q = (depth_kept q k a step.0 (keeps_depth count change row)).0 in
        let low : v.reached ≤ slice_index s.words 0 = r.reaches id v at in (
          ruled_next load shape s id v h ended is at r (by_me v a ∷ []) w words homes r.drawer reserved outs enders record {
            seen = sees_all load shape s id v h ended is at r (by_me v a ∷ []) w seen;
            same = same;
            legal = (step.0, tt);
            mine = mine_alone load shape s id v h ended is at r a;
            bells = λ c ne. no_take count change row k c;
            told = told;
            ends = ends;
            rows = rows;
            callers = set_else s.words i n 1 (omega arith);
            stands = stands;
            cargoes = cargoes;
            drafts = drafts_set shape.rows s.words words r.drawer s.views id v w at (drawn_low load shape s id v h ended is at r) off drawn same.callers r.drafts;
            unwritten = λ j y less high. off j y less ∙ r.unwritten j y less (omega (arith, top, high));
            top = omega (arith, top);
            reaches = omega (arith, top, reached, low);
            watches = watches_set shape q (by_me v a ∷ []) s.words words s.views id v w at watched (links_off shape q s.words i n (λ l lt. omega arith) (λ j less. omega arith)) r.watches;
            takes = taking;
            held = held;
            away = away;
            allowed = omega (arith, sums, allowed, depth_is, allowances);
            shared = omega (arith, share_sums, shared, top, shares);
          },
          went load shape s id v h ended is at r w (by_me v a ∷ []) words r.drawer reserved seen (step.0, tt) (own-mine (by_me v a)) (mine_alone load shape s id v h ended is at r a) stands (omega (arith, reached)) (omega (arith, top, reached, low)),
        )

  -- Acq, Lock and Steal
  pub takes_allowed : (slots id row : ℕ) (change : Change) (from : RowState) (m : Me (Option C) View) (h : ℕ) (ended : List ℕ) (x : Row) → m.0.callers ≡ h ∷ ended → m.0.slot ≡ None → TakesOut change → row_at (after m.0.opening m.0.seen) row ≡ Some x
      → GoesFrom (caller_of m.0.callers) change from → IsPackable from
      → Allows (Ruled load shape) slots id m (state_of row) (λ n. either (eqb n (pack_state from)) (pack_state (goes_to (caller_of m.0.callers) change)) n) (took load row change from m)
  takes_allowed slots id row change from m h ended x is idle out known goes packable s ruled len at low =
      let v : View = m.0 in
      let r = opened load shape s id v h ended is at ruled in
      let h' : ℕ = caller_of v.callers in
      let a' : Act = act_with 0 change row in
      let q' : Queue = now load shape s id v h ended is at r in
      let t : Table = table_at shape s.words r.drawer r.reserved in
      let fits : FitsState t h' row change from = record { row = node_now load shape s id v h ended is at r (nodes.Row row) (x, known); goes = goes; packable = packable } in
      let w : View = changed_view v row change from (Some row) a' r.history in
      by_found load shape s id (state_of row) (pack_state from) (pack_state (goes_to h' change)) m
      (λ m'. (c : C) × (y : Row) × IsLoadOf y (load c) × (m'.1 ≡ (row, Some c) ∷ m.1) × DidChange v m'.0 row change from (Some row) a' y) (looked (steps.State row change from) m (slice_index s.words (state_of row))) (took load row change from m)
      (λ u e told. ((λ hit. told), (λ ne. absurd (ne e))))
      (λ u e told. ((λ hit. absurd (e hit)), (λ ne. told)))
      (λ e.
      let y = row_of_change t q' h' row change from r.stands fits e in
      let step = state_step t q' h' row 0 change from r.stands fits e in
      let full = full_out load s.homes h' change row y.0 from out goes (subst (λ (z : RowState). Lies load s.homes row y.0 z) y.2 (r.cargoes.rows row y.0 y.1)) in
      let tops = r.stands.draws.top in let rows = r.rows in let under = r.stands.draws.below row y.0 y.1 in
      let less : row < length s.homes = omega (arith, tops, rows, under) in
      let p = state_rule s id v h ended is at r row change from 0 w (set s.homes row maybe.none) (out_to r.outs row id) r.enders fits e refl (record { shape = refl; opening = refl; callers = refl; made = refl; alone = refl; consumers = refl }) refl refl refl refl refl refl
      (length-set s.homes row maybe.none ∙ r.rows) (ends_more r.enders r.history (by_me v a') r.ends (ends_out r.enders h' 0 change row out))
      (cargoes_changed load s.homes (set s.homes row maybe.none) q' (acted q' h' a') row (in_state (Locked h')) y.0 (goods_in (Locked h')) y.1 (rows_out q' h' 0 change row out) (length-set s.homes row maybe.none) (λ j ne. lists.set_else s.homes row j maybe.none ne)
      (inl (lists.set_here s.homes row maybe.none less)) r.cargoes)
      (takes_more s.homes r.outs s.views id row w (Some full.0) less full.1 refl r.takes)
      (λ j z. let same : row ≡ j = (let o : Some row ≡ Some j = z in cc) in inr (h', has_me load shape s id v h ended is at r, subst (λ (b : ℕ). IsIn (acted q' h' a') b (Locked h')) same (held_out q' h' 0 change row out step.0)))
      (away_more s.homes r.outs s.views id row v w at idle refl r.away) in
      (w, takes row (Some full.0), full.1, (v.opening, p.0), (full.0, y.0, full.2, refl, record { went = p.1; before = r.history; prefix = (knows_me load shape s id v h ended is at r).prefix; found = y.1; state = y.2; view = refl })))
      (λ e. miss_owes load shape s id (state_of row) (steps.State row change from) m h ended (λ ws. refl) is at r)

  -- Unlock and Rel, by the holder, with the cargo in its slot
  pub frees_allowed : (slots id row count : ℕ) (change : Change) (m : Me (Option C) View) (h : ℕ) (ended : List ℕ) (x : Row) (c : C) → m.0.callers ≡ h ∷ ended → m.0.slot ≡ Some row → m.1 ≡ (row, Some c) ∷ [] → IsHome change
      → row_at (after m.0.opening m.0.seen) row ≡ Some x → x.state ≡ Locked (caller_of m.0.callers) → caller_of m.0.callers < 4294967296
      → Goods (load c) x → (load c).count ≡ count
      → Allows (Ruled load shape) slots id m (state_of row) (λ n. either (eqb n (pack_state (Locked (caller_of m.0.callers)))) (pack_state (goes_to (caller_of m.0.callers) change)) n) (freed row change (Locked (caller_of m.0.callers)) count m)
  frees_allowed slots id row count change m h ended x c is out carried home known held small goods count_is s ruled len at low =
      let v : View = m.0 in
      let r = opened load shape s id v h ended is at ruled in
      let h' : ℕ = caller_of v.callers in
      let from : RowState = Locked h' in
      let a' : Act = act_with count change row in
      let q' : Queue = now load shape s id v h ended is at r in
      let t : Table = table_at shape s.words r.drawer r.reserved in
      let still = held_now load shape s id v h ended is at r h' row (has_me load shape s id v h ended is at r) (x, known, held) in
      let there = row_same load shape s id v h ended is at r row x known in
      let both : Some still.0 ≡ Some there.0 = sym still.1 ∙ there.1 in
      let one : still.0 ≡ there.0 = cc in
      let fits : FitsState t h' row change from = record { row = node_now load shape s id v h ended is at r (nodes.Row row) (x, known); goes = goes_home h' change home; packable = omega (arith, small) } in
      let word : slice_index s.words (state_of row) ≡ pack_state from = r.stands.states row still.0 still.1 ∙ ap pack_state still.2 in
      let w : View = changed_view v row change from None a' r.history in
      let f : Row → Row = left_in (goes_to h' change) count in
      by_found load shape s id (state_of row) (pack_state from) (pack_state (goes_to h' change)) m
      (λ m'. (y : Row) × (m'.1 ≡ rest m.1) × DidChange v m'.0 row change from None a' y) (looked (steps.State row change from) m (slice_index s.words (state_of row))) (freed row change from count m)
      (λ u e told. (e, told))
      (λ u e told. absurd (e word))
      (λ e.
      let tops = r.stands.draws.top in let rows = r.rows in let under = r.stands.draws.below row still.0 still.1 in
      let less : row < length s.homes = omega (arith, tops, rows, under) in
      let same : SameGoods x there.0 = there.2 in
      let carries : IsLoadOf (f still.0) (load c) = record {
        id = goods.0 ∙ ap (λ (z : Slip). z.id) (sym same.slip) ∙ ap (λ (z : Row). z.slip.id) (sym one);
        size = goods.1 ∙ ap (λ (z : Slip). z.size) (sym same.slip) ∙ ap (λ (z : Row). z.slip.size) (sym one);
        count = count_is;
        content = goods.2 ∙ sym same.content ∙ ap (λ (z : Row). z.content) (sym one);
        origin = goods.3 ∙ sym same.origin ∙ ap (λ (z : Row). z.origin) (sym one);
      } in
      let homes : List (maybe.Option (Option C)) = set s.homes row (maybe.some (Some c)) in
      let p = state_rule s id v h ended is at r row change from count w homes r.outs r.enders fits e refl (record { shape = refl; opening = refl; callers = refl; made = refl; alone = refl; consumers = refl }) refl refl refl refl refl refl
      (length-set s.homes row (maybe.some (Some c)) ∙ r.rows) (ends_more r.enders r.history (by_me v a') r.ends (ends_home r.enders h' count change row home))
      (cargoes_changed load s.homes homes q' (acted q' h' a') row f still.0 (goods_left (goes_to h' change) count) still.1 (rows_home q' h' count change row home) (length-set s.homes row (maybe.some (Some c))) (λ j ne. lists.set_else s.homes row j (maybe.some (Some c)) ne)
      (lies_home load homes h' change row (f still.0) home (c, lists.set_here s.homes row (maybe.some (Some c)) less, carries)) r.cargoes)
      (takes_back s.homes r.outs s.views id row v w (Some c) at out refl r.takes)
      (λ j z. let o : None ≡ Some j = z in absurd (cc))
      (away_back s.homes r.outs s.views id row v w (Some c) less at out r.away) in (
        w,
        gives,
        tt,
        (v.opening, subst (λ (l : List (ℕ × Option C)). RuledAt load shape v.opening record { words = set s.words (state_of row) (pack_state (goes_to h' change)); homes = put_back s.homes l; views = set s.views id w }) (sym carried) p.0),
        (still.0, refl, record { went = p.1; before = r.history; prefix = (knows_me load shape s id v h ended is at r).prefix; found = still.1; state = still.2; view = refl }),
      ))
      (λ e. absurd (e word))

  -- Deq and Del
  pub ends_allowed : (slots id row : ℕ) (change : Change) (from : RowState) (m : Me (Option C) View) (h : ℕ) (ended' : List ℕ) (x : Row) → m.0.callers ≡ h ∷ ended' → m.0.slot ≡ None → IsEnding change m.0 row → row_at (after m.0.opening m.0.seen) row ≡ Some x
      → GoesFrom (caller_of m.0.callers) change from → IsPackable from
      → Allows (Ruled load shape) slots id m (state_of row) (λ n. either (eqb n (pack_state from)) (pack_state (goes_to (caller_of m.0.callers) change)) n) (ended row change from m)
  ends_allowed slots id row change from m h ended' x is idle ending known goes packable s ruled len at low =
      let v : View = m.0 in
      let r = opened load shape s id v h ended' is at ruled in
      let h' : ℕ = caller_of v.callers in
      let a' : Act = act_with 0 change row in
      let q' : Queue = now load shape s id v h ended' is at r in
      let t : Table = table_at shape s.words r.drawer r.reserved in
      let fits : FitsState t h' row change from = record { row = node_now load shape s id v h ended' is at r (nodes.Row row) (x, known); goes = goes; packable = packable } in
      let w : View = changed_view v row change from None a' r.history in
      by_found load shape s id (state_of row) (pack_state from) (pack_state (goes_to h' change)) m
      (λ m'. (y : Row) × (m'.1 ≡ m.1) × DidChange v m'.0 row change from None a' y) (looked (steps.State row change from) m (slice_index s.words (state_of row))) (ended row change from m)
      (λ u e told. ((λ hit. told), (λ ne. absurd (ne e))))
      (λ u e told. ((λ hit. absurd (e hit)), (λ ne. told)))
      (λ e.
      let y = row_of_change t q' h' row change from r.stands fits e in
      let ends = ends_after r.enders r.history v.opening h' change from row v r.legal ending goes (knows_me load shape s id v h ended' is at r).prefix y r.ends in
      let p = state_rule s id v h ended' is at r row change from 0 w s.homes r.outs ends.0 fits e refl (record { shape = refl; opening = refl; callers = refl; made = refl; alone = refl; consumers = refl }) refl refl refl refl refl refl
      r.rows ends.1
      (cargoes_changed load s.homes s.homes q' (acted q' h' a') row (in_state (goes_to h' change)) y.0 (goods_in (goes_to h' change)) y.1 (rows_end q' h' change row v ending) refl (λ j ne. refl)
      (lies_end load s.homes h' change from row y.0 v ending goes (subst (λ (z : RowState). Lies load s.homes row y.0 z) y.2 (r.cargoes.rows row y.0 y.1))) r.cargoes)
      (takes_set s.homes r.outs s.views id v w at (sym idle) r.takes)
      (λ j z. let o : None ≡ Some j = z in absurd (cc))
      (λ j z. away_set s.views id v w (r.outs j) j at (sym idle) (r.away j z)) in
      (w, keeps, tt, (v.opening, p.0), (y.0, refl, record { went = p.1; before = r.history; prefix = (knows_me load shape s id v h ended' is at r).prefix; found = y.1; state = y.2; view = refl })))
      (λ e. miss_owes load shape s id (state_of row) (steps.State row change from) m h ended' (λ ws. refl) is at r)
