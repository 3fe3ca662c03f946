-- steps that leave drafts and slots as they are, loads among them
use Rattle.std.proofs.Common.{◌≡◌, ◌≢◌, ℕ, ◌+◌, ◌<◌, ◌≤◌, eqb, List, [], ◌∷◌, ◌++◌, set, Option, refl, sym, ap, ◌∙◌, subst, arith, append-nil}
use Rattle.std.specs.Prelude.{slice_index}
use Rattle.std.specs.List.{sum_by}
use Rattle.std.proofs.lemmas.List.{set-get_or}
use mathlib.Core.Option as maybe
use lib.ListN.{get_elem?}
use prog.Atomic.{either}
use Rattle.atomic_table.specs.Table.{State, Me, Act as TableAct, keeps, Valid, carried_after, stepped, Allows}
use Rattle.atomic_table.proofs.Lists.{exchanged}
use Rattle.queue_model.specs.declared.deeds.Deed.{Deed}
use Rattle.queue_model.specs.declared.queues.Reservation.{Reservation}
use Rattle.queue_model.specs.declared.steps.DraftWord.{DraftWord}
use Rattle.queue_model.specs.declared.steps.Step.{Step}
use Rattle.queue_model.specs.declared.steps.Step.TheVariants as steps
use Rattle.queue_model.specs.declared.steps.WordName.TheVariants as names
use Rattle.link_core.specs.Steps.{place_of_step, shown}
use Rattle.link_core.specs.Table.{Table, top}
use Rattle.queue_model.specs.History.{after, Legal, own}
use Rattle.acts_core.specs.Load.{Load}
use Rattle.queue_model.specs.State.{entries}
use Rattle.link_core.specs.Layout.{draft_of}
use Rattle.link_core.specs.Stands.{Stands}
use Rattle.entry_table.specs.declared.view.Shape.{Shape}
use Rattle.entry_table.specs.declared.view.View.{View}
use Rattle.entry_table.specs.Views.{reached_by, takes_of, AllEnd}
use Rattle.entry_table.specs.Rule.{table_at, Cargoes, Each, Holds, Watches, RuledAt, Ruled, allowance, share}
use Rattle.entry_table.specs.Plays.{looked, looked_view}
use Rattle.entry_table.proofs.Frames.{sum_views, drafts_set, takes_set, away_set}
use Rattle.entry_table.proofs.Onwards.{links_same, watches_set}
use Rattle.entry_table.proofs.Keeping.{Same, opened, now, me, drawn_low, sees_all, ruled_next, went}

module _ {C : Type 0} (load : C → Load) (shape : Shape) where
  module _ (s : State (Option C) View) (id : ℕ) (v : View) (h : ℕ) (ended : List ℕ) (is : v.callers ≡ h ∷ ended) (at : get_elem? s.views id ≡ maybe.some v) (r : RuledAt load shape v.opening s) where
    -- a step that leaves all drafts and slots as they are
    pub plain : (ds : List Deed) (w : View) (words : List ℕ) (reserved : ℕ → Reservation) (enders : ℕ → ℕ)
        → w.seen ≡ r.history ++ ds → Same v w → w.drawn ≡ v.drawn → w.told ≡ [] → w.slot ≡ v.slot → Holds (after (now load shape s id v h ended is at r) ds) id w → w.share ≡ v.share → w.reached ≤ slice_index s.words 0
        → Legal (now load shape s id v h ended is at r) ds → ((k : ℕ) → me load shape s id v h ended is at r ≢ k → own k ds ≡ []) → ((c : ℕ) → r.owners c ≢ id → takes_of c ds ≡ []) → AllEnd enders (r.history ++ ds)
        → slice_index words 0 ≡ slice_index s.words 0 → slice_index words 1 ≡ slice_index s.words 1 → ((k : ℕ) (x : DraftWord) → k < shape.rows → slice_index words (draft_of k x) ≡ slice_index s.words (draft_of k x))
        → Stands (table_at shape words r.drawer reserved) (after (now load shape s id v h ended is at r) ds) → Cargoes load s.homes (after (now load shape s id v h ended is at r) ds)
        → sum_by allowance (set s.views id w) + entries (after (now load shape s id v h ended is at r) ds) ≤ 524288
        → Each (Watches shape words (after (now load shape s id v h ended is at r) ds)) (set s.views id w)
        → RuledAt load shape v.opening record { words = words; homes = s.homes; views = set s.views id w }
    plain ds w words reserved enders seen same drawn told slot held kept reached legal mine bells ends tops callers drafts stands cargoes allowed watches =
        let shares = sum_views share s.views id v w at in
        let shared : sum_by share s.views + slice_index s.words 0 ≤ shape.rows = r.shared in
        ruled_next load shape s id v h ended is at r ds w words s.homes r.drawer reserved r.outs enders record {
          seen = sees_all load shape s id v h ended is at r ds w seen;
          same = same;
          legal = legal;
          mine = mine;
          bells = bells;
          told = told;
          ends = ends;
          rows = r.rows;
          callers = callers;
          stands = stands;
          cargoes = cargoes;
          drafts = drafts_set shape.rows s.words words r.drawer s.views id v w at (drawn_low load shape s id v h ended is at r) drafts drawn same.callers r.drafts;
          unwritten = λ k x less high. drafts k x less ∙ r.unwritten k x less (subst (λ (t : ℕ). t ≤ k) tops high);
          top = omega (arith, tops);
          reaches = omega (arith, tops, reached);
          watches = watches;
          takes = takes_set s.homes r.outs s.views id v w at slot r.takes;
          held = held;
          away = λ k e. away_set s.views id v w (r.outs k) k at slot (r.away k e);
          allowed = allowed;
          shared = omega (arith, shares, shared, tops, kept);
        }

    -- a step that changed no word
    pub looked_rule : (step : Step) (n : ℕ) (words : List ℕ) → words ≡ s.words → reached_by step n v.reached ≤ slice_index s.words 0 → RuledAt load shape v.opening record { words = words; homes = s.homes; views = set s.views id (looked_view v step n r.history) }
    looked_rule step n words is_same reached =
        let w : View = looked_view v step n r.history in
        let all : r.history ≡ r.history ++ [] = sym (append-nil r.history) in
        let sums = sum_views allowance s.views id v w at in
        let allowed : sum_by allowance s.views + entries (after v.opening r.history) ≤ 524288 = r.allowed in
        subst (λ (l : List ℕ). RuledAt load shape v.opening record { words = l; homes = s.homes; views = set s.views id w }) (sym is_same)
        (plain [] w s.words r.reserved r.enders all (record { shape = refl; opening = refl; callers = refl; made = refl; alone = refl; consumers = refl }) refl refl refl (r.held id v at) refl reached tt (λ k ne. refl) (λ c ne. refl) (subst (AllEnd r.enders) all r.ends)
        refl refl (λ k x less. refl) r.stands r.cargoes (omega (arith, sums, allowed))
        (watches_set shape (now load shape s id v h ended is at r) [] s.words s.words s.views id v w at refl (links_same shape (now load shape s id v h ended is at r) s.words) r.watches))

  -- what a step shows of the rows that were drawn
  pub reached_low : (step : Step) (v : View) (t : Table) → v.reached ≤ top t → (v.reached ≤ reached_by step (shown t step) v.reached) × (reached_by step (shown t step) v.reached ≤ top t)
  reached_low steps.Draw v t low = (low, omega arith)
  reached_low (steps.Draft r w value) v t low = (omega arith, low)
  reached_low (steps.Link r node) v t low = (omega arith, low)
  reached_low (steps.HelpTail l from to) v t low = (omega arith, low)
  reached_low (steps.Load names.Top) v t low = (low, omega arith)
  reached_low (steps.Load names.Callers) v t low = (omega arith, low)
  reached_low (steps.Load names.Depth) v t low = (omega arith, low)
  reached_low (steps.Load (names.Link node)) v t low = (omega arith, low)
  reached_low (steps.Load (names.Tail l)) v t low = (omega arith, low)
  reached_low (steps.Load (names.Mark l)) v t low = (omega arith, low)
  reached_low (steps.Load (names.Count l)) v t low = (omega arith, low)
  reached_low (steps.Load (names.Bell c l)) v t low = (omega arith, low)
  reached_low (steps.Load (names.State r)) v t low = (omega arith, low)
  reached_low (steps.Load (names.Draft r w)) v t low = (omega arith, low)
  reached_low (steps.State r change from) v t low = (omega arith, low)
  reached_low (steps.Unlink at from to) v t low = (omega arith, low)
  reached_low (steps.Ring c r) v t low = (omega arith, low)
  reached_low (steps.TakeBell c l) v t low = (omega arith, low)
  reached_low (steps.Mark l n) v t low = (omega arith, low)
  reached_low (steps.Count l) v t low = (omega arith, low)
  reached_low (steps.Reset l) v t low = (omega arith, low)
  reached_low (steps.Reserve size) v t low = (omega arith, low)
  reached_low (steps.GiveBack size) v t low = (omega arith, low)

  -- what a step owes where the word i becomes n
  abbrev pub Owes : State (Option C) View → ℕ → Me (Option C) View → ℕ → ℕ → (Me (Option C) View → Type 0) → Type 0
  Owes s id me i n tells = (w : View) × (a : TableAct (Option C)) × Valid s.homes me.1 a × Ruled load shape (stepped s i n id me.1 w a) × tells (w, carried_after me.1 a)

  -- a step that leaves its word as it found it
  pub miss_owes : (s : State (Option C) View) (id i : ℕ) (step : Step) (me : Me (Option C) View) (h : ℕ) (ended : List ℕ) → ((ws : List ℕ) → i ≡ place_of_step shape.rows ws step) → me.0.callers ≡ h ∷ ended → get_elem? s.views id ≡ maybe.some me.0 → RuledAt load shape me.0.opening s
      → Owes s id me i (slice_index s.words i) (looked step me (slice_index s.words i))
  miss_owes s id i step me h ended place is at r =
      let all : r.history ≡ r.history ++ [] = sym (append-nil r.history) in
      let t : Table = table_at shape s.words r.drawer r.reserved in
      let n : ℕ = slice_index s.words i in
      let shows : shown t step ≡ n = ap (slice_index s.words) (sym (place s.words)) in
      let reached : (me.0.reached ≤ reached_by step n me.0.reached) × (reached_by step n me.0.reached ≤ slice_index s.words 0) = subst (λ (k : ℕ). (me.0.reached ≤ reached_by step k me.0.reached) × (reached_by step k me.0.reached ≤ slice_index s.words 0)) shows (reached_low step me.0 t (r.reaches id me.0 at)) in (
        looked_view me.0 step n r.history,
        keeps,
        tt,
        (me.0.opening, looked_rule s id me.0 h ended is at r step n (set s.words i n) (set-get_or s.words i 0) reached.1),
        (refl, went load shape s id me.0 h ended is at r (looked_view me.0 step n r.history) [] s.words r.drawer r.reserved all tt refl (λ k ne. refl) r.stands reached.0 reached.1, (t, r.stands, shows), refl),
      )

  -- by whether the word found is the one expected
  pub by_found : (s : State (Option C) View) (id i old new : ℕ) (me : Me (Option C) View) (hit miss : Me (Option C) View → Type 0) (tells : ℕ → Me (Option C) View → Type 0)
      → ((m : Me (Option C) View) → slice_index s.words i ≡ old → hit m → tells (slice_index s.words i) m) → ((m : Me (Option C) View) → slice_index s.words i ≢ old → miss m → tells (slice_index s.words i) m)
      → (slice_index s.words i ≡ old → Owes s id me i new hit) → (slice_index s.words i ≢ old → Owes s id me i (slice_index s.words i) miss)
      → Owes s id me i (either (eqb (slice_index s.words i) old) new (slice_index s.words i)) (tells (slice_index s.words i))
  by_found s id i old new me hit miss tells told_hit told_miss owes_hit owes_miss = exchanged (slice_index s.words i) old new (λ (n : ℕ). Owes s id me i n (tells (slice_index s.words i)))
      (λ e. let o = owes_hit e in (o.0, o.1, o.2, o.3, told_hit (o.0, carried_after me.1 o.1) e o.4))
      (λ e. let o = owes_miss e in (o.0, o.1, o.2, o.3, told_miss (o.0, carried_after me.1 o.1) e o.4))

  -- a load of any word
  pub looks_allowed : (slots id i : ℕ) (step : Step) (me : Me (Option C) View) (h : ℕ) (ended : List ℕ) → ((ws : List ℕ) → i ≡ place_of_step shape.rows ws step) → me.0.callers ≡ h ∷ ended
      → Allows (Ruled load shape) slots id me i (λ n. n) (looked step me)
  looks_allowed slots id i step me h ended place is s ruled len at low = miss_owes s id i step me h ended place is at (opened load shape s id me.0 h ended is at ruled)
