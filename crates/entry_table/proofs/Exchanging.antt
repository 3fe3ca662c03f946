-- exchanges of a row's state, in the calls
use Rattle.std.proofs.Common.{◌≡◌, ◌≢◌, ℕ, List, [], ◌∷◌, ◌++◌, Option, Some, None, refl, sym, ap, ◌∙◌, subst, eqb, ⊎_elim}
use Rattle.std.proofs.lemmas.Bool.{cases_eq}
use prog.Atomic.{either}
use Rattle.atomic_table.specs.Table.{Me, Allows}
use Rattle.queue_model.specs.declared.rows.Row.{Row}
use Rattle.queue_model.specs.declared.rows.RowState.{RowState}
use Rattle.queue_model.specs.declared.rows.RowState.TheVariants.{Locked}
use Rattle.queue_model.specs.declared.queues.Queue.{Queue}
use Rattle.queue_model.specs.declared.steps.Change.{Change}
use Rattle.queue_model.specs.declared.steps.Change.TheVariants.{Acq, Lock, Unlock, Steal, Rel, Deq, Del}
use Rattle.queue_model.specs.declared.steps.Step.TheVariants as steps
use Rattle.queue_model.specs.History.{after, Legal, deed}
use Rattle.acts_core.specs.Load.{Load}
use Rattle.queue_model.specs.State.{row_at, IsIn}
use Rattle.queue_model.proofs.Histories.{after-append, legal_rest}
use Rattle.queue_model.proofs.Stable.{row_stays, held_stays, same_state}
use Rattle.link_core.specs.Layout.{state_of}
use Rattle.entry_table.proofs.Joining.{idle_since, is_later, after_went, went_same}
use Rattle.queue_model.specs.Packing.{pack_state}
use Rattle.link_core.specs.Steps.{GoesFrom, IsPackable, goes_to, act_with}
use Rattle.entry_table.specs.declared.view.Shape.{Shape}
use Rattle.entry_table.specs.declared.view.View.{View}
use Rattle.entry_table.specs.Views.{caller_of, state_in}
use Rattle.entry_table.specs.Rule.{Ruled}
use Rattle.entry_table.specs.Plays.{Went, Shows, by_me, looked_view, took, ended, TakesOut, IsEnding, DidChange, ShowsState, Slotted, AfterCall, slotted_view, changed_view}
use Rattle.queue_model.specs.declared.steps.WordName.TheVariants as names
use Rattle.entry_table.proofs.Changing.{takes_allowed, ends_allowed, held_out}

goes_locked : (h : ℕ) (change : Change) → TakesOut change → goes_to h change ≡ Locked h
goes_locked h Acq out = refl
goes_locked h Lock out = refl
goes_locked h Steal out = refl
goes_locked h Unlock out = absurd out
goes_locked h Rel out = absurd out
goes_locked h Deq out = absurd out
goes_locked h Del out = absurd out

-- after such a change the caller holds the row
pub taken_mine : (v u : View) (row : ℕ) (change : Change) (from : RowState) (slot : Option ℕ) (x : Row) → TakesOut change → DidChange v u row change from slot (act_with 0 change row) x → IsIn (after v.opening u.seen) row (Locked (caller_of v.callers))
taken_mine v u row change from slot x out d =
    let k : ℕ = caller_of v.callers in
    let a = act_with 0 change row in
    let seen : u.seen ≡ d.before ++ deed k a ∷ [] = ap (λ (z : View). z.seen) d.view in
    let legal : Legal v.opening (d.before ++ deed k a ∷ []) = subst (Legal v.opening) seen d.went.steps.legal in
    let can = (legal_rest v.opening d.before (deed k a ∷ []) legal).0 in
    subst (λ (q : Queue). IsIn q row (Locked k)) (sym (ap (after v.opening) seen ∙ after-append v.opening d.before (deed k a ∷ []))) (held_out (after v.opening d.before) k 0 change row out can)

-- what a miss showed is the row's state
pub shown_state : (v w : View) (row n : ℕ) (change : Change) (from : RowState) (x : Row) → row_at (after v.opening v.seen) row ≡ Some x → n ≢ pack_state from → Went v w [] → Shows (steps.State row change from) n (after v.opening w.seen) → w ≡ looked_view v (steps.State row change from) n w.seen
    → (s : RowState) × (n ≡ pack_state s) × ShowsState v w row change from s
shown_state v w row n change from x known miss went shows is =
    let there = row_stays (after v.opening v.seen) went.steps.prefix.0 row x known in
    let later : after (after v.opening v.seen) went.steps.prefix.0 ≡ after v.opening w.seen = sym (after-append v.opening v.seen went.steps.prefix.0) ∙ ap (after v.opening) went.steps.prefix.1 in
    let found : row_at (after v.opening w.seen) row ≡ Some there.0 = subst (λ (q : Queue). row_at q row ≡ Some there.0) later there.1 in
    let word : n ≡ pack_state there.0.state = sym shows.2 ∙ shows.1.states row there.0 found in (
      there.0.state,
      word,
      record {
        other = λ z. miss (word ∙ ap pack_state z);
        went = went;
        state = (there.0, found, refl);
        view = is ∙ ap (λ (k : ℕ). looked_view v (steps.State row change from) k w.seen) word;
      },
    )

module _ {C : Type 0} (load : C → Load) (shape : Shape) where
  -- the exchange, by the words of the states
  pub takes_at : (slots id i old new row target caller : ℕ) (change picked : Change) (from before : RowState) (m : Me (Option C) View) (ended : List ℕ) (x : Row) → i ≡ state_of row → old ≡ pack_state from → new ≡ pack_state (Locked caller)
      → target ≡ row → picked ≡ change → before ≡ from → m.0.callers ≡ caller ∷ ended → m.0.slot ≡ None → TakesOut change → row_at (after m.0.opening m.0.seen) row ≡ Some x → GoesFrom caller change from → IsPackable from
      → Allows (Ruled load shape) slots id m i (λ n. either (eqb n old) new n) (took load target picked before m)
  takes_at slots id i old new row target caller change picked from before m ended x ei eo en et ep eb is idle out known goes packable =
      let h : caller ≡ caller_of m.0.callers = sym (ap caller_of is) in
      let new_is : new ≡ pack_state (goes_to (caller_of m.0.callers) change) = en ∙ ap (λ (k : ℕ). pack_state (Locked k)) h ∙ ap pack_state (sym (goes_locked (caller_of m.0.callers) change out)) in
      subst (λ (z : ℕ × Change × RowState). Allows (Ruled load shape) slots id m i (λ n. either (eqb n old) new n) (took load z.0 z.1 z.2 m)) (λ j. (sym et j, sym ep j, sym eb j))
      (subst (λ (z : ℕ × ℕ × ℕ). Allows (Ruled load shape) slots id m z.0 (λ n. either (eqb n z.1) z.2 n) (took load row change from m)) (λ j. (sym ei j, sym eo j, sym new_is j))
      (takes_allowed load shape slots id row change from m caller ended x is idle out known (subst (λ (k : ℕ). GoesFrom k change from) h goes) packable))

-- What a call leaves of the view

pub after_done : (v u w : View) (row : ℕ) (change : Change) (from : RowState) (x : Row) → v.slot ≡ None → DidChange v u row change from (Some row) (act_with 0 change row) x → Slotted u w None → AfterCall v w
after_done v u w row change from x idle d s =
    let U : View = changed_view v row change from (Some row) (act_with 0 change row) d.before in
    let m : View = slotted_view U None (steps.Load names.Callers) s.0 in
    let e : w ≡ m = s.1 ∙ ap (λ (z : View). slotted_view z None (steps.Load names.Callers) s.0) d.view in
    let went : Went v w (by_me v (act_with 0 change row) ∷ []) = went_same v u w (by_me v (act_with 0 change row) ∷ []) (ap (λ (z : View). z.seen) s.1) (ap (λ (z : View). z.reached) s.1) d.went in
    after_went v w (by_me v (act_with 0 change row) ∷ []) v.drawn went (is_later v w m v.drawn e (ap (λ (o : Option ℕ). record m { slot = o }) (sym idle)))

pub after_shown : (v w : View) (row : ℕ) (change : Change) (from s : RowState) → ShowsState v w row change from s → AfterCall v w
after_shown v w row change from s x = after_went v w [] v.drawn x.went (is_later v w (looked_view v (steps.State row change from) (pack_state s) w.seen) v.drawn x.view refl)

pub after_ended : (v w : View) (row : ℕ) (change : Change) (from : RowState) (x : Row) → v.slot ≡ None → DidChange v w row change from None (act_with 0 change row) x → AfterCall v w
after_ended v w row change from x idle d =
    let m : View = changed_view v row change from None (act_with 0 change row) d.before in
    after_went v w (by_me v (act_with 0 change row) ∷ []) v.drawn d.went (is_later v w m v.drawn d.view (ap (λ (o : Option ℕ). record m { slot = o }) (sym idle)))

-- a row that the caller holds shows no other state
pub held_shows : (v w : View) (row : ℕ) (change : Change) (s : RowState) → IsIn (after v.opening v.seen) row (Locked (caller_of v.callers)) → ShowsState v w row change (Locked (caller_of v.callers)) s → ⊥
held_shows v w row change s held x =
    let st = x.went.steps in
    let k : ℕ = caller_of v.callers in
    let later : after (after v.opening v.seen) st.prefix.0 ≡ after v.opening w.seen = sym (after-append v.opening v.seen st.prefix.0) ∙ ap (after v.opening) st.prefix.1 in
    let legal : Legal (after v.opening v.seen) st.prefix.0 = legal_rest v.opening v.seen st.prefix.0 (subst (Legal v.opening) (sym st.prefix.1) st.legal) in
    let still : IsIn (after v.opening w.seen) row (Locked k) = subst (λ (q : Queue). IsIn q row (Locked k)) later (held_stays (after v.opening v.seen) st.prefix.0 k row (idle_since v.opening k v.callers v.consumers v.seen w.seen st) legal held) in
    x.other (same_state (after v.opening w.seen) row s (Locked k) x.state still)

module _ {C : Type 0} (load : C → Load) (shape : Shape) where
  pub ends_at : (slots id i old new row target caller : ℕ) (change picked : Change) (from before to : RowState) (m : Me (Option C) View) (others : List ℕ) (x : Row) → i ≡ state_of row → old ≡ pack_state from → new ≡ pack_state to
      → goes_to caller change ≡ to → target ≡ row → picked ≡ change → before ≡ from → m.0.callers ≡ caller ∷ others → m.0.slot ≡ None → IsEnding change m.0 row → row_at (after m.0.opening m.0.seen) row ≡ Some x → GoesFrom caller change from → IsPackable from
      → Allows (Ruled load shape) slots id m i (λ n. either (eqb n old) new n) (ended target picked before m)
  ends_at slots id i old new row target caller change picked from before to m others x ei eo en eg et ep eb is idle ending known goes packable =
      let h : caller ≡ caller_of m.0.callers = sym (ap caller_of is) in
      let new_is : new ≡ pack_state (goes_to (caller_of m.0.callers) change) = en ∙ ap pack_state (sym eg) ∙ ap (λ (k : ℕ). pack_state (goes_to k change)) h in
      subst (λ (z : ℕ × Change × RowState). Allows (Ruled load shape) slots id m i (λ n. either (eqb n old) new n) (ended z.0 z.1 z.2 m)) (λ j. (sym et j, sym ep j, sym eb j))
      (subst (λ (z : ℕ × ℕ × ℕ). Allows (Ruled load shape) slots id m z.0 (λ n. either (eqb n z.1) z.2 n) (ended row change from m)) (λ j. (sym ei j, sym eo j, sym new_is j))
      (ends_allowed load shape slots id row change from m caller others x is idle ending known (subst (λ (k : ℕ). GoesFrom k change from) h goes) packable))

-- a Deq of a row that the caller holds can't miss
pub ended_hit : {C : Type 0} (m m' : Me (Option C) View) (row h n : ℕ) → IsIn (state_in m.0) row (Locked h) → caller_of m.0.callers ≡ h → ended row Deq (Locked h) m n m' → (x : Row) × (m'.1 ≡ m.1) × DidChange m.0 m'.0 row Deq (Locked h) None (act_with 0 Deq row) x
ended_hit {C = C} m m' row h n held me told = ⊎_elim
    (λ (e : n ≡ pack_state (Locked h)). told.0 e)
    (λ (ne : n ≢ pack_state (Locked h)).
    let x = told.1 ne in
    let s = shown_state m.0 m'.0 row n Deq (Locked h) held.0 held.1 ne x.1 x.2 x.3 in
    absurd (held_shows m.0 m'.0 row Deq s.0 (subst (λ (k : ℕ). IsIn (state_in m.0) row (Locked k)) (sym me) held) (subst (λ (k : ℕ). ShowsState m.0 m'.0 row Deq (Locked k) s.0) (sym me) s.2)))
    (cases_eq n (pack_state (Locked h)))
