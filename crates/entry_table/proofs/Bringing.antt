-- changes that bring the cargo home, and deletions, in the calls
use Rattle.std.proofs.Common.{◌≡◌, ℕ, ◌^◌, ◌<◌, eqb, List, [], ◌∷◌, Option, Some, None, refl, sym, ap, ◌∙◌, subst, arith, inr}
use Rattle.std.specs.Prelude.{slice_index}
use prog.Atomic.{either}
use Rattle.atomic_table.specs.Table.{State, Me, Allows, carried_after}
use Rattle.queue_model.specs.declared.deeds.Act.TheVariants as acts
use Rattle.queue_model.specs.declared.rows.RowState.{RowState}
use Rattle.queue_model.specs.declared.rows.RowState.TheVariants.{Locked, Dequeued}
use Rattle.queue_model.specs.declared.steps.Change.{Change}
use Rattle.queue_model.specs.declared.steps.Change.TheVariants.{Acq, Lock, Unlock, Steal, Rel, Deq, Del}
use Rattle.queue_model.specs.History.{after, own, deed}
use Rattle.queue_model.specs.Packing.{pack_state}
use Rattle.queue_model.specs.State.{IsIn}
use Rattle.queue_model.proofs.Prefixes.{legal_prefix}
use Rattle.acts_core.specs.Asked.{last_on, HasDequeued}
use Rattle.acts_core.specs.Load.{Load}
use Rattle.queue_model.specs.declared.steps.Step.TheVariants as steps
use Rattle.queue_model.specs.declared.steps.WordName.TheVariants as names
use Rattle.link_core.specs.Layout.{state_of}
use Rattle.link_core.specs.Steps.{goes_to, act_with}
use Rattle.entry_table.specs.declared.view.Shape.{Shape}
use Rattle.entry_table.specs.declared.view.View.{View}
use Rattle.entry_table.specs.Views.{Has, caller_of, state_in, Mine}
use Rattle.entry_table.specs.Rule.{Ruled}
use Rattle.entry_table.specs.Plays.{by_me, freed, DidChange, slotted_view, changed_view, AfterCall}
use Rattle.entry_table.specs.Homes.{BringsHome, Holding, bringing, HomeReady, Brought, deleted}
use Rattle.entry_table.proofs.Changing.{IsHome, Goods, frees_allowed, ends_allowed}
use Rattle.entry_table.proofs.Joining.{after_went, is_later, went_slotted}
use Rattle.entry_table.proofs.Keeping.{opened, has_me, knows_me}
use Rattle.entry_table.proofs.Outs.{out_last, has_last, acted_row}

is_home : (change : Change) → BringsHome change → IsHome change
is_home Unlock home = tt
is_home Rel home = tt
is_home Acq home = absurd home
is_home Lock home = absurd home
is_home Steal home = absurd home
is_home Deq home = absurd home
is_home Del home = absurd home

abbrev slot_of : {C : Type 0} → C → List (ℕ × Option C) → Option C
slot_of c [] = Some c
slot_of c (x ∷ xs) = x.1

module _ {C : Type 0} (load : C → Load) (shape : Shape) where
  -- told by the slot
  brings_told : (slots id row : ℕ) (change : Change) (m : Me (Option C) View) (h : ℕ) (ended : List ℕ) → m.0.callers ≡ h ∷ ended → h < 4294967296 → BringsHome change → HomeReady load m h row
      → Allows (Ruled load shape) slots id m (state_of row) (λ n. either (eqb n (pack_state (Locked h))) (pack_state (goes_to h change)) n) (bringing load row change m)
  brings_told slots id row change m h ended is small home ready s ruled len at low =
      let hold = ready.holding in
      let mine : caller_of m.0.callers ≡ h = ap caller_of is in
      let goods : Goods (load ready.c) hold.x = (hold.id, hold.size, hold.content, hold.origin) in
      let all = subst (λ (k : ℕ). Allows (Ruled load shape) slots id m (state_of row) (λ n. either (eqb n (pack_state (Locked k))) (pack_state (goes_to k change)) n) (freed row change (Locked (caller_of m.0.callers)) (load ready.c).count m)) mine
      (frees_allowed load shape slots id row (load ready.c).count change m h ended hold.x ready.c is ready.out ready.carried (is_home change home) hold.found (hold.held ∙ ap (λ (k : ℕ). Locked k) (sym mine)) (omega (arith, small, mine)) goods refl) in
      let o = all s ruled len at low in (
        o.0,
        o.1,
        o.2,
        o.3,
        λ c' carried'.
            let both : Some ready.c ≡ Some c' = ap (slot_of ready.c) (sym ready.carried ∙ carried') in
            let same : ready.c ≡ c' = cc in
            subst (λ (c : C). freed row change (Locked (caller_of m.0.callers)) (load c).count m (slice_index s.words (state_of row)) (o.0, carried_after m.1 o.1)) same o.4,
      )

  -- by numbers and changes that are given by equations
  pub brings_at : (slots id i old new row target : ℕ) (change picked : Change) (to : RowState) (m : Me (Option C) View) (h : ℕ) (ended : List ℕ) → i ≡ state_of row → old ≡ pack_state (Locked h) → new ≡ pack_state to → goes_to h change ≡ to → target ≡ row → picked ≡ change
      → m.0.callers ≡ h ∷ ended → h < 4294967296 → BringsHome change → HomeReady load m h row
      → Allows (Ruled load shape) slots id m i (λ n. either (eqb n old) new n) (bringing load target picked m)
  brings_at slots id i old new row target change picked to m h ended ei eo en eg et ep is small home ready =
      subst (λ (z : ℕ × Change). Allows (Ruled load shape) slots id m i (λ n. either (eqb n old) new n) (bringing load z.0 z.1 m)) (λ j. (sym et j, sym ep j))
      (subst (λ (z : ℕ × ℕ × ℕ). Allows (Ruled load shape) slots id m z.0 (λ n. either (eqb n z.1) z.2 n) (bringing load row change m)) (λ j. (sym ei j, sym eo j, sym (en ∙ ap pack_state (sym eg)) j))
      (brings_told slots id row change m h ended is small home ready))

  -- Del of a row that the caller dequeued
  deletes_allowed : (slots id row : ℕ) (m : Me (Option C) View) (h : ℕ) (ended : List ℕ) → m.0.callers ≡ h ∷ ended → m.0.slot ≡ None → HasDequeued h row m.0.seen
      → Allows (Ruled load shape) slots id m (state_of row) (λ n. either (eqb n (pack_state Dequeued)) (pack_state (goes_to h Del)) n) (deleted row m)
  deletes_allowed slots id row m h ended is idle last s ruled len at low =
      let v : View = m.0 in
      let r = opened load shape s id v h ended is at ruled in
      let mine : caller_of v.callers ≡ h = ap caller_of is in
      let k = knows_me load shape s id v h ended is at r in
      let same : own h r.history ≡ own h v.seen = subst (λ (g : ℕ). own g r.history ≡ own g v.seen) mine (k.mine (caller_of v.callers) (has_me load shape s id v h ended is at r)).2 in
      let out : IsIn (after v.opening r.history) row Dequeued = out_last r.enders row h v.opening r.history r.legal r.ends (ap (last_on row) same ∙ last) in
      let word : slice_index s.words (state_of row) ≡ pack_state Dequeued = r.stands.states row out.0 out.1 ∙ ap pack_state out.2 in
      let known = acted_row v.opening h row (acts.Deq row) v.seen (legal_prefix v.opening v.seen r.history k.prefix r.legal) last in
      let has : Has (deed (caller_of v.callers) (acts.Deq row)) v.seen = subst (λ (g : ℕ). Has (deed g (acts.Deq row)) v.seen) (sym mine) (has_last h row (acts.Deq row) v.seen last) in
      let o = ends_allowed load shape slots id row Del Dequeued m h ended known.0 is idle has known.1 refl tt s ruled len at low in
      (o.0, o.1, o.2, o.3, o.4.0 word)

  pub deletes_at : (slots id i old new row target : ℕ) (m : Me (Option C) View) (h : ℕ) (ended : List ℕ) → i ≡ state_of row → old ≡ pack_state Dequeued → new ≡ pack_state (goes_to h Del) → target ≡ row → m.0.callers ≡ h ∷ ended → m.0.slot ≡ None → HasDequeued h row m.0.seen
      → Allows (Ruled load shape) slots id m i (λ n. either (eqb n old) new n) (deleted target m)
  deletes_at slots id i old new row target m h ended ei eo en et is idle last =
      subst (λ (z : ℕ). Allows (Ruled load shape) slots id m i (λ n. either (eqb n old) new n) (deleted z m)) (sym et)
      (subst (λ (z : ℕ × ℕ × ℕ). Allows (Ruled load shape) slots id m z.0 (λ n. either (eqb n z.1) z.2 n) (deleted row m)) (λ j. (sym ei j, sym eo j, sym en j))
      (deletes_allowed slots id row m h ended is idle last))

-- What the calls do with this

-- a state that a caller's own change leads to packs into a word
pub home_packs : (h : ℕ) (change : Change) → BringsHome change → h < 4294967296 → pack_state (goes_to h change) < 2 ^ 64
home_packs h Unlock home small = omega (arith, small)
home_packs h Rel home small = omega arith
home_packs h Acq home small = absurd home
home_packs h Lock home small = absurd home
home_packs h Steal home small = absurd home
home_packs h Deq home small = absurd home
home_packs h Del home small = absurd home

-- who holds a row may take its slot
pub holds_mine : (v : View) (h row : ℕ) (l : Load) → caller_of v.callers ≡ h → Holding (state_in v) h row l → Mine (state_in v) v row
holds_mine v h row l mine hold = inr (hold.x, hold.found, hold.held ∙ ap (λ (k : ℕ). Locked k) (sym mine))

module _ {C : Type 0} (load : C → Load) where
  pub home_ready : (v : View) (m : Me (Option C) View) (h row n : ℕ) (c : C) → Holding (state_in v) h row (load c) → m.0 ≡ slotted_view v (Some row) (steps.Load names.Callers) n → m.1 ≡ (row, Some c) ∷ [] → HomeReady load m h row
  home_ready v m h row n c hold e carried = record {
    c = c;
    out = ap (λ (z : View). z.slot) e;
    carried = carried;
    holding = subst (λ (z : View). Holding (state_in z) h row (load c)) (sym e) hold;
  }

  pub home_brought : (v : View) (m m' : Me (Option C) View) (row n found : ℕ) (change : Change) (c : C) → m.0 ≡ slotted_view v (Some row) (steps.Load names.Callers) n → m.1 ≡ (row, Some c) ∷ [] → bringing load row change m found m' → (m'.1 ≡ []) × Brought v m'.0 row change (load c).count
  home_brought v m m' row n found change c e carried told =
      let t = (told c carried).1 in (
        t.1 ∙ ap Rattle.atomic_table.specs.Table.rest carried,
        record { first = n; x = t.0; did = subst (λ (z : View). DidChange z m'.0 row change (Locked (caller_of z.callers)) None (act_with (load c).count change row) t.0) e t.2 },
      )

-- what is left of the view
pub after_brought : (v w : View) (row count : ℕ) (change : Change) → v.slot ≡ None → Brought v w row change count → AfterCall v w
after_brought v w row count change idle b =
    let d = b.did in
    let U : View = slotted_view v (Some row) (steps.Load names.Callers) b.first in
    let m : View = changed_view U row change (Locked (caller_of v.callers)) None (act_with count change row) d.before in
    after_went v w (by_me v (act_with count change row) ∷ []) v.drawn (went_slotted v w (Some row) b.first (by_me v (act_with count change row) ∷ []) d.went) (is_later v w m v.drawn d.view (ap (λ (o : Option ℕ). record m { slot = o }) (sym idle)))
