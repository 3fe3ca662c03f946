-- changes of rows and looks at them, as what the table's calls say
use Rattle.std.proofs.Common.{◌≡◌, ◌≢◌, ℕ, List, [], ◌∷◌, ◌++◌, Option, Some, Ok, refl, sym, ap, ◌∙◌, subst, append_assoc, append-nil, eq-eqb}
use mathlib.Core.List.{IsPrefix}
use mathlib.Core.List.{mem-cons_self}
use Rattle.queue_model.specs.declared.deeds.Act.{Act}
use Rattle.queue_model.specs.declared.deeds.Deed.{Deed}
use Rattle.queue_model.specs.declared.queues.Queue.{Queue}
use Rattle.queue_model.specs.declared.rows.Row.{Row}
use Rattle.queue_model.specs.declared.rows.RowState.{RowState}
use Rattle.queue_model.specs.declared.rows.RowState.TheVariants.{Locked}
use Rattle.queue_model.specs.declared.steps.Change.{Change}
use Rattle.queue_model.specs.declared.steps.Step.TheVariants as steps
use Rattle.queue_model.specs.declared.steps.Tried.{Tried}
use Rattle.queue_model.specs.declared.steps.WordName.TheVariants as names
use Rattle.queue_model.specs.History.{after, deed}
use Rattle.queue_model.specs.Packing.{pack_state}
use Rattle.queue_model.specs.State.{row_at, IsIn}
use Rattle.queue_model.specs.Laws.{SameGoods}
use Rattle.queue_model.proofs.Histories.{after-append}
use Rattle.queue_model.proofs.Prefixes.{prefix_self}
use Rattle.queue_model.proofs.Stable.{row_stays}
use Rattle.acts_core.specs.Load.{Load}
use Rattle.acts_core.specs.Lists.{Saw}
use Rattle.acts_core.specs.Moments.{JustBefore, IsLoadOf}
use Rattle.acts_core.specs.Sight.{Showed}
use Rattle.link_core.specs.Steps.{goes_to, act_with}
use Rattle.entry_table.specs.declared.pass.Pass.{Pass}
use Rattle.entry_table.specs.declared.view.View.{View}
use Rattle.entry_table.specs.Homes.{Brought}
use Rattle.entry_table.specs.Passes.{Kept, Did, view, opening, seen, shown, callers, consumers}
use Rattle.entry_table.specs.Plays.{Steps, Shows, DidChange, ShowsState, Taking, by_me, quiet}
use Rattle.entry_table.specs.Views.{caller_of, entry}
use Rattle.entry_calls.specs.Changed.{Changed, Looks}

-- the caller of a pass, by what it has seen
me_is : (p : Pass) → caller_of (callers p) ≡ p.caller
me_is p = ap caller_of p.speaks

-- the entry of a change
abbrev pub change_entry : Pass → ℕ → Change → RowState → List Deed → Tried
change_entry p row change from later = entry (steps.State row change from) (pack_state from) (pack_state (goes_to (caller_of (callers p)) change)) later

-- steps of one act, as the pass's
did_one : (old : Pass) (a : Act) (S : List Deed) → Steps (opening old) (caller_of (callers old)) (callers old) (consumers old) (seen old) S (by_me (view old) a ∷ [])
    → Steps (opening old) old.caller (callers old) (consumers old) (seen old) S (deed old.caller a ∷ [])
did_one old a S s = subst (λ (k : ℕ). Steps (opening old) k (callers old) (consumers old) (seen old) S (deed k a ∷ [])) (me_is old) s

did_none : (old : Pass) (S : List Deed) → Steps (opening old) (caller_of (callers old)) (callers old) (consumers old) (seen old) S [] → Steps (opening old) old.caller (callers old) (consumers old) (seen old) S []
did_none old S s = subst (λ (k : ℕ). Steps (opening old) k (callers old) (consumers old) (seen old) S []) (me_is old) s

-- just before an act that was seen last
just_before : (old : Pass) (a : Act) (S moment : List Deed) → IsPrefix (seen old) moment → S ≡ moment ++ by_me (view old) a ∷ [] → JustBefore (seen old) S (deed old.caller a) moment
just_before old a S moment prefix is = record {
  later = prefix;
  early = ([], append-nil (moment ++ deed old.caller a ∷ []) ∙ sym (is ∙ ap (λ (k : ℕ). moment ++ deed k a ∷ []) (me_is old)));
}

-- a change alone
pub one_change : (old new : Pass) (row : ℕ) (change : Change) (from : RowState) (slot : Option ℕ) (a : Act) (x : Row) → DidChange (view old) (view new) row change from slot a x
    → Changed old new a row x (change_entry old row change from (seen new) ∷ [])
one_change old new row change from slot a x d =
    let is : seen new ≡ d.before ++ by_me (view old) a ∷ [] = ap (λ (z : View). z.seen) d.view in record {
      did = did_one old a (seen new) d.went.steps;
      shown_is = ap (λ (z : View). z.shown) d.view ∙ ap (λ (l : List Deed). shown old ++ change_entry old row change from l ∷ []) (sym is);
      moment = d.before;
      before = just_before old a (seen new) d.before d.prefix is;
      last = is ∙ ap (λ (k : ℕ). d.before ++ deed k a ∷ []) (me_is old);
      found = d.found;
    }

module _ {C : Type 0} (load : C → Load) where
  -- a row that was taken, by an exchange and a load for its slot's sake
  pub took_row : (old new : Pass) (row : ℕ) (change : Change) (from : RowState) (c : C) → Taking load row change from (view old) (view new) (Ok c)
      → (x : Row) × IsLoadOf x (load c) × (n : ℕ) × Changed old new (act_with 0 change row) row x (change_entry old row change from (seen new) ∷ quiet n (seen new) ∷ [])
  took_row old new row change from c t =
      let u : View = t.0 in
      let a : Act = act_with 0 change row in
      let d = t.3 in
      let n : ℕ = t.4.0 in
      let same : seen new ≡ u.seen = ap (λ (z : View). z.seen) t.4.1 in
      let is : u.seen ≡ d.before ++ by_me (view old) a ∷ [] = ap (λ (z : View). z.seen) d.view in
      let shown_u : u.shown ≡ shown old ++ change_entry old row change from u.seen ∷ [] = ap (λ (z : View). z.shown) d.view ∙ ap (λ (l : List Deed). shown old ++ change_entry old row change from l ∷ []) (sym is) in (
        t.1,
        t.2,
        n,
        record {
          did = did_one old a (seen new) (subst (λ (l : List Deed). Steps (opening old) (caller_of (callers old)) (callers old) (consumers old) (seen old) l (by_me (view old) a ∷ [])) (sym same) d.went.steps);
          shown_is = ap (λ (z : View). z.shown) t.4.1 ∙ ap (λ (l : List Tried). l ++ quiet n u.seen ∷ []) shown_u
              ∙ append_assoc (shown old) (change_entry old row change from u.seen ∷ []) (quiet n u.seen ∷ [])
              ∙ ap (λ (l : List Deed). shown old ++ change_entry old row change from l ∷ quiet n l ∷ []) (sym same);
          moment = d.before;
          before = just_before old a (seen new) d.before d.prefix (same ∙ is);
          last = same ∙ is ∙ ap (λ (k : ℕ). d.before ++ deed k a ∷ []) (me_is old);
          found = d.found;
        },
      )

-- a row whose cargo came home, by a load for its slot's sake and an exchange
pub brought_row : (old new : Pass) (row : ℕ) (change : Change) (count : ℕ) → Brought (view old) (view new) row change count
    → (x : Row) × (n : ℕ) × Changed old new (act_with count change row) row x (quiet n (seen old) ∷ change_entry old row change (Locked (caller_of (callers old))) (seen new) ∷ [])
brought_row old new row change count b =
    let d = b.did in
    let a : Act = act_with count change row in
    let from : RowState = Locked (caller_of (callers old)) in
    let is : seen new ≡ d.before ++ by_me (view old) a ∷ [] = ap (λ (z : View). z.seen) d.view in (
      b.x,
      b.first,
      record {
        did = did_one old a (seen new) d.went.steps;
        shown_is = ap (λ (z : View). z.shown) d.view ∙ append_assoc (shown old) (quiet b.first (seen old) ∷ []) (change_entry old row change from (d.before ++ by_me (view old) a ∷ []) ∷ [])
            ∙ ap (λ (l : List Deed). shown old ++ quiet b.first (seen old) ∷ change_entry old row change from l ∷ []) (sym is);
        moment = d.before;
        before = just_before old a (seen new) d.before d.prefix is;
        last = is ∙ ap (λ (k : ℕ). d.before ++ deed k a ∷ []) (me_is old);
        found = d.found;
      },
    )

-- a state that a step showed
saw_last : (old new : Pass) (row : ℕ) (s : RowState) (t : Tried) → Did old new [] → IsIn (after (opening old) (seen new)) row s → Rattle.acts_core.specs.Sight.on_state_of row t.step ≡ Rattle.std.specs.Prelude.true → t.before ≡ pack_state s
    → t.length ≡ Rattle.std.specs.Prelude.length (seen new) → Saw (Showed (t ∷ [])) (opening old) (seen old) (seen new) row s (seen new)
saw_last old new row s t did state on word long = record {
  between = record { later = did.prefix; early = prefix_self (seen new) };
  state = state;
  told = (t, mem-cons_self, on, word, long);
}

-- an exchange that showed another state
pub missed_row : (old new : Pass) (row : ℕ) (change : Change) (from s : RowState) → ShowsState (view old) (view new) row change from s
    → (s ≢ from) × Looks old new row s (entry (steps.State row change from) (pack_state s) (pack_state s) (seen new))
missed_row old new row change from s x =
    let did : Did old new [] = did_none old (seen new) x.went.steps in (
      x.other,
      record {
        did = did;
        shown_is = ap (λ (z : View). z.shown) x.view;
        saw = saw_last old new row s (entry (steps.State row change from) (pack_state s) (pack_state s) (seen new)) did x.state (eq-eqb row row refl) refl refl;
      },
    )

-- the word of a row's state
pub state_shown : (q : Queue) (row n : ℕ) (x : Row) → row_at q row ≡ Some x → Shows (steps.Load (names.State row)) n q → n ≡ pack_state x.state
state_shown q row n x found shows = sym shows.2 ∙ shows.1.states row x found

-- a load of a row's state
pub looked_row : (old new : Pass) (row n : ℕ) (s : RowState) → Did old new [] → IsIn (after (opening old) (seen new)) row s → n ≡ pack_state s → shown new ≡ shown old ++ entry (steps.Load (names.State row)) n n (seen new) ∷ []
    → Looks old new row s (entry (steps.Load (names.State row)) n n (seen new))
looked_row old new row n s did state word e = record {
  did = did;
  shown_is = e;
  saw = saw_last old new row s (entry (steps.Load (names.State row)) n n (seen new)) did state (eq-eqb row row refl) word refl;
}

-- What is known stays known

-- a row that was there is there later, with its goods
pub row_goods : (old new : Pass) (row : ℕ) (x : Row) → opening new ≡ opening old → IsPrefix (seen old) (seen new) → row_at (after (opening old) (seen old)) row ≡ Some x → (y : Row) × (row_at (after (opening new) (seen new)) row ≡ Some y) × SameGoods x y
row_goods old new row x same p found =
    let y = row_stays (after (opening old) (seen old)) p.0 row x found in
    let later : after (after (opening old) (seen old)) p.0 ≡ after (opening new) (seen new) = sym (after-append (opening old) (seen old) p.0) ∙ ap (after (opening old)) p.1 ∙ ap (λ (o : Queue). after o (seen new)) (sym same) in
    (y.0, subst (λ (q : Queue). row_at q row ≡ Some y.0) later y.1, y.2)

pub row_later : (old new : Pass) (row : ℕ) → Kept old new → Did old new [] → (x : Row) × (row_at (after (opening old) (seen old)) row ≡ Some x) → (y : Row) × (row_at (after (opening new) (seen new)) row ≡ Some y)
row_later old new row kept did there = let y = row_goods old new row there.0 kept.opening did.prefix there.1 in (y.0, y.1)

-- the state that a load showed of a known row
pub state_seen : (old new : Pass) (row n : ℕ) (s : RowState) → Kept old new → Did old new [] → (x : Row) × (row_at (after (opening old) (seen old)) row ≡ Some x) → Shows (steps.Load (names.State row)) n (after (opening new) (seen new)) → ((z : RowState) → n ≡ pack_state z → s ≡ z)
    → IsIn (after (opening old) (seen new)) row s × (n ≡ pack_state s)
state_seen old new row n s kept did there shows tells =
    let y = row_later old new row kept did there in
    let word = state_shown (after (opening new) (seen new)) row n y.0 y.1 shows in
    let is : s ≡ y.0.state = tells y.0.state word in
    ((y.0, subst (λ (o : Queue). row_at (after o (seen new)) row ≡ Some y.0) kept.opening y.1, sym is), word ∙ ap pack_state (sym is))
