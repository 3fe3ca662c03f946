-- one exchange of a row's state
use Rattle.std.proofs.Common.{◌≡◌, ◌≢◌, ℕ, suc, length, ◌*◌, ◌+◌, ◌≤◌, ◌==◌, ◌&&◌, Bool, true, false, Ok, Err, Option, Some, None, List, [], ◌∷◌, ◌++◌, refl, sym, ap, ap₂, ◌∙◌, subst, append_assoc, eq-eqb, ne_eqb, arith}
use Rattle.std.specs.Int.{bit_at}
use mathlib.Core.List.{IsPrefix}
use Rattle.queue_model.specs.declared.deeds.Act.TheVariants as acts
use Rattle.queue_model.specs.declared.deeds.Deed.{Deed}
use Rattle.queue_model.specs.declared.queues.Queue.{Queue}
use Rattle.queue_model.specs.declared.rows.Row.{Row}
use Rattle.queue_model.specs.declared.rows.RowState.{RowState}
use Rattle.queue_model.specs.declared.rows.RowState.TheVariants.{Available, Locked, Unlocked, Dequeued, Deleted}
use Rattle.queue_model.specs.declared.rows.Slip.{Slip}
use Rattle.queue_model.specs.declared.steps.Change.TheVariants as changes
use Rattle.queue_model.specs.declared.steps.DraftWord.TheVariants as drafts
use Rattle.queue_model.specs.declared.steps.Step.TheVariants as steps
use Rattle.queue_model.specs.declared.steps.Tried.{Tried}
use Rattle.queue_model.specs.declared.steps.WordName.TheVariants as names
use Rattle.queue_model.specs.History.{after, deed}
use Rattle.queue_model.specs.Packing.{pack_state}
use Rattle.queue_model.specs.State.{row_at, rows_of, place_at}
use Rattle.queue_model.proofs.Prefixes.{prefix_trans}
use Rattle.queue_model.proofs.Stable.{row_stays}
use Rattle.link_core.specs.Steps.{goes_to}
use Rattle.acts_core.specs.Load.{Load}
use Rattle.acts_core.specs.Owed.{is_available, is_free}
use Rattle.acts_core.specs.Steps.{Stepped}
use Rattle.acts_core.specs.Walks.{reach, IsOfList, AreDeleted}
use Rattle.acts_core.proofs.Sparing.{after_rest}
use Rattle.acts_core.proofs.Stepping.{stepped_trans, rights_trans}
use Rattle.entry_table.specs.declared.pass.Pass.{Pass}
use Rattle.entry_table.specs.declared.view.View.{View}
use Rattle.entry_table.specs.Passes.{Kept, Did, view, opening, seen, shown, allowance, share, callers, consumers}
use Rattle.entry_table.specs.Plays.{Taking, Steps, Shows}
use Rattle.entry_table.specs.Bells.{bell_word, TakesBell}
use Rattle.entry_table.specs.Sights.{sight}
use Rattle.entry_table.specs.Views.{entry, caller_of}
use Rattle.entry_table.proofs.Sighting.{stepped, same_rights}
use Rattle.scavenge_core.specs.Shown.{looks, hops}
use Rattle.scavenge_core.specs.Skips.{StepsOver}
use Rattle.scavenge_core.proofs.Lasting.{state_is}
use Rattle.scavenge_core.proofs.Logs.{looks-append, hops-append}
use Rattle.scavenge_core.proofs.Visiting.{place_shown}
use Rattle.cursor_core.specs.Goes.{TookBell, KnowsPlace, Runs, Leaves, TriesRow}
use Rattle.cursor_core.specs.Takes.{Acquires, MissesReady, TakesReady}

mine : (old : Pass) → caller_of (callers old) ≡ old.caller
mine old = ap caller_of old.speaks

-- the exchange hit
pub acquired : {C : Type 0} (load : C → Load) (old new : Pass) (row : ℕ) (c : C) → Kept old new → allowance new ≡ allowance old → share new ≡ share old → Taking load row changes.Acq Available (view old) (view new) (Ok c) → Acquires (sight old) (sight new) row (load c)
acquired load old new row c k a s t =
    let u = t.0 in
    let x = t.1 in
    let d = t.3 in
    let slot = t.4 in
    let me = mine old in
    let same_seen : seen new ≡ u.seen = ap (λ (v : View). v.seen) slot.1 in
    let told : u.seen ≡ d.before ++ deed (caller_of (callers old)) (acts.Acq row) ∷ [] = ap (λ (v : View). v.seen) d.view in
    let whole : d.before ++ deed old.caller (acts.Acq row) ∷ [] ≡ seen new =
    ap (λ (h : ℕ). d.before ++ deed h (acts.Acq row) ∷ []) (sym me) ∙ sym told ∙ sym same_seen
    in
    let first : Tried = entry (steps.State row changes.Acq Available) (pack_state Available) (pack_state (goes_to (caller_of (callers old)) changes.Acq)) (d.before ++ deed (caller_of (callers old)) (acts.Acq row) ∷ []) in
    let second : Tried = entry (steps.Load names.Callers) slot.0 slot.0 u.seen in
    let log : shown new ≡ shown old ++ (first ∷ second ∷ []) =
    ap (λ (v : View). v.shown) slot.1
    ∙ ap (λ (l : List Tried). l ++ second ∷ []) (ap (λ (v : View). v.shown) d.view)
    ∙ append_assoc (shown old) (first ∷ []) (second ∷ [])
    in
    let went : Steps (opening old) old.caller (callers old) (consumers old) (seen old) (seen new) (deed old.caller (acts.Acq row) ∷ []) =
    subst (λ (ds : List Deed). Steps (opening old) old.caller (callers old) (consumers old) (seen old) ds (deed old.caller (acts.Acq row) ∷ [])) (sym same_seen)
    (subst (λ (h : ℕ). Steps (opening old) h (callers old) (consumers old) (seen old) u.seen (deed h (acts.Acq row) ∷ [])) me d.went.steps)
    in
    record {
      added = first ∷ second ∷ [];
      steps = stepped old new (acts.Acq row ∷ []) (first ∷ second ∷ []) k went log;
      rights = same_rights old new a s;
      heads = λ m. refl;
      moment = d.before;
      later = d.prefix;
      whole = whole;
      hands = record { row = x; found = d.found; same = record { id = t.2.id; size = t.2.size; count = t.2.count; content = t.2.content; origin = t.2.origin } };
      ready = d.state;
      looks = refl;
      hops = refl;
    }

-- it showed another state
other_state : (s : RowState) → s ≢ Available → is_available s ≡ false
other_state Available ne = absurd (ne refl)
other_state (Locked h) ne = refl
other_state (Unlocked h) ne = refl
other_state Dequeued ne = refl
other_state Deleted ne = refl

pub missed : {C : Type 0} (load : C → Load) (old new : Pass) (row : ℕ) (s : RowState) → Kept old new → allowance new ≡ allowance old → share new ≡ share old → Taking load row changes.Acq Available (view old) (view new) (Err s) → MissesReady (sight old) (sight new) row
missed load old new row s k a sh t =
    let me = mine old in
    let one : Tried = entry (steps.State row changes.Acq Available) (pack_state s) (pack_state s) (seen new) in
    let log : shown new ≡ shown old ++ one ∷ [] = ap (λ (v : View). v.shown) t.view in
    let went : Steps (opening old) old.caller (callers old) (consumers old) (seen old) (seen new) [] =
    subst (λ (h : ℕ). Steps (opening old) h (callers old) (consumers old) (seen old) (seen new) []) me t.went.steps
    in
    record {
      misses = record {
        added = one ∷ [];
        steps = stepped old new [] (one ∷ []) k went log;
        rights = same_rights old new a sh;
        heads = λ m. refl;
        fails = λ x found.
            let both : Some x ≡ Some t.state.0 = sym found ∙ t.state.1 in
            let same : x ≡ t.state.0 = cc in
            ap (λ (z : Row). is_available z.state) same ∙ ap is_available t.state.2 ∙ other_state s t.other;
      };
      looks = refl;
      hops = refl;
    }

-- Masks

-- the mask word of a row shows its slip's mask
mask_told : (q : Queue) (row mask : ℕ) (x : Row) → Shows (steps.Load (names.Draft row drafts.Mask)) mask q → row_at q row ≡ Some x → x.slip.mask ≡ mask
mask_told q row mask x s found = sym (s.1.drafted row x found).mask ∙ s.2

-- the load of a mask
pub looked_mask : (old new : Pass) (row mask : ℕ) → Kept old new → allowance new ≡ allowance old → share new ≡ share old → Did old new [] → shown new ≡ shown old ++ entry (steps.Load (names.Draft row drafts.Mask)) mask mask (seen new) ∷ [] → Stepped (sight old) (sight new) [] (entry (steps.Load (names.Draft row drafts.Mask)) mask mask (seen new) ∷ [])
looked_mask old new row mask k a s d e = stepped old new [] (entry (steps.Load (names.Draft row drafts.Mask)) mask mask (seen new) ∷ []) k d e

-- a row that the consumer does not want
pub unwanted : (old new : Pass) (c row mask : ℕ) (y : Row) → Kept old new → allowance new ≡ allowance old → share new ≡ share old → Did old new [] → Shows (steps.Load (names.Draft row drafts.Mask)) mask (after (opening new) (seen new)) → shown new ≡ shown old ++ entry (steps.Load (names.Draft row drafts.Mask)) mask mask (seen new) ∷ []
    → bit_at mask c ≢ 1 → row_at (after (opening new) (seen new)) row ≡ Some y → Leaves (opening old) (sight old) (sight new) c row
unwanted old new c row mask y k a s d shows e none found = record {
  added = entry (steps.Load (names.Draft row drafts.Mask)) mask mask (seen new) ∷ [];
  goes = record { begun = refl; steps = looked_mask old new row mask k a s d e; rights = same_rights old new a s };
  busy =
      let here : row_at (after (opening old) (seen new)) row ≡ Some y = subst (λ (o : Queue). row_at (after o (seen new)) row ≡ Some y) k.opening found in
      let same : y.slip.mask ≡ mask = mask_told (after (opening new) (seen new)) row mask y shows found in
      (y, here, ap (λ (b : Bool). is_available y.state && b) (ne_eqb (bit_at y.slip.mask c) 1 (λ hit. none (ap (λ (n : ℕ). bit_at n c) (sym same) ∙ hit))) ∙ and_false (is_available y.state));
  looks = omega arith;
  hops = refl;
}
  where
    and_false : (b : Bool) → (b && false) ≡ false
    and_false true = refl
    and_false false = refl

-- a row that it wants
wanted_free : (c : ℕ) (x : Row) → x.state ≡ Available → bit_at x.slip.mask c ≡ 1 → is_free c x ≡ true
wanted_free c x ready bit = ap₂ (λ (b d : Bool). b && d) (ap is_available ready) (eq-eqb (bit_at x.slip.mask c) 1 bit)

-- the row's mask is what it was when loaded
later_mask : (old mid : Pass) (row mask : ℕ) (moment : List Deed) (x y : Row) → Kept old mid → Shows (steps.Load (names.Draft row drafts.Mask)) mask (after (opening mid) (seen mid)) → row_at (after (opening mid) (seen mid)) row ≡ Some y → IsPrefix (seen mid) moment → row_at (after (opening mid) moment) row ≡ Some x → x.slip.mask ≡ mask
later_mask old mid row mask moment x y k shows there p found =
    let t = row_stays (after (opening mid) (seen mid)) p.0 row y there in
    let here : row_at (after (opening mid) moment) row ≡ Some t.0 = subst (λ (q : Queue). row_at q row ≡ Some t.0) (after_rest (opening mid) (seen mid) moment p) t.1 in
    let both : Some t.0 ≡ Some x = sym here ∙ found in
    let same : t.0 ≡ x = cc in
    ap (λ (z : Row). z.slip.mask) (sym same) ∙ ap (λ (z : Slip). z.mask) t.2.slip ∙ mask_told (after (opening mid) (seen mid)) row mask y shows there

-- a wanted row is tried
pub tries_free : (old mid new : Pass) (c row mask : ℕ) (y : Row) (o : Option Load) → Kept old mid → allowance mid ≡ allowance old → share mid ≡ share old → Did old mid [] → Shows (steps.Load (names.Draft row drafts.Mask)) mask (after (opening mid) (seen mid)) → shown mid ≡ shown old ++ entry (steps.Load (names.Draft row drafts.Mask)) mask mask (seen mid) ∷ []
    → bit_at mask c ≡ 1 → row_at (after (opening mid) (seen mid)) row ≡ Some y → TakesReady (sight mid) (sight new) row o → TriesRow (opening old) (sight old) (sight new) c row o
tries_free old mid new c row mask y None k a s d shows e bit there t =
    let m = t.misses in
    let us = entry (steps.Load (names.Draft row drafts.Mask)) mask mask (seen mid) ∷ [] in
    let later = row_stays (after (opening mid) (seen mid)) m.steps.grows.0 row y there in
    let found : row_at (after (opening mid) (seen new)) row ≡ Some later.0 = subst (λ (q : Queue). row_at q row ≡ Some later.0) (after_rest (opening mid) (seen mid) (seen new) m.steps.grows) later.1 in
    let one = t.looks in let none = t.hops in
    record {
      added = us ++ m.added;
      goes = record {
        begun = refl;
        steps = stepped_trans (sight old) (sight mid) (sight new) [] [] us m.added (looked_mask old mid row mask k a s d e) m.steps;
        rights = rights_trans (sight old) (sight mid) (sight new) (same_rights old mid a s) m.rights;
      };
      busy = (
        later.0,
        subst (λ (o : Queue). row_at (after o (seen new)) row ≡ Some later.0) k.opening found,
        ap (λ (b : Bool). b && (bit_at later.0.slip.mask c == 1)) (m.fails later.0 found),
      );
      looks = omega (arith, one, looks-append us m.added);
      hops = omega (arith, none, hops-append us m.added);
    }
tries_free old mid new c row mask y (Some load) k a s d shows e bit there t =
    let us = entry (steps.Load (names.Draft row drafts.Mask)) mask mask (seen mid) ∷ [] in
    let mask_then = later_mask old mid row mask t.moment t.hands.row y k shows there t.later t.hands.found in
    let one = t.looks in let none = t.hops in
    record {
      added = us ++ t.added;
      goes = record {
        begun = refl;
        steps = stepped_trans (sight old) (sight mid) (sight new) [] (acts.Acq row ∷ []) us t.added (looked_mask old mid row mask k a s d e) t.steps;
        rights = rights_trans (sight old) (sight mid) (sight new) (same_rights old mid a s) t.rights;
      };
      moment = t.moment;
      did = record {
        later = prefix_trans (seen old) (seen mid) t.moment d.prefix t.later;
        whole = subst (λ (h : ℕ). t.moment ++ deed h (acts.Acq row) ∷ [] ≡ seen new) k.caller t.whole;
      };
      hands = record { row = t.hands.row; found = subst (λ (o : Queue). row_at (after o t.moment) row ≡ Some t.hands.row) k.opening t.hands.found; same = t.hands.same };
      free = wanted_free c t.hands.row t.ready (ap (λ (n : ℕ). bit_at n c) mask_then ∙ bit);
      looks = omega (arith, one, looks-append us t.added);
      hops = omega (arith, none, hops-append us t.added);
    }

-- Bells and places

-- a bell was taken
pub took_bell : (old new : Pass) (c l : ℕ) (row : Option ℕ) → Kept old new → allowance new ≡ allowance old → share new ≡ share old → Did old new (acts.Take c l ∷ []) → TakesBell old.caller (view old) (view new) c l row → TookBell (opening old) (sight old) (sight new) c l row
took_bell old new c l row k a s d t =
    let at = t.acts_at in
    let us : List Tried = entry (steps.TakeBell c l) (bell_word (after (opening old) at.before) c l) (bell_word (after (opening old) (seen new)) c l) (seen new) ∷ [] in
    record {
      added = us;
      goes = record { begun = refl; steps = stepped old new (acts.Take c l ∷ []) us k d at.shown_is; rights = same_rights old new a s };
      moment = at.before;
      did = record { later = at.prefix; whole = sym at.seen_is };
      bell = t.row_is;
      looks = refl;
      hops = refl;
    }

-- a place was looked up
pub knows_place : (old new : Pass) (row n : ℕ) (y : Row) → Kept old new → allowance new ≡ allowance old → share new ≡ share old → Did old new [] → Shows (steps.Load (names.Draft row drafts.Place)) n (after (opening new) (seen new)) → shown new ≡ shown old ++ entry (steps.Load (names.Draft row drafts.Place)) n n (seen new) ∷ []
    → row_at (after (opening new) (seen new)) row ≡ Some y → KnowsPlace (opening old) (sight old) (sight new) row n
knows_place old new row n y k a s d shows e found =
    let us : List Tried = entry (steps.Load (names.Draft row drafts.Place)) n n (seen new) ∷ [] in
    record {
      added = us;
      goes = record { begun = refl; steps = stepped old new [] us k d e; rights = same_rights old new a s };
      same = place_shown (after (opening new) (seen new)) row n y shows found ∙ ap (λ (o : Queue). place_at (after o (seen new)) row) k.opening;
      looks = refl;
      hops = refl;
    }

-- Runs

-- a step over deleted rows
pub runs_of : (old new : Pass) (l w : ℕ) (result : Option ℕ) → StepsOver old new l w result → Runs (opening old) (sight old) (sight new) l w result
runs_of old new l w None s =
    let is = sym (state_is old new s.added s.tries) in
    let bounds = subst (λ (q : Queue). ((m : ℕ) → AreDeleted q l (reach q w) m) × (looks s.added + reach q w ≤ length (rows_of q l)) × (hops s.added + 3 * reach q w ≤ 3 * length (rows_of q l) + 1)) is (s.gone, s.looks, s.hops) in
    record { added = s.added; goes = record { begun = refl; steps = s.tries.steps; rights = s.tries.rights }; gone = bounds.0; looks = bounds.1; hops = bounds.2 }
runs_of old new l w (Some r) s =
    let is = sym (state_is old new s.added s.tries) in
    let bounds =
    subst
    (λ (q : Queue). IsOfList q l r × (reach q w ≤ place_at q r) × AreDeleted q l (reach q w) (place_at q r) × (looks s.added + reach q w ≤ suc (place_at q r)) × (hops s.added + 3 * reach q w ≤ 3 * suc (place_at q r) + 1)) is
    (s.names.there, s.names.behind, s.names.gone, s.looks, s.hops)
    in
    record { added = s.added; goes = record { begun = refl; steps = s.tries.steps; rights = s.tries.rights }; there = bounds.0; behind = bounds.1; gone = bounds.2; looks = bounds.3; hops = bounds.4 }
