-- steps of a walk, as the table's calls tell them
use Rattle.std.proofs.Common.{◌≡◌, ℕ, ◌+◌, ◌-◌, ◌≤◌, ◌<◌, Option, Some, None, List, [], ◌∷◌, slice_index, sym, ap, ◌∙◌, subst, arith}
use mathlib.Core.List.{IsPrefix, Mem}
use Rattle.queue_model.specs.declared.deeds.Act.TheVariants as acts
use Rattle.queue_model.specs.declared.deeds.Deed.{Deed}
use Rattle.queue_model.specs.declared.queues.Queue.{Queue}
use Rattle.queue_model.specs.declared.rows.Row.{Row}
use Rattle.queue_model.specs.History.{after}
use Rattle.queue_model.specs.State.{row_at, place_at}
use Rattle.acts_core.specs.Load.{Load}
use Rattle.acts_core.specs.Walks.{IsStop, IsOfList}
use Rattle.acts_core.proofs.Coming.{left}
use Rattle.entry_table.specs.declared.entries.Entries.{Entries}
use Rattle.entry_table.specs.declared.pass.Pass.{Pass}
use Rattle.entry_table.specs.Bells.{TakesBell}
use Rattle.entry_table.specs.Passes.{IsPassOf, Kept, KeepsRights, Did, consumers, opening, seen, state, view}
use Rattle.entry_table.specs.Sights.{sight}
use Rattle.entry_table.proofs.Later.{opening_lists}
use Rattle.scavenge_core.specs.Skips.{StepsOver}
use Rattle.scavenge_core.proofs.Stepping.{row_low}
use Rattle.cursor_core.specs.Goes.{TookBell, KnowsPlace, Runs, TriesRow}
use Rattle.cursor_core.specs.Truths.{Good}
use Rattle.cursor_core.specs.declared.cursor.Cursor.{Cursor}
use Rattle.cursor_core.specs.Listing.{Done}
use Rattle.cursor_core.specs.Walking.{Walking, Facing, WalkGot, WalkEnd, Faces}
use Rattle.cursor_core.proofs.Acquiring.{took_bell, runs_of}
use Rattle.cursor_core.proofs.Going.{stop_on}
use Rattle.cursor_core.proofs.Ringing.{rung_none, rung_head, rung_later, rung_before, stop_has}
use Rattle.cursor_core.proofs.Stopping.{runs_on, faced_row, loop_got, loop_stop, loop_faces, loop_smaller}

-- Bells

-- the stop's row is known when the bell was taken, and later
pub stop_known : (o : Queue) (now : Pass) (s0 : List Deed) (l w : ℕ) → opening now ≡ o → IsPrefix s0 (seen now) → 0 < w → IsStop (after o s0) l w → (x : Row) × (row_at (state now) (w - 1) ≡ Some x)
stop_known o now s0 l w same p some stop =
    let t = stop_has (after o (seen now)) l w some (stop_on o s0 (seen now) l w p stop) in
    (t.0, subst (λ (q : Queue). row_at (after q (seen now)) (w - 1) ≡ Some t.0) (sym same) t.1)

-- no bell was rung
pub at_none : (old new : Pass) (c l w : ℕ) → Mem c (consumers old) → Kept old new → KeepsRights old new → Did old new (acts.Take c l ∷ []) → TakesBell old.caller (view old) (view new) c l None → Good (opening old) c l w (seen old) → Walking (opening old) (sight old) (sight new) c l w w
at_none old new c l w mem k r d t good = rung_none (opening old) (sight old) (sight new) c l w mem (took_bell old new c l None k r.0 r.1 d t) good

-- the walk begins at the head
pub at_head : (old new : Pass) (c l w : ℕ) (row : Option ℕ) → Mem c (consumers old) → Kept old new → KeepsRights old new → Did old new (acts.Take c l ∷ []) → TakesBell old.caller (view old) (view new) c l row → w ≡ 0 → Good (opening old) c l w (seen old) → Walking (opening old) (sight old) (sight new) c l w w
at_head old new c l w row mem k r d t head good = rung_head (opening old) (sight old) (sight new) c l w row mem (took_bell old new c l row k r.0 r.1 d t) head good

-- a bell was rung, and two places were looked up
module _ (old a b d : Pass) (c l w r x y : ℕ) (none : (opening old).bells ≡ []) (mem : Mem c (consumers old)) (k : Kept old a) (rights : KeepsRights old a) (did : Did old a (acts.Take c l ∷ [])) (t : TakesBell old.caller (view old) (view a) c l (Some r))
    (k1 : Kept a b) (one : KnowsPlace (opening a) (sight a) (sight b) r x) (k2 : Kept b d) (two : KnowsPlace (opening b) (sight b) (sight d) (w - 1) y) (some : 0 < w) (good : Good (opening old) c l w (seen old)) where
  took : TookBell (opening old) (sight old) (sight a) c l (Some r)
  took = took_bell old a c l (Some r) k rights.0 rights.1 did t

  first : KnowsPlace (opening old) (sight a) (sight b) r x
  first = subst (λ (o : Queue). KnowsPlace o (sight a) (sight b) r x) k.opening one

  second : KnowsPlace (opening old) (sight b) (sight d) (w - 1) y
  second = subst (λ (o : Queue). KnowsPlace o (sight b) (sight d) (w - 1) y) (k1.opening ∙ k.opening) two

  pub at_later : y < x → Walking (opening old) (sight old) (sight d) c l w w
  at_later late = rung_later (opening old) (sight old) (sight a) (sight b) (sight d) c l w r x y none mem took first second some good late

  pub at_before : x ≤ y → Facing (opening old) (sight old) (sight d) c l w r
  at_before low = rung_before (opening old) (sight old) (sight a) (sight b) (sight d) c l w r x y none mem took first second some good low

-- Runs

-- a walk has a stop, as its pass knows
pub walking_stop : (old now : Pass) (c l u w : ℕ) → Kept old now → Walking (opening old) (sight old) (sight now) c l u w → IsStop (state now) l w
walking_stop old now c l u w k g = subst (λ (o : Queue). IsStop (after o (seen now)) l w) (sym k.opening) g.stop

-- and runs on from it
pub walking_runs : (old now new : Pass) (c l u w : ℕ) (result : Option ℕ) → Mem c (consumers old) → Kept old now → Walking (opening old) (sight old) (sight now) c l u w → StepsOver now new l w result → Faces (opening old) (sight old) (sight new) c l u w result
walking_runs old now new c l u w result mem k g s =
    runs_on (opening old) (sight old) (sight now) (sight new) c l u w result mem g (subst (λ (o : Queue). Runs o (sight now) (sight new) l w result) k.opening (runs_of now new l w result s))

-- The loop

-- the row to try is known
pub faced_known : (old now : Pass) (c l u w r : ℕ) (next : Option ℕ) → Kept old now → Faces (opening old) (sight old) (sight now) c l u w next → next ≡ Some r → IsOfList (state now) l r
faced_known old now c l u w r next k f is = subst (λ (o : Queue). IsOfList (after o (seen now)) l r) (sym k.opening) (faced_row (opening old) (sight old) (sight now) c l u w r next f is)

tries_from : (old now new : Pass) (c r : ℕ) (load : Option Load) → Kept old now → TriesRow (opening now) (sight now) (sight new) c r load → TriesRow (opening old) (sight now) (sight new) c r load
tries_from old now new c r load k t = subst (λ (o : Queue). TriesRow o (sight now) (sight new) c r load) k.opening t

pub free_got : (old now new : Pass) (c l u w r : ℕ) (load : Load) (next : Option ℕ) → Mem c (consumers old) → Kept old now → Faces (opening old) (sight old) (sight now) c l u w next → next ≡ Some r → TriesRow (opening now) (sight now) (sight new) c r (Some load) → WalkGot (opening old) (sight old) (sight new) c l u (r + 1) r load
free_got old now new c l u w r load next mem k f is t = loop_got (opening old) (sight old) (sight now) (sight new) c l u w r load next mem f is (tries_from old now new c r (Some load) k t)

module _ (old now new : Pass) (c l u w r : ℕ) (next : Option ℕ) (mem : Mem c (consumers old)) (k : Kept old now) (k1 : Kept now new) (f : Faces (opening old) (sight old) (sight now) c l u w next) (is : next ≡ Some r) (t : TriesRow (opening now) (sight now) (sight new) c r None) where
  tried : TriesRow (opening old) (sight now) (sight new) c r None
  tried = tries_from old now new c r None k t

  pub free_stop : IsStop (state new) l (r + 1)
  free_stop = subst (λ (o : Queue). IsStop (after o (seen new)) l (r + 1)) (sym (k1.opening ∙ k.opening)) (loop_stop (opening old) (sight old) (sight now) (sight new) c l u w r next mem f is tried)

  run : (last : Pass) (result : Option ℕ) → StepsOver new last l (r + 1) result → Runs (opening old) (sight new) (sight last) l (r + 1) result
  run last result s = subst (λ (o : Queue). Runs o (sight new) (sight last) l (r + 1) result) (k1.opening ∙ k.opening) (runs_of new last l (r + 1) result s)

  pub free_faces : (last : Pass) (result : Option ℕ) → StepsOver new last l (r + 1) result → Faces (opening old) (sight old) (sight last) c l u (r + 1) result
  free_faces last result s = loop_faces (opening old) (sight old) (sight now) (sight new) (sight last) c l u w r next result mem f is tried (run last result s)

  pub free_smaller : {C : Type 0} (e : Entries C) (last : Pass) (result : Option ℕ) → IsPassOf e now → Kept new last → StepsOver new last l (r + 1) result → left e.shape.rows (state last) result < left e.shape.rows (state now) next
  free_smaller e last result table k2 s =
      let low = (row_low e now l r table (faced_known old now c l u w r next k f is)).1 in
      let to_now : after (opening old) (seen now) ≡ state now = ap (λ (o : Queue). after o (seen now)) (sym k.opening) in
      let to_last : after (opening old) (seen last) ≡ state last = ap (λ (o : Queue). after o (seen last)) (sym (k2.opening ∙ k1.opening ∙ k.opening)) in
      subst (λ (z : Queue × Queue). left e.shape.rows z.1 result < left e.shape.rows z.0 next) (λ i. (to_now i, to_last i))
      (loop_smaller (opening old) e.shape.rows (sight old) (sight now) (sight new) (sight last) c l u w r next result f is tried (run last result s)
      (subst (λ (q : Queue). place_at q r < e.shape.rows) (sym to_now) low))

-- The lists

-- a cursor has a place in each list
pub lists_few : {C : Type 0} (e : Entries C) (p : Pass) → IsPassOf e p → (opening p).lists ≤ 10
lists_few e p table = let all = opening_lists e p table in let few = e.lists in omega (arith, all, few)

-- the stop in the next list is good
pub list_good : (old now : Pass) (l : ℕ) (k kn : Cursor) → Kept old now → kn.consumer ≡ k.consumer → 0 < l → Done (opening old) (sight old) (sight now) k.consumer l k.stops kn.stops → Good (opening now) kn.consumer (l - 1) (slice_index kn.stops (l - 1)) (seen now)
list_good old now l k kn kept same some d =
    let low = d.low in
    subst (λ (o : Queue). Good o kn.consumer (l - 1) (slice_index kn.stops (l - 1)) (seen now)) (sym kept.opening)
    (subst (λ (c : ℕ). Good (opening old) c (l - 1) (slice_index kn.stops (l - 1)) (seen now)) (sym same) (d.holds (l - 1) (omega (arith, low, some))))

-- the walk of a list, as the call goes by it
pub got_of : (old now new : Pass) (k kn : Cursor) (l u w r : ℕ) (load : Load) → Kept old now → kn.consumer ≡ k.consumer → WalkGot (opening now) (sight now) (sight new) kn.consumer l u w r load → WalkGot (opening old) (sight now) (sight new) k.consumer l u w r load
got_of old now new k kn l u w r load kept same e = subst (λ (z : Queue × ℕ). WalkGot z.0 (sight now) (sight new) z.1 l u w r load) (λ i. (kept.opening i, same i)) e

pub end_of : (old now new : Pass) (k kn : Cursor) (l u w : ℕ) → Kept old now → kn.consumer ≡ k.consumer → WalkEnd (opening now) (sight now) (sight new) kn.consumer l u w → WalkEnd (opening old) (sight now) (sight new) k.consumer l u w
end_of old now new k kn l u w kept same e = subst (λ (z : Queue × ℕ). WalkEnd z.0 (sight now) (sight new) z.1 l u w) (λ i. (kept.opening i, same i)) e
