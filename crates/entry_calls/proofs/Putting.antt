-- the turns of a put together, and the whole put
use Rattle.std.proofs.Common.{◌≡◌, ℕ, suc, ◌+◌, ◌*◌, ◌-◌, ◌≤◌, ◌<◌, None, List, [], ◌∷◌, ◌++◌, refl, sym, ap, ◌∙◌, subst, ⊎_elim, append-nil, eq-eqb, arith}
use Rattle.queue_model.specs.declared.deeds.Deed.{Deed}
use Rattle.queue_model.specs.declared.queues.Queue.{Queue}
use Rattle.queue_model.specs.declared.rows.Slip.{Slip}
use Rattle.queue_model.specs.declared.steps.Node.{Node}
use Rattle.queue_model.specs.declared.steps.Step.TheVariants as steps
use Rattle.queue_model.specs.declared.steps.WordName.TheVariants as names
use Rattle.queue_model.specs.History.{Legal}
use Rattle.queue_model.specs.State.{row_at, place_at}
use Rattle.queue_model.proofs.KeyedLemmas.{find-here}
use Rattle.queue_model.proofs.SoundSteps.{list_found}
use Rattle.acts_core.specs.Calls.{CallPut, IsAt, IsSpent}
use Rattle.acts_core.specs.Load.{Load}
use Rattle.acts_core.specs.Meaning.{Called}
use Rattle.acts_core.specs.Walks.{node_at, reach, IsOfList, IsStop}
use Rattle.acts_core.proofs.Stepping.{called_by, stepped_trans}
use Rattle.link_core.specs.Stands.{StandsIn}
use Rattle.entry_table.specs.declared.draft.Draft.{Draft}
use Rattle.entry_table.specs.declared.entries.Entries.{Entries}
use Rattle.entry_table.specs.declared.pass.Pass.{Pass}
use Rattle.entry_table.specs.declared.view.Shape.{Shape}
use Rattle.entry_table.specs.declared.view.View.{View}
use Rattle.entry_table.specs.Helps.{Helpable}
use Rattle.entry_table.specs.Passes.{IsPassOf, Kept, Did, view, opening, seen, state, shown, callers, consumers, share}
use Rattle.entry_table.specs.Plays.{Steps, Shows, DidDraw}
use Rattle.entry_table.specs.Sights.{build_of, sight}
use Rattle.entry_table.specs.Tries.{tries}
use Rattle.entry_table.specs.Views.{caller_of, is_drawing, drawing_at, blank_drawing}
use Rattle.entry_table.proofs.Following.{place_low}
use Rattle.entry_table.proofs.Sighting.{stepped}
use Rattle.entry_calls.specs.Appends.{Ran, Appended, Drafts, Passed, enters}
use Rattle.entry_calls.proofs.Running.{ran_then, ran_end, ran_none, stop_ran, known_stop, list_stop, place_stop}

-- Turns

-- the last turn, after those before it
pub appended_after : (p now new : Pass) (row late tail stop : ℕ) (slip : Slip) (l m : Load) → Ran p now [] → late ≡ row → m ≡ l → IsStop (state now) slip.list tail → IsStop (state now) slip.list stop → reach (state now) tail ≤ reach (state now) stop
    → tries (shown now) + reach (state now) tail ≤ tries (shown p) + reach (state now) stop → Appended now new late stop slip m → Appended p new row tail slip l
appended_after p now new row late tail stop slip l m ran same_row same_load began stands past tried b =
    let a : Appended now new row stop slip l = subst (λ (z : ℕ × Load). Appended now new z.0 stop slip z.1) (λ i. (same_row i, same_load i)) b in
    let k = a.ran.keeps.kept in
    let x = (stop_ran now new slip.list tail k.opening a.ran.did.prefix began).1 in
    let y = (stop_ran now new slip.list stop k.opening a.ran.did.prefix stands).1 in
    let behind = a.behind in
    let last = a.tries in record {
      ran = ran_then p now new (enters row slip l ∷ []) ran a.ran;
      there = a.there;
      behind = omega (arith, x, y, past, behind);
      tries = omega (arith, x, y, tried, last);
    }

module _ {C : Type 0} (p now new : Pass) (draft back : Draft C) (tail stop next : ℕ) (slip : Slip) (ran : Ran p now []) (stands : IsStop (state now) slip.list stop) (b : Passed now new draft back stop next slip) where
  -- fewer places are left
  pub turn_smaller : (view p).shape.rows - reach (state new) next < (view p).shape.rows - reach (state now) stop
  turn_smaller =
      let x = (stop_ran now new slip.list stop b.ran.keeps.kept.opening b.ran.did.prefix stands).1 in
      let same = ap (λ (s : Shape). s.rows) (b.ran.keeps.kept.shape ∙ ran.keeps.kept.shape) in
      let more = b.more in let low = b.low in omega (arith, x, same, more, low)

  pub turn_past : IsStop (state now) slip.list tail → reach (state now) tail ≤ reach (state now) stop → reach (state new) tail ≤ reach (state new) next
  turn_past began past =
      let x = (stop_ran now new slip.list tail b.ran.keeps.kept.opening b.ran.did.prefix began).1 in
      let y = (stop_ran now new slip.list stop b.ran.keeps.kept.opening b.ran.did.prefix stands).1 in
      let more = b.more in omega (arith, x, y, past, more)

  pub turn_tries : IsStop (state now) slip.list tail → tries (shown now) + reach (state now) tail ≤ tries (shown p) + reach (state now) stop → tries (shown new) + reach (state new) tail ≤ tries (shown p) + reach (state new) next
  turn_tries began tried =
      let x = (stop_ran now new slip.list tail b.ran.keeps.kept.opening b.ran.did.prefix began).1 in
      let y = (stop_ran now new slip.list stop b.ran.keeps.kept.opening b.ran.did.prefix stands).1 in
      let last = b.tries in omega (arith, x, y, tried, last)

-- Tails

-- the tail of a list is a stop of it
pub tail_stop : (q : Queue) (l n : ℕ) → l < q.lists → Shows (steps.Load (names.Tail l)) n q → IsStop q l n
tail_stop q l n low shows =
    let lists = shows.1.shaped.lists in
    subst (IsStop q l) shows.2 (⊎_elim
    (λ none. subst (IsStop q l) (sym none) tt)
    (λ (some : (r : ℕ) × StandsIn (row_at q) l r × (_ ≡ suc r)). subst (IsStop q l) (sym some.2) (some.1.row, some.1.found, some.1.list))
    (shows.1.tails l (omega (arith, low, lists))))

pub helpable : (q : Queue) (l tail row : ℕ) (node : Node) → node ≡ node_at l tail → l < q.lists → IsStop q l tail → IsOfList q l row → reach q tail ≤ place_at q row → Helpable q l node row
helpable q l tail row node at low stop there behind = subst (λ (z : Node). Helpable q l z row) (sym at) (record {
  list = low;
  known = known_stop q l tail low stop;
  from_list = list_stop q l tail stop;
  there = (there.0, there.1);
  row_list = list_found q row there.0 there.1 ∙ there.2;
  later = let e = place_stop q l tail in omega (arith, e, behind);
})

-- the lists of a queue stay
pub lists_on : (old new : Pass) (l : ℕ) → Kept old new → l < (state old).lists → l < (state new).lists
lists_on old new l k low =
    let a = old.within.lists in let b = new.within.lists in
    let same = ap (λ (s : Shape). s.lists) k.shape in omega (arith, low, a, b, same)

-- the whole append, from what came before the turns and the help behind them
pub appended_whole : (p mid new last : Pass) (row late tail : ℕ) (slip : Slip) (l m : Load) → late ≡ row → m ≡ l → Ran p mid [] → tries (shown mid) ≡ tries (shown p) → Appended mid new late tail slip m → Ran new last [] → tries (shown last) ≡ tries (shown new) → Appended p last row 0 slip l
appended_whole p mid new last row late tail slip l m same_row same_load ran before b help behind =
    let a : Appended mid new row tail slip l = subst (λ (z : ℕ × Load). Appended mid new z.0 tail slip z.1) (λ i. (same_row i, same_load i)) b in
    let stays = stop_ran new last slip.list (suc row) help.keeps.kept.opening help.did.prefix a.there in
    let place : suc (place_at (state last) row) ≡ suc (place_at (state new) row) = stays.1 in
    let turns = a.tries in record {
      ran = ran_end p new last (enters row slip l) (ran_then p mid new (enters row slip l ∷ []) ran a.ran) help;
      there = stays.0;
      behind = omega arith;
      tries = omega (arith, before, turns, behind, place);
    }

-- Draws

-- what a draw leaves
pub drew_row : (old new : Pass) (row : ℕ) → Kept old new → DidDraw (view old) (view new) row → Drafts new row (blank_drawing row)
drew_row old new row k x = record {
  drawing = ap (λ (z : View). drawing_at z row) x.view ∙ find-here (is_drawing row) (blank_drawing row) (view old).drawn (eq-eqb row row refl);
  low = subst (λ (s : Shape). row < s.rows) (sym k.shape) x.low;
}

pub drew_did : (old new : Pass) (row : ℕ) → DidDraw (view old) (view new) row → Did old new []
drew_did old new row x = subst (λ (h : ℕ). Steps (opening old) h (callers old) (consumers old) (seen old) (seen new) []) (ap caller_of old.speaks) x.went.steps

-- a pass that is as it was
pub ran_same : (old new : Pass) → Legal (opening old) (seen old) → Kept old new → view new ≡ view old → Ran old new []
ran_same old new legal k e = record {
  keeps = record { kept = k; allowance = ap (λ (z : View). z.allowance) e; share = ap (λ (z : View). z.share) e };
  did = subst (λ (s : List Deed). Steps (opening old) old.caller (callers old) (consumers old) (seen old) s []) (sym (ap (λ (z : View). z.seen) e)) (ran_none old legal).did;
  added = [];
  shown_is = ap (λ (z : View). z.shown) e ∙ sym (append-nil (shown old));
}

-- a draw and a search for the end of the list each try at most once a row
pub put_tries : {C : Type 0} (e : Entries C) (old mid new : Pass) (row : ℕ) (slip : Slip) (l : Load) → tries (shown mid) ≤ tries (shown old) + e.shape.rows → Appended mid new row 0 slip l → IsPassOf e new → tries (shown new) ≤ tries (shown old) + 2 * e.shape.rows
put_tries e old mid new row slip l drew a is =
    let low = place_low (view new).shape (state new) row a.there.0 new.within a.there.1 in
    let turns = a.tries in
    let rows = ap (λ (s : Shape). s.rows) is.shape in omega (arith, drew, turns, low, rows)

module _ {C : Type 0} (load : C → Load) (e : Entries C) (old : Pass) (slip : Slip) (cargo : C) where
  pub put_spent : (new : Pass) (back : C) → Legal (opening old) (seen old) → Kept old new → (share old ≡ 0) × (back ≡ cargo) × (view new ≡ view old) → Called (build_of e) (sight old) (sight new) (CallPut slip (load cargo)) (IsSpent (load back))
  put_spent new back legal k x =
      let ran = ran_same old new legal k x.2 in
      called_by (build_of e) (sight old) (sight new) (CallPut slip (load cargo)) (IsSpent (load back)) ran.added refl (stepped old new [] ran.added k ran.did ran.shown_is) (ap load x.1) x.0 ran.keeps.allowance ran.keeps.share

  pub put_done : (mid new : Pass) (draft : Draft C) (row : ℕ) → row ≡ draft.row → Kept old mid → (0 < share old) × (draft.cargo ≡ cargo) × DidDraw (view old) (view mid) draft.row → Appended mid new draft.row 0 slip (load draft.cargo)
      → Called (build_of e) (sight old) (sight new) (CallPut slip (load cargo)) (IsAt row None)
  put_done mid new draft row same k x b =
      let draw = x.2 in
      let a : Appended mid new row 0 slip (load cargo) = subst (λ (z : ℕ × C). Appended mid new z.0 0 slip (load z.1)) (λ i. (sym same i, x.1 i)) b in
      let one = stepped old mid [] draw.added k (drew_did old mid draft.row draw) draw.shown_is in
      let two = stepped mid new (enters row slip (load cargo) ∷ []) a.ran.added a.ran.keeps.kept a.ran.did a.ran.shown_is in
      let all = stepped_trans (sight old) (sight mid) (sight new) [] (enters row slip (load cargo) ∷ []) draw.added a.ran.added one two in
      called_by (build_of e) (sight old) (sight new) (CallPut slip (load cargo)) (IsAt row None) (draw.added ++ a.ran.added) refl all refl x.0
      (a.ran.keeps.allowance ∙ ap (λ (z : View). z.allowance) draw.view) (a.ran.keeps.share ∙ ap (λ (z : View). z.share) draw.view)
