-- steps of a pass in a row, and what is known through them
use Rattle.std.proofs.Common.{◌≡◌, ◌≢◌, ◌⊎◌, ℕ, zero, suc, ◌+◌, ◌-◌, ◌^◌, ◌≤◌, ◌<◌, ◌==◌, true, false, Option, Some, None, List, [], ◌∷◌, ◌++◌, find, length, option_map, refl, sym, ap, ◌∙◌, subst, ⊎_elim, append_assoc, append-nil, arith}
use Rattle.std.proofs.lemmas.Bool.{cases_Bool}
use Rattle.std.specs.List.{position_or_len}
use mathlib.Core.List.{IsPrefix}
use Rattle.queue_model.specs.declared.deeds.Act.{Act}
use Rattle.queue_model.specs.declared.deeds.Deed.{Deed}
use Rattle.queue_model.specs.declared.queues.Queue.{Queue}
use Rattle.queue_model.specs.declared.queues.Reservation.{Reservation}
use Rattle.queue_model.specs.declared.rows.Row.{Row}
use Rattle.queue_model.specs.declared.rows.Slip.{Slip}
use Rattle.queue_model.specs.declared.steps.DraftWord.{DraftWord}
use Rattle.queue_model.specs.declared.steps.DraftWord.TheVariants as drafts
use Rattle.queue_model.specs.declared.steps.Tried.{Tried}
use Rattle.queue_model.specs.History.{after, Legal, own, deeds_of}
use Rattle.queue_model.specs.State.{is_row, rows_of, list_at, place_at, reserved_by}
use Rattle.queue_model.specs.Table.{CanGive, FitsQueue}
use Rattle.queue_model.proofs.Histories.{after-append}
use Rattle.queue_model.proofs.KeyedLemmas.{find-alter, find-past, find_passes, position-here, position-past}
use Rattle.queue_model.proofs.Owns.{own_rest}
use Rattle.queue_model.proofs.Prefixes.{prefix_self}
use Rattle.queue_model.proofs.SoundSteps.{list_found}
use Rattle.queue_model.proofs.Stable.{found_in_list, reserved_stays}
use Rattle.acts_core.specs.Asked.{Enters}
use Rattle.acts_core.specs.Load.{Load}
use Rattle.acts_core.specs.Walks.{node_at, reach, IsOfList, IsStop}
use Rattle.acts_core.proofs.Walking.{list_later, place_later}
use Rattle.entry_table.specs.declared.pass.Pass.{Pass}
use Rattle.entry_table.specs.declared.view.Drawing.{Drawing}
use Rattle.entry_table.specs.declared.view.Shape.{Shape}
use Rattle.entry_table.specs.declared.view.View.{View}
use Rattle.entry_table.specs.Passes.{Kept, Did, view, opening, seen, state, shown, callers, consumers, allowance, share, drawn}
use Rattle.entry_table.specs.Plays.{Steps, IsKnown, list_at_node, place_at_node, stored_view}
use Rattle.entry_table.specs.Views.{is_drawing, drawing_at, blank_drawing, with_word}
use Rattle.entry_table.proofs.Joining.{steps_trans}
use Rattle.entry_calls.specs.Appends.{Ran, Described, Drafts}
use Rattle.entry_calls.proofs.Replying.{keeps_trans}

-- In a row

-- the steps of a later pass, as those of an earlier one
pub steps_back : (a b c : Pass) (ds : ℕ → List Deed) → Kept a b → Steps (opening b) b.caller (callers b) (consumers b) (seen b) (seen c) (ds b.caller) → Steps (opening a) a.caller (callers a) (consumers a) (seen b) (seen c) (ds a.caller)
steps_back a b c ds k s = subst (λ (z : Queue × ℕ × List ℕ × List ℕ). Steps z.0 z.1 z.2 z.3 (seen b) (seen c) (ds z.1)) (λ i. (k.opening i, k.caller i, k.callers i, k.consumers i)) s

pub ran_then : (a b c : Pass) (ys : List Act) → Ran a b [] → Ran b c ys → Ran a c ys
ran_then a b c ys p q = record {
  keeps = keeps_trans a b c p.keeps q.keeps;
  did = steps_trans (opening a) a.caller (callers a) (consumers a) (seen a) (seen b) (seen c) [] (deeds_of a.caller ys) p.did (steps_back a b c (λ h. deeds_of h ys) p.keeps.kept q.did);
  added = p.added ++ q.added;
  shown_is = q.shown_is ∙ ap (λ (l : List Tried). l ++ q.added) p.shown_is ∙ append_assoc (shown a) p.added q.added;
}

pub ran_end : (a b c : Pass) (x : Act) → Ran a b (x ∷ []) → Ran b c [] → Ran a c (x ∷ [])
ran_end a b c x p q = record {
  keeps = keeps_trans a b c p.keeps q.keeps;
  did = steps_trans (opening a) a.caller (callers a) (consumers a) (seen a) (seen b) (seen c) (deeds_of a.caller (x ∷ [])) [] p.did (steps_back a b c (λ h. []) p.keeps.kept q.did);
  added = p.added ++ q.added;
  shown_is = q.shown_is ∙ ap (λ (l : List Tried). l ++ q.added) p.shown_is ∙ append_assoc (shown a) p.added q.added;
}

pub kept_self : (p : Pass) → Kept p p
kept_self p = record { table = refl; caller = refl; shape = refl; opening = refl; callers = refl; made = refl; consumers = refl }

-- nothing was done
pub ran_none : (p : Pass) → Legal (opening p) (seen p) → Ran p p []
ran_none p legal = record {
  keeps = record { kept = kept_self p; allowance = refl; share = refl };
  did = record { prefix = prefix_self (seen p); legal = legal; own_more = sym (append-nil (own p.caller (seen p))); concern_more = sym (append-nil _) };
  added = [];
  shown_is = sym (append-nil (shown p));
}

-- one step without an act
pub ran_one : (old new : Pass) (t : Tried) → Kept old new → allowance new ≡ allowance old → share new ≡ share old → Did old new [] → shown new ≡ shown old ++ t ∷ [] → Ran old new []
ran_one old new t k a s d e = record { keeps = record { kept = k; allowance = a; share = s }; did = d; added = t ∷ []; shown_is = e }

-- a store
pub ran_store : (old new : Pass) (row value : ℕ) (word : DraftWord) → Kept old new → Did old new [] → view new ≡ stored_view (view old) row word value (seen new) → Ran old new []
ran_store old new row value word k d e = record {
  keeps = record { kept = k; allowance = ap (λ (z : View). z.allowance) e; share = ap (λ (z : View). z.share) e };
  did = d;
  added = [];
  shown_is = ap (λ (z : View). z.shown) e ∙ sym (append-nil (shown old));
}

-- Drafts

row_stored : (w : DraftWord) (n : ℕ) (d : Drawing) → (with_word w n d).row ≡ d.row
row_stored drafts.Mask n d = refl
row_stored drafts.Place n d = refl
row_stored drafts.Ident n d = refl
row_stored drafts.Size n d = refl
row_stored drafts.List n d = refl

pub drawing_stored : (old new : Pass) (row value : ℕ) (word : DraftWord) (d : Drawing) → view new ≡ stored_view (view old) row word value (seen new) → drawing_at (view old) row ≡ Some d → drawing_at (view new) row ≡ Some (with_word word value d)
drawing_stored old new row value word d e drawing =
    ap (λ (z : View). drawing_at z row) e
    ∙ find-alter (is_drawing row) (option_map (with_word word value)) (drawn old) (with_word word value d) (ap (option_map (with_word word value)) drawing)
    (ap (λ (z : ℕ). z == row) (row_stored word value d) ∙ find_passes (is_drawing row) (drawn old) d drawing)

-- Stops

-- what stands in a list has a place there
position_in : (p : Row → Rattle.std.proofs.Common.Bool) (xs : List Row) (y : Row) → find p xs ≡ Some y → position_or_len p xs < length xs
position_in p [] y e = absurd (cc)
position_in p (x ∷ xs) y e = ⊎_elim
    (λ (hit : p x ≡ true). omega (arith, position-here p x xs hit))
    (λ (miss : p x ≡ false). let t = position_in p xs y (sym (find-past p x xs miss) ∙ e) in omega (arith, t, position-past p x xs miss))
    (cases_Bool (p x))

-- a stop reaches no further than its list
pub reach_low : (q : Queue) (l w : ℕ) → IsStop q l w → reach q w ≤ length (rows_of q l)
reach_low q l zero stop = omega arith
reach_low q l (suc r) stop =
    let at : list_at q r ≡ l = list_found q r stop.0 stop.1 ∙ stop.2 in
    let inside = position_in (is_row r) (rows_of q (list_at q r)) stop.0 (found_in_list q r stop.0 stop.1) in
    let long = ap (λ (m : ℕ). length (rows_of q m)) at in omega (arith, inside, long)

pub stop_on : (o : Queue) (ds es : List Deed) (l w : ℕ) → IsPrefix ds es → IsStop (after o ds) l w → IsStop (after o es) l w × (reach (after o es) w ≡ reach (after o ds) w)
stop_on o ds es l zero p stop = (tt, refl)
stop_on o ds es l (suc r) p stop = (list_later o ds es l r p stop, ap suc (place_later o ds es r stop.0 p stop.1))

-- through a pass's steps
pub stop_ran : (old new : Pass) (l w : ℕ) → opening new ≡ opening old → IsPrefix (seen old) (seen new) → IsStop (state old) l w → IsStop (state new) l w × (reach (state new) w ≡ reach (state old) w)
stop_ran old new l w same p stop =
    subst (λ (o : Queue). IsStop (after o (seen new)) l w × (reach (after o (seen new)) w ≡ reach (state old) w)) (sym same) (stop_on (opening old) (seen old) (seen new) l w p stop)

pub known_stop : (q : Queue) (l w : ℕ) → l < q.lists → IsStop q l w → IsKnown q (node_at l w)
known_stop q l zero low stop = low
known_stop q l (suc r) low stop = (stop.0, stop.1)

pub list_stop : (q : Queue) (l w : ℕ) → IsStop q l w → list_at_node q (node_at l w) ≡ l
list_stop q l zero stop = refl
list_stop q l (suc r) stop = list_found q r stop.0 stop.1 ∙ stop.2

pub place_stop : (q : Queue) (l w : ℕ) → place_at_node q (node_at l w) ≡ reach q w
place_stop q l zero = refl
place_stop q l (suc r) = omega arith

-- a stop that is no head
pub reach_some : (q : Queue) (w : ℕ) → w ≢ 0 → reach q w ≡ suc (place_at q (w - 1))
reach_some q zero some = absurd (some refl)
reach_some q (suc r) some = ap (λ (n : ℕ). suc (place_at q n)) (let e : r ≡ suc r - 1 = omega arith in e)

pub stop_row : (q : Queue) (l w : ℕ) → w ≢ 0 → IsStop q l w → IsOfList q l (w - 1)
stop_row q l zero some stop = absurd (some refl)
stop_row q l (suc r) some stop = subst (IsOfList q l) (let e : r ≡ suc r - 1 = omega arith in e) stop

pub row_stop : (q : Queue) (l w : ℕ) → w ≢ 0 → IsOfList q l (w - 1) → IsStop q l w
row_stop q l zero some row = absurd (some refl)
row_stop q l (suc r) some row = subst (IsOfList q l) (let e : suc r - 1 ≡ r = omega arith in e) row

-- Reservations

-- what a slip asks for it asks for later
pub enters_on : (old new : Pass) (slip : Slip) (l : Load) → Kept old new → Did old new [] → Enters (state old) old.caller slip l → Enters (state new) new.caller slip l
enters_on old new slip l k d e =
    let lists : (state new).lists ≡ (state old).lists = new.within.lists ∙ ap (λ (s : Shape). s.lists) k.shape ∙ sym old.within.lists in
    let consumers_same : (state new).consumers ≡ (state old).consumers = new.within.consumers ∙ ap (λ (s : Shape). s.consumers) k.shape ∙ sym old.within.consumers in
    let none : own old.caller d.prefix.0 ≡ [] = own_rest old.caller (seen old) (seen new) [] d.prefix d.own_more in
    let later : after (after (opening old) (seen old)) d.prefix.0 ≡ state new = sym (after-append (opening old) (seen old) d.prefix.0) ∙ ap (after (opening old)) d.prefix.1 ∙ ap (λ (o : Queue). after o (seen new)) (sym k.opening) in
    let same : reserved_by (state new) old.caller ≡ reserved_by (state old) old.caller = ap (λ (q : Queue). reserved_by q old.caller) (sym later) ∙ reserved_stays (state old) d.prefix.0 old.caller none in
    record {
      fits = subst (λ (z : ℕ × ℕ). FitsQueue z.0 z.1 slip) (λ i. (sym lists i, sym consumers_same i)) e.fits;
      reserved = subst (λ (h : ℕ). CanGive (reserved_by (state new) h) slip.size) (sym k.caller) (subst (λ (v : Reservation). CanGive v slip.size) (sym same) e.reserved);
      id = e.id;
      size = e.size;
    }

pub enters_later : (old new : Pass) (slip : Slip) (l : Load) → Ran old new [] → Enters (state old) old.caller slip l → Enters (state new) new.caller slip l
enters_later old new slip l ran e = enters_on old new slip l ran.keeps.kept ran.did e

-- a draft's words stay where the drafts do
pub described_on : (old new : Pass) (row : ℕ) (slip : Slip) → Kept old new → drawn new ≡ drawn old → Described old row slip → Described new row slip
described_on old new row slip k same d = record {
  d = d.d;
  drawing = ap (find (is_drawing row)) same ∙ d.drawing;
  low = subst (λ (s : Shape). row < s.rows) (sym k.shape) d.low;
  mask = d.mask;
  ident = d.ident;
  size = d.size;
  list = d.list;
}

-- the draft words after a store
pub drafts_stored : (old new : Pass) (row value : ℕ) (word : DraftWord) (d : Drawing) → Kept old new → view new ≡ stored_view (view old) row word value (seen new) → Drafts old row d → Drafts new row (with_word word value d)
drafts_stored old new row value word d k e x = record {
  drawing = drawing_stored old new row value word d e x.drawing;
  low = subst (λ (s : Shape). row < s.rows) (sym k.shape) x.low;
}

-- once all words of a slip are written
pub describes : (p : Pass) (row : ℕ) (slip : Slip) (l : ℕ) → l ≡ slip.list → Drafts p row (with_word drafts.List l (with_word drafts.Size slip.size (with_word drafts.Ident slip.id (with_word drafts.Mask slip.mask (blank_drawing row))))) → Described p row slip
describes p row slip l list x = record {
  d = _;
  drawing = x.drawing;
  low = x.low;
  mask = refl;
  ident = refl;
  size = refl;
  list = list;
}
