-- walks along a list
use Rattle.std.proofs.Common.{◌≡◌, ◌≢◌, ◌⊎◌, inl, inr, ℕ, zero, suc, ◌≤◌, ◌<◌, Option, Some, None, List, [], ◌∷◌, ◌++◌, length, option_map, refl, sym, ap, ◌∙◌, subst, ⊎_elim, append-nil, arith}
use Rattle.std.proofs.lemmas.Bool.{cases_eq, cases_lt}
use mathlib.Core.List.{IsPrefix}
use Rattle.queue_model.specs.declared.deeds.Act.{Act}
use Rattle.queue_model.specs.declared.deeds.Act.TheVariants.{Acq, Lock, Unlock, Steal, Rel, Deq, Del, Reserve, GiveBack, Enq, Bell, Take}
use Rattle.queue_model.specs.declared.deeds.Deed.{Deed}
use Rattle.queue_model.specs.declared.queues.Queue.{Queue}
use Rattle.queue_model.specs.declared.rows.Row.{Row}
use Rattle.queue_model.specs.declared.rows.Slip.{Slip}
use Rattle.queue_model.specs.declared.rows.RowState.TheVariants.{Available, Locked, Unlocked, Dequeued, Deleted}
use Rattle.queue_model.specs.History.{after, Legal}
use Rattle.queue_model.specs.State.{is_row, row_at, list_at, place_at, rows_of}
use Rattle.queue_model.specs.Table.{Can, acted, changed, in_state, left_in}
use Rattle.queue_model.proofs.KeyedLemmas.{find_none-alter}
use Rattle.queue_model.proofs.RowFacts.{other_row, changed_number, row_push_other}
use Rattle.queue_model.proofs.Owns.{own_enqueued, own_enqueued_last}
use Rattle.queue_model.proofs.SoundSteps.{list_found}
use Rattle.queue_model.proofs.Stable.{row_step, row_stays, place_step, place_stays}
use Rattle.queue_model.proofs.Histories.{after-append, legal_rest}
use Rattle.queue_model.proofs.Prefixes.{prefix_more, prefix_length}
use Rattle.acts_core.specs.Owed.{Has, IsBusy, mark, Looked, taken}
use Rattle.acts_core.specs.Walks.{reach, IsStop}
use Rattle.cursor_core.specs.Truths.{IsWithin, LookedOr, Good}
use Rattle.cursor_core.specs.Walked.{IsBound, Walked, Answers}
use Rattle.scavenge_core.proofs.Stepping.{row_within}
use Rattle.cursor_core.proofs.Marks.{mark_within, looked_more}
use Rattle.cursor_core.proofs.Carries.{row_carries, place_more}

-- What was there before

-- whether a row number was there
has_or : (o : Option Row) → (o ≡ None) ⊎ ((x : Row) × (o ≡ Some x))
has_or None = inl refl
has_or (Some x) = inr (x, refl)

-- nothing is changed to something
mapped_none : (f : Row → Row) (o : Option Row) (y : Row) → o ≡ None → option_map f o ≡ Some y → ⊥
mapped_none f None y e g = absurd (cc)
mapped_none f (Some x) y e g = absurd (cc)

-- a change of one row brings no other
changed_none : (q : Queue) (s e : ℕ) (f : Row → Row) → ((x : Row) → (f x).number ≡ x.number) → row_at q e ≡ None → row_at (changed q s f) e ≡ None
changed_none q s e f kept none =
    find_none-alter (is_row s) (is_row e) (option_map f) q.rows none (λ y found. ⊎_elim
    (λ (same : s ≡ e). absurd (mapped_none f (row_at q s) y (ap (row_at q) same ∙ none) found))
    (λ (other : s ≢ e). other_row s e y other (changed_number q s f kept y found))
    (cases_eq s e))

-- a row that was not there and is, came at the end of its list
new_last : (q : Queue) (h : ℕ) (a : Act) (e : ℕ) (x : Row) → Can q h a → row_at q e ≡ None → row_at (acted q h a) e ≡ Some x → place_at (acted q h a) e ≡ length (rows_of q x.slip.list)
new_last q h (Acq s) e x can none found = absurd (let bad : None ≡ Some x = sym (changed_none q s e (in_state (Locked h)) (λ z. refl) none) ∙ found in cc)
new_last q h (Lock s) e x can none found = absurd (let bad : None ≡ Some x = sym (changed_none q s e (in_state (Locked h)) (λ z. refl) none) ∙ found in cc)
new_last q h (Unlock s n) e x can none found = absurd (let bad : None ≡ Some x = sym (changed_none q s e (left_in (Unlocked h) n) (λ z. refl) none) ∙ found in cc)
new_last q h (Steal s) e x can none found = absurd (let bad : None ≡ Some x = sym (changed_none q s e (in_state (Locked h)) (λ z. refl) none) ∙ found in cc)
new_last q h (Rel s n) e x can none found = absurd (let bad : None ≡ Some x = sym (changed_none q s e (left_in Available n) (λ z. refl) none) ∙ found in cc)
new_last q h (Deq s) e x can none found = absurd (let bad : None ≡ Some x = sym (changed_none q s e (in_state Dequeued) (λ z. refl) none) ∙ found in cc)
new_last q h (Del s) e x can none found = absurd (let bad : None ≡ Some x = sym (changed_none q s e (in_state Deleted) (λ z. refl) none) ∙ found in cc)
new_last q h (Reserve size) e x can none found = absurd (let bad : None ≡ Some x = sym none ∙ found in cc)
new_last q h (GiveBack size) e x can none found = absurd (let bad : None ≡ Some x = sym none ∙ found in cc)
new_last q h (Enq s slip content origin n) e x can none found =
    let y : Row = record { number = s; slip = slip; state = Available; content = content; origin = origin; count = n } in
    ⊎_elim
    (λ (same : s ≡ e).
    let here : row_at (acted q h (Enq s slip content origin n)) s ≡ Some y = own_enqueued q h s slip content origin n can in
    let both : Some y ≡ Some x = sym here ∙ ap (row_at (acted q h (Enq s slip content origin n))) same ∙ found in
    let z : y ≡ x = cc in
    subst (λ (k : ℕ). place_at (acted q h (Enq s slip content origin n)) k ≡ length (rows_of q x.slip.list)) same
    (own_enqueued_last q h s slip content origin n can ∙ ap (λ (w : Row). length (rows_of q w.slip.list)) z))
    (λ (other : s ≢ e). absurd (let bad : None ≡ Some x = sym none ∙ sym (row_push_other e q.rows y other) ∙ found in cc))
    (cases_eq s e)
new_last q h (Bell s c) e x can none found = absurd (let bad : None ≡ Some x = sym none ∙ found in cc)
new_last q h (Take c l) e x can none found = absurd (let bad : None ≡ Some x = sym none ∙ found in cc)

-- a row at or before one that was there was there, over one step
old_step : (q : Queue) (h : ℕ) (a : Act) (r e : ℕ) (y x : Row) → Can q h a → row_at q r ≡ Some y → row_at (acted q h a) e ≡ Some x → x.slip.list ≡ y.slip.list → place_at (acted q h a) e ≤ place_at q r → Has q e
old_step q h a r e y x can there found same low = ⊎_elim
    (λ (none : row_at q e ≡ None).
    let last : place_at (acted q h a) e ≡ length (rows_of q x.slip.list) = new_last q h a e x can none found in
    let within = row_within q x.slip.list r (y, there, sym same) in
    absurd (omega (arith, last, within, low)))
    (λ (some : Has q e). some)
    (has_or (row_at q e))

-- and over a history
old_rows : (q : Queue) (ds : List Deed) (r e : ℕ) (y x : Row) → Legal q ds → row_at q r ≡ Some y → row_at (after q ds) e ≡ Some x → x.slip.list ≡ y.slip.list → place_at (after q ds) e ≤ place_at q r → Has q e
old_rows q [] r e y x legal there found same low = (x, found)
old_rows q (d ∷ ds) r e y x legal there found same low =
    let s = row_step q d.caller d.act r y there in
    let list : y.slip.list ≡ s.0.slip.list = ap (λ (t : Slip). t.list) (sym s.2.slip) in
    let mid : Has (acted q d.caller d.act) e =
    old_rows (acted q d.caller d.act) ds r e s.0 x legal.1 s.1 found (same ∙ list) (subst (λ (n : ℕ). place_at (after q (d ∷ ds)) e ≤ n) (sym (place_step q d.caller d.act r y there)) low) in
    let m = row_stays (acted q d.caller d.act) ds e mid.0 mid.1 in
    let both : Some m.0 ≡ Some x = sym m.1 ∙ found in
    let z : m.0 ≡ x = cc in
    let here : mid.0.slip.list ≡ y.slip.list = ap (λ (t : Slip). t.list) (sym m.2.slip) ∙ ap (λ (w : Row). w.slip.list) z ∙ same in
    old_step q d.caller d.act r e y mid.0 legal.0 there mid.1 here (subst (λ (n : ℕ). n ≤ place_at q r) (place_stays (acted q d.caller d.act) ds e mid.0 mid.1) low)

-- a row within places that are up to a stop was there
pub old_within : (o : Queue) (l n e : ℕ) (ds es : List Deed) → Legal o (ds ++ es) → IsBound (after o ds) l n → IsWithin (after o (ds ++ es)) l n e → Has (after o ds) e
old_within o l n e ds es legal (zero, stop, low) w = absurd (omega (arith, low, w.below))
old_within o l n e ds es legal (suc r, stop, low) w =
    old_rows (after o ds) es r e stop.0 w.row (legal_rest o ds es legal) stop.1
    (ap (λ (s : Queue). row_at s e) (sym (after-append o ds es)) ∙ w.found)
    (w.list ∙ sym stop.2)
    (subst (λ (s : Queue). place_at s e ≤ place_at (after o ds) r) (after-append o ds es) (omega (arith, low, w.below)))

-- and it was within them
pub within_back : (o : Queue) (l n e : ℕ) (ds es : List Deed) → Has (after o ds) e → IsWithin (after o (ds ++ es)) l n e → IsWithin (after o ds) l n e
within_back o l n e ds es has w =
    let t = row_stays (after o ds) es e has.0 has.1 in
    let both : Some t.0 ≡ Some w.row = sym t.1 ∙ ap (λ (s : Queue). row_at s e) (sym (after-append o ds es)) ∙ w.found in
    let z : t.0 ≡ w.row = cc in
    record {
      row = has.0;
      found = has.1;
      list = ap (λ (s : Slip). s.list) (sym t.2.slip) ∙ ap (λ (y : Row). y.slip.list) z ∙ w.list;
      below = subst (λ (k : ℕ). k < n) (place_more o e ds es has) w.below;
    }

-- a row within some places is so ever after
pub within_more : (o : Queue) (l n e : ℕ) (ds es : List Deed) → IsWithin (after o ds) l n e → IsWithin (after o (ds ++ es)) l n e
within_more o l n e ds es w =
    let t = row_stays (after o ds) es e w.row w.found in
    record {
      row = t.0;
      found = ap (λ (s : Queue). row_at s e) (after-append o ds es) ∙ t.1;
      list = ap (λ (s : Slip). s.list) t.2.slip ∙ w.list;
      below = subst (λ (k : ℕ). k < n) (sym (place_more o e ds es (w.row, w.found))) w.below;
    }

-- a stop stays one, with as many places up to it
pub stop_more : (o : Queue) (l w : ℕ) (ds es : List Deed) → IsStop (after o ds) l w → IsStop (after o (ds ++ es)) l w
stop_more o l zero ds es s = tt
stop_more o l (suc r) ds es s =
    let t = row_stays (after o ds) es r s.0 s.1 in
    (t.0, ap (λ (q : Queue). row_at q r) (after-append o ds es) ∙ t.1, ap (λ (x : Slip). x.list) t.2.slip ∙ s.2)

pub reach_more : (o : Queue) (l w : ℕ) (ds es : List Deed) → IsStop (after o ds) l w → reach (after o (ds ++ es)) w ≡ reach (after o ds) w
reach_more o l zero ds es s = refl
reach_more o l (suc r) ds es s = ap (λ (n : ℕ). suc n) (place_more o r ds es (s.0, s.1))

pub bound_more : (o : Queue) (l n : ℕ) (ds es : List Deed) → IsBound (after o ds) l n → IsBound (after o (ds ++ es)) l n
bound_more o l n ds es b = (b.0, stop_more o l b.0 ds es b.1, subst (λ (k : ℕ). n ≤ k) (sym (reach_more o l b.0 ds es b.1)) b.2)

-- Good stops

-- a row that was looked at or is rung for stays so, if the bell of its list isn't taken
carried : (o : Queue) (c l n e : ℕ) (ds es : List Deed) → Legal o (ds ++ es) → taken c l es ≡ [] → IsWithin (after o ds) l n e → LookedOr o c e ds → LookedOr o c e (ds ++ es)
carried o c l n e ds es legal un w looked =
    let list : l ≡ list_at (after o ds) e = sym w.list ∙ sym (list_found (after o ds) e w.row w.found) in
    row_carries o c e ds es legal (w.row, w.found) (subst (λ (m : ℕ). taken c m es ≡ []) list un) looked

-- a good stop stays good while the bell of its list isn't taken
pub good_more : (o : Queue) (c l w : ℕ) (ds es : List Deed) → Legal o (ds ++ es) → taken c l es ≡ [] → Good o c l w ds → Good o c l w (ds ++ es)
good_more o c l w ds es legal un good =
    let n = reach (after o ds) w in
    let same : reach (after o (ds ++ es)) w ≡ n = reach_more o l w ds es good.stop in
    record {
      stop = stop_more o l w ds es good.stop;
      looked = λ e within.
          let v : IsWithin (after o (ds ++ es)) l n e = subst (λ (k : ℕ). IsWithin (after o (ds ++ es)) l k e) same within in
          let has = old_within o l n e ds es legal (w, good.stop, omega arith) v in
          let back = within_back o l n e ds es has v in
          carried o c l n e ds es legal un back (good.looked e back);
    }

-- Walks

-- where nothing is done
pub walk_none : (o : Queue) (c l : ℕ) (begin seen : List Deed) → Walked o c l 0 begin seen
walk_none o c l begin seen = record {
  bound = (0, tt, omega arith);
  owed = λ e w has. absurd (omega (arith, w.below));
  good = λ e w. absurd (omega (arith, w.below));
}

-- what is done stays done, while the bell isn't taken
pub walk_more : (o : Queue) (c l n : ℕ) (begin ds es : List Deed) → Legal o (ds ++ es) → taken c l es ≡ [] → Walked o c l n begin ds → Walked o c l n begin (ds ++ es)
walk_more o c l n begin ds es legal un walked = record {
  bound = bound_more o l n ds es walked.bound;
  owed = λ e w was.
      let has = old_within o l n e ds es legal walked.bound w in
      looked_more o c e (mark c e begin) ds (ds ++ es) (prefix_more ds es) (walked.owed e (within_back o l n e ds es has w) was);
  good = λ e w.
      let has = old_within o l n e ds es legal walked.bound w in
      let back = within_back o l n e ds es has w in
      carried o c l n e ds es legal un back (walked.good e back);
}

-- a row that is not free at the end of a history was looked at there
busy_looked : (o : Queue) (c e n : ℕ) (ds : List Deed) → n ≤ length ds → IsBusy (after o ds) c e → Looked o c e n ds
busy_looked o c e n ds low busy = record { at = ds; prefix = ([], append-nil ds); long = low; busy = busy }

-- further places whose rows are not free now are done too
pub walk_on : (o : Queue) (c l n m : ℕ) (begin seen : List Deed) → IsPrefix begin seen → IsBound (after o seen) l m
    → ((e : ℕ) → IsWithin (after o seen) l m e → n ≤ place_at (after o seen) e → IsBusy (after o seen) c e)
    → Walked o c l n begin seen → Walked o c l m begin seen
walk_on o c l n m begin seen p bound busy walked =
    let long = prefix_length begin seen p in
    record {
      bound = bound;
      owed = λ e w has. ⊎_elim
          (λ (done : place_at (after o seen) e < n). walked.owed e (record { row = w.row; found = w.found; list = w.list; below = done }) has)
          (λ (more : n ≤ place_at (after o seen) e).
          let within = mark_within c e begin in
          busy_looked o c e (mark c e begin) seen (omega (arith, within, long)) (busy e w more))
          (cases_lt (place_at (after o seen) e) n);
      good = λ e w. ⊎_elim
          (λ (done : place_at (after o seen) e < n). walked.good e (record { row = w.row; found = w.found; list = w.list; below = done }))
          (λ (more : n ≤ place_at (after o seen) e).
          inl (busy_looked o c e (mark c e seen) seen (mark_within c e seen) (busy e w more)))
          (cases_lt (place_at (after o seen) e) n);
    }

-- a walk up to a stop makes it good
pub walk_good : (o : Queue) (c l w : ℕ) (begin seen : List Deed) → IsStop (after o seen) l w → Walked o c l (reach (after o seen) w) begin seen → Good o c l w seen
walk_good o c l w begin seen stop walked = record { stop = stop; looked = walked.good }

-- and answers for all rows owed up to there
pub walk_answers : (o : Queue) (c l n : ℕ) (begin es : List Deed) → Walked o c l n begin (begin ++ es) → Answers o c l n begin (begin ++ es)
walk_answers o c l n begin es walked e w = walked.owed e (within_more o l n e begin es w) (w.row, w.found)
