-- a call of next over the lists of a queue
use Rattle.std.proofs.Common.{◌≡◌, ◌≢◌, Bool, true, false, ◌&&◌, ◌==◌, cond, ℕ, zero, suc, ◌+◌, ◌-◌, ◌*◌, ◌≤◌, ◌<◌, Some, List, [], ◌∷◌, ◌++◌, length, filter, slice_index, slice_set, refl, sym, ap, ◌∙◌, subst, ⊎_elim, append_assoc, ne_eqb, arith}
use Rattle.std.proofs.lemmas.Bool.{cases_Bool, cases_eq, cases_lt, cond-true, cond-false}
use Rattle.std.proofs.lemmas.List.{get_or-set_same, get_or-set_other}
use mathlib.Core.List.{IsPrefix, Mem}
use Rattle.queue_model.specs.declared.deeds.Act.{Act}
use Rattle.queue_model.specs.declared.deeds.Act.TheVariants.{Acq, Take}
use Rattle.queue_model.specs.declared.deeds.Deed.{Deed}
use Rattle.queue_model.specs.declared.queues.Queue.{Queue}
use Rattle.queue_model.specs.declared.rows.Row.{Row}
use Rattle.queue_model.specs.declared.rows.RowState.TheVariants.{Deleted}
use Rattle.queue_model.specs.declared.rows.Slip.{Slip}
use Rattle.queue_model.specs.declared.steps.Tried.{Tried}
use Rattle.queue_model.specs.History.{after, Legal, deed, deeds_of}
use Rattle.queue_model.specs.Order.{Precedes, ByList}
use Rattle.queue_model.specs.State.{row_at, rows_of, place_at, IsIn}
use Rattle.queue_model.proofs.Histories.{legal_rest}
use Rattle.queue_model.proofs.Prefixes.{prefix_trans}
use Rattle.queue_model.proofs.Stable.{row_stays, place_stays, deleted_stays}
use Rattle.acts_core.specs.Calls.{CallNext, IsGot, IsEmpty, takes_down}
use Rattle.acts_core.specs.Lists.{Gets, Passed, NextGot, NextEmpty}
use Rattle.acts_core.specs.Load.{Load}
use Rattle.acts_core.specs.Meaning.{Called}
use Rattle.acts_core.specs.Moments.{JustBefore}
use Rattle.acts_core.specs.Owed.{is_free, takes, takes_any, taken, taken_any}
use Rattle.acts_core.specs.Sight.{Listed, Build, Sight, Forgotten, Showed}
use Rattle.acts_core.specs.Walks.{reach, IsOfList, IsStop}
use Rattle.acts_core.proofs.Coming.{from_pred}
use Rattle.acts_core.proofs.Sparing.{after_rest}
use Rattle.acts_core.proofs.Stepping.{called_by}
use Rattle.cursor_core.specs.declared.cursor.Cursor.{Cursor}
use Rattle.cursor_core.specs.Goes.{Goes}
use Rattle.cursor_core.specs.Listing.{WalkedRows, IsBehind, WalkedTo, WalkedOut, Done}
use Rattle.scavenge_core.specs.Shown.{looks, hops}
use Rattle.cursor_core.specs.Truths.{Good, TrueOf, TrueNow}
use Rattle.cursor_core.specs.Walking.{belled, start_of, Spends, WalkGot, WalkEnd}
use Rattle.cursor_core.proofs.Counting.{walked_later}
use Rattle.cursor_core.proofs.Going.{goes_trans, goes_none, goes_legal, goes_caller, goes_mem, goes_taken, reach_on}
use Rattle.scavenge_core.proofs.Logs.{looks-append, hops-append}
use Rattle.cursor_core.proofs.Marks.{takes_less}
use Rattle.cursor_core.proofs.Passing.{passed_more, passed_some, passed_wider, true_walked}
use Rattle.cursor_core.proofs.Truths.{true_now, now_true}

-- Takes of one list

through : {X : Type 0} (p q : X → Bool) (xs : List X) → ((x : X) → q x ≡ false → p x ≡ false) → filter p (filter q xs) ≡ filter p xs
through {X = X} p q [] less = refl
through {X = X} p q (x ∷ xs) less =
    let rest = through p q xs less in
    ⊎_elim
    (λ (hit : q x ≡ true). ap (filter p) (cond-true (q x) (x ∷ filter q xs) (filter q xs) hit) ∙ ap (λ (l : List X). cond (p x) (x ∷ l) l) rest)
    (λ (miss : q x ≡ false).
    ap (filter p) (cond-false (q x) (x ∷ filter q xs) (filter q xs) miss) ∙ rest ∙ sym (cond-false (p x) (x ∷ filter p xs) (filter p xs) (less x miss)))
    (cases_Bool (q x))

-- the takes of a list are among the takes
taken_among : (c l : ℕ) (ds : List Deed) → taken c l ds ≡ taken c l (taken_any c ds)
taken_among c l ds = sym (through (λ (d : Deed). takes c l d.act) (λ (d : Deed). takes_any c d.act) ds (λ d e. takes_less c l d.act e))

-- steps whose takes are of one list take no bell of another
others_untaken : (o : Queue) (a b : Sight) (xs : List Act) (us : List Tried) (c m : ℕ) (s : Goes o a b xs us) → Mem c a.consumers → taken c m (deeds_of a.caller xs) ≡ [] → taken c m s.steps.grows.0 ≡ []
others_untaken o a b xs us c m s mem none = taken_among c m s.steps.grows.0 ∙ ap (taken c m) (goes_taken o a b xs us c s mem) ∙ sym (taken_among c m (deeds_of a.caller xs)) ∙ none

and_miss : (b : Bool) → (b && false) ≡ false
and_miss true = refl
and_miss false = refl

take_other : (h c k m : ℕ) → m ≢ k → taken c m (deeds_of h (Take c k ∷ [])) ≡ []
take_other h c k m other = cond-false ((c == c) && (k == m)) (deed h (Take c k) ∷ []) [] (ap (λ (b : Bool). (c == c) && b) (ne_eqb k m (λ e. other (sym e))) ∙ and_miss (c == c))

-- the cursor after one list
holds_after : (o : Queue) (now new : Sight) (c k w : ℕ) (stops : List ℕ) (xs : List Act) (us : List Tried) → Mem c now.consumers → k < length stops → (s : Goes o now new xs us) → ((m : ℕ) → m ≢ k → taken c m (deeds_of now.caller xs) ≡ []) → Good o c k w new.seen → TrueNow o c stops now.seen → TrueNow o c (slice_set stops k w) new.seen
holds_after o now new c k w stops xs us mem inside s others good old =
    let grows = s.steps.grows in
    subst (λ (ds : List Deed). TrueNow o c (slice_set stops k w) ds) grows.1
    (true_walked o c k w stops now.seen grows.0 (subst (Legal o) (sym grows.1) (goes_legal o now new xs us s)) inside
    (λ m other. others_untaken o now new xs us c m s mem (others m other))
    (subst (λ (ds : List Deed). Good o c k w ds) (sym grows.1) good) old)

-- Takes downwards

takes_next : (c k n : ℕ) → takes_down c (suc k) n ++ Take c k ∷ [] ≡ takes_down c k (suc n)
takes_next c k zero = let e : k ≡ k + 0 = omega arith in ap (λ (m : ℕ). Take c m ∷ []) e
takes_next c k (suc n) =
    let e : suc k + n ≡ k + suc n = omega arith in
    ap (λ (l : List Act). Take c (suc k + n) ∷ l) (takes_next c k n) ∙ ap (λ (m : ℕ). Take c m ∷ takes_down c k (suc n)) e

takes_to : (c k lists : ℕ) → suc k ≤ lists → takes_down c (suc k) (lists - suc k) ++ Take c k ∷ [] ≡ takes_down c k (lists - k)
takes_to c k lists low = let e : suc (lists - suc k) ≡ lists - k = omega (arith, low) in takes_next c k (lists - suc k) ∙ ap (takes_down c k) e

-- Rows that are behind

-- a row that is not deleted later was not before, and was up to the stop then
behind_later : (o : Queue) (c l w : ℕ) (s0 ds es : List Deed) → Legal o es → IsPrefix s0 ds → IsPrefix ds es → Good o c l w ds → IsBehind o s0 ds l w → IsBehind o s0 es l w
behind_later o c l w s0 ds es legal p q good b e x found list live had =
    let begun = row_stays (after o s0) p.0 e had.0 had.1 in
    let y = begun.0 in
    let there : row_at (after o ds) e ≡ Some y = subst (λ (z : Queue). row_at z e ≡ Some y) (after_rest o s0 ds p) begun.1 in
    let t = row_stays (after o ds) q.0 e y there in
    let now : row_at (after o es) e ≡ Some t.0 = subst (λ (z : Queue). row_at z e ≡ Some t.0) (after_rest o ds es q) t.1 in
    let both : Some t.0 ≡ Some x = sym now ∙ found in
    let same : t.0 ≡ x = cc in
    let place : place_at (after o es) e ≡ place_at (after o ds) e = ap (λ (z : Queue). place_at z e) (sym (after_rest o ds es q)) ∙ place_stays (after o ds) q.0 e y there in
    let reached = reach_on o ds es l w q good.stop in
    let alive : y.state ≢ Deleted = λ gone.
    let dead = deleted_stays (after o ds) q.0 e (legal_rest o ds q.0 (subst (Legal o) (sym q.1) legal)) (y, there, gone) in
    let late : IsIn (after o es) e Deleted = subst (λ (z : Queue). IsIn z e Deleted) (after_rest o ds es q) dead in
    let one : Some late.0 ≡ Some x = sym late.1 ∙ found in
    let is : late.0 ≡ x = cc in
    live (ap (λ (z : Row). z.state) (sym is) ∙ late.2)
    in
    let low = b e y there (sym (ap (λ (s : Slip). s.list) t.2.slip) ∙ ap (λ (z : Row). z.slip.list) same ∙ list) alive had in
    omega (arith, low, place, reached)

-- behind the end of a list
behind_end : (o : Queue) (old now : Sight) (c l u w : ℕ) (s0 : List Deed) → WalkEnd o old now c l u w → IsBehind o s0 now.seen l w
behind_end o old now c l u w s0 k e x found list live had = ⊎_elim
    (λ (low : place_at (after o now.seen) e < reach (after o now.seen) w). low)
    (λ (high : reach (after o now.seen) w ≤ place_at (after o now.seen) e). absurd (live (k.gone (suc (place_at (after o now.seen) e)) e x found list high (omega arith))))
    (cases_lt (place_at (after o now.seen) e) (reach (after o now.seen) w))

-- The loop

pub done_start : (o : Queue) (old : Sight) (c : ℕ) (stops : List ℕ) → old.opening ≡ o → Legal o old.seen → TrueOf o c stops old.seen → Done o old old c o.lists stops stops
done_start o old c stops begun legal t =
    let e : o.lists - o.lists ≡ 0 = omega arith in
    record {
      low = omega arith;
      added = [];
      goes = subst (λ (n : ℕ). Goes o old old (takes_down c o.lists n) []) (sym e) (goes_none o old begun legal);
      holds = true_now o c stops old.seen legal t;
      passed = λ m low high. absurd (omega (arith, low, high));
      rows = 0;
      walked = subst (λ (n : ℕ). WalkedRows o old.caller c stops old.seen old.seen o.lists n 0) (sym e) refl;
      looks = omega arith;
      hops = omega arith;
      behind = λ m low high. absurd (omega (arith, low, high));
      others = λ m low. refl;
    }

-- one list more was walked, from its first stop, by these steps
module _ (o : Queue) (old now new : Sight) (c k w : ℕ) (first stops : List ℕ) (us : List Tried) (d : Done o old now c (suc k) first stops) (grows : IsPrefix now.seen new.seen) (s : Spends o now new c k (slice_index stops k) us) where
  long_rows : (more : ℕ) × WalkedRows o old.caller c first old.seen new.seen (suc k) (o.lists - suc k) more × (d.rows ≤ more)
  long_rows = walked_later o old.caller c first old.seen now.seen new.seen (suc k) (o.lists - suc k) d.rows grows d.walked

  all_rows : ℕ
  all_rows = length (rows_of (after o new.seen) k) - start_of (after o s.begin) c k (slice_index first k) + long_rows.0

  walked_all : now.caller ≡ old.caller → WalkedRows o old.caller c first old.seen new.seen k (o.lists - k) all_rows
  unfolding all_rows
  walked_all caller =
      let low = d.low in
      let e : suc (o.lists - suc k) ≡ o.lists - k = omega (arith, low) in
      let begins : JustBefore old.seen new.seen (deed old.caller (Take c k)) s.begin =
      record { later = prefix_trans old.seen now.seen s.begin d.goes.steps.grows s.begins.later; early = subst (λ (h : ℕ). IsPrefix (s.begin ++ deed h (Take c k) ∷ []) new.seen) caller s.begins.early }
      in
      subst (λ (n : ℕ). WalkedRows o old.caller c first old.seen new.seen k n all_rows) e (s.begin, begins, (long_rows.0, long_rows.1, refl))

  first_stop : slice_index stops k ≡ slice_index first k
  first_stop = d.others k (omega arith)

  more_looks : looks (d.added ++ us) ≤ 2 * all_rows
  unfolding all_rows
  more_looks =
      let few = d.looks in let more = s.looks in let grown = long_rows.2 in
      let same : start_of (after o s.begin) c k (slice_index stops k) ≡ start_of (after o s.begin) c k (slice_index first k) = ap (start_of (after o s.begin) c k) first_stop in
      omega (arith, few, more, grown, same, looks-append d.added us)

  more_hops : hops (d.added ++ us) ≤ 4 * all_rows + 2 * (o.lists - k)
  unfolding all_rows
  more_hops =
      let few = d.hops in let more = s.hops in let grown = long_rows.2 in let low = d.low in
      let same : start_of (after o s.begin) c k (slice_index stops k) ≡ start_of (after o s.begin) c k (slice_index first k) = ap (start_of (after o s.begin) c k) first_stop in
      omega (arith, few, more, grown, same, low, hops-append d.added us)

  -- each list that was walked before is behind its stop still
  behind_more : Legal o new.seen → (m : ℕ) → suc k ≤ m → m < o.lists → IsBehind o old.seen new.seen m (slice_index (slice_set stops k w) m)
  behind_more legal m low high =
      subst (λ (v : ℕ). IsBehind o old.seen new.seen m v) (sym (get_or-set_other stops k m w 0 (λ e. omega (arith, e, low))))
      (behind_later o c m (slice_index stops m) old.seen now.seen new.seen legal d.goes.steps.grows grows (d.holds m high) (d.behind m low high))

  others_more : (m : ℕ) → m < k → slice_index (slice_set stops k w) m ≡ slice_index first m
  others_more m low = get_or-set_other stops k m w 0 (λ e. omega (arith, e, low)) ∙ d.others m (omega (arith, low))

-- a list was walked to its end
done_end : (o : Queue) (old now new : Sight) (c k w : ℕ) (first stops : List ℕ) → Mem c old.consumers → k < length stops → Done o old now c (suc k) first stops → WalkEnd o now new c k (slice_index stops k) w → Done o old new c k first (slice_set stops k w)
done_end o old now new c k w first stops mem inside d e =
    let grows = e.goes.steps.grows in
    let caller = goes_caller o old now (takes_down c (suc k) (o.lists - suc k)) d.added d.goes in
    let mem2 = goes_mem o old now (takes_down c (suc k) (o.lists - suc k)) d.added c d.goes mem in
    let legal = goes_legal o now new (Take c k ∷ []) e.added e.goes in
    let this : Passed Forgotten (belled o) old.caller c old.seen new.seen k (λ y. Unit {0}) =
    passed_wider Forgotten (belled o) old.caller c k old.seen now.seen new.seen (λ y. Unit {0}) d.goes.steps.grows (subst (λ (h : ℕ). Passed Forgotten (belled o) h c now.seen new.seen k (λ y. Unit {0})) caller e.passed)
    in
    let low = d.low in
    record {
      low = omega (arith, low);
      added = d.added ++ e.added;
      goes =
          subst (λ (xs : List Act). Goes o old new xs (d.added ++ e.added)) (takes_to c k o.lists d.low)
          (goes_trans o old now new (takes_down c (suc k) (o.lists - suc k)) (Take c k ∷ []) d.added e.added d.goes e.goes);
      holds = holds_after o now new c k w stops (Take c k ∷ []) e.added mem2 inside e.goes (λ m other. take_other now.caller c k m other) e.good d.holds;
      passed = λ m least high. ⊎_elim
          (λ (here : m ≡ k). subst (λ (n : ℕ). Passed Forgotten (belled o) old.caller c old.seen new.seen n (λ y. Unit {0})) (sym here) this)
          (λ (away : m ≢ k). passed_more Forgotten (belled o) old.caller c m old.seen now.seen new.seen grows (d.passed m (omega (arith, least, away)) high))
          (cases_eq m k);
      rows = all_rows o old now new c k w first stops e.added d grows e.spends;
      walked = walked_all o old now new c k w first stops e.added d grows e.spends caller;
      looks = more_looks o old now new c k w first stops e.added d grows e.spends;
      hops = more_hops o old now new c k w first stops e.added d grows e.spends;
      behind = λ m least high. ⊎_elim
          (λ (here : m ≡ k).
          subst (λ (n : ℕ). IsBehind o old.seen new.seen n (slice_index (slice_set stops k w) n)) (sym here)
          (subst (λ (v : ℕ). IsBehind o old.seen new.seen k v) (sym (get_or-set_same stops k w 0 inside)) (behind_end o now new c k (slice_index stops k) w old.seen e)))
          (λ (away : m ≢ k). behind_more o old now new c k w first stops e.added d grows e.spends legal m (omega (arith, least, away)) high)
          (cases_eq m k);
      others = λ m less. others_more o old now new c k w first stops e.added d grows e.spends m less;
    }

-- The call

-- a cursor is true where each stop is good, and where its list was walked last
module _ (o : Queue) (old now new : Sight) (c l w : ℕ) (k : Cursor) (stops : List ℕ) (mem : Mem c old.consumers) (inside : l < length stops) (d : Done o old now c (suc l) k.stops stops) where
  mine : Mem c now.consumers
  mine = goes_mem o old now (takes_down c (suc l) (o.lists - suc l)) d.added c d.goes mem

  same_caller : now.caller ≡ old.caller
  same_caller = goes_caller o old now (takes_down c (suc l) (o.lists - suc l)) d.added d.goes

  -- the acts of the call
  acts_got : (r : ℕ) → takes_down c (suc l) (o.lists - suc l) ++ Take c l ∷ Acq r ∷ [] ≡ takes_down c l (o.lists - l) ++ Acq r ∷ []
  acts_got r = sym (append_assoc (takes_down c (suc l) (o.lists - suc l)) (Take c l ∷ []) (Acq r ∷ [])) ∙ ap (λ (xs : List Act). xs ++ Acq r ∷ []) (takes_to c l o.lists d.low)

  all_goes : (r : ℕ) (load : Load) → (e : WalkGot o now new c l (slice_index stops l) w r load) → Goes o old new (takes_down c l (o.lists - l) ++ Acq r ∷ []) (d.added ++ e.added)
  all_goes r load e =
      subst (λ (xs : List Act). Goes o old new xs (d.added ++ e.added)) (acts_got r)
      (goes_trans o old now new (takes_down c (suc l) (o.lists - suc l)) (Take c l ∷ Acq r ∷ []) d.added e.added d.goes e.goes)

  got_next : (r : ℕ) (load : Load) → (e : WalkGot o now new c l (slice_index stops l) w r load) → NextGot (Showed (d.added ++ e.added)) (belled o) old.caller old.seen new.seen c r l load
  got_next r load e =
      let gets : Gets o old.caller old.seen new.seen r l load (λ x. is_free c x ≡ true) = record {
        moment = e.gets.moment;
        before = record {
          later = prefix_trans old.seen now.seen e.gets.moment d.goes.steps.grows e.gets.before.later;
          early = subst (λ (h : ℕ). IsPrefix (e.gets.moment ++ deed h (Acq r) ∷ []) new.seen) same_caller e.gets.before.early;
        };
        hands = e.gets.hands;
        list = e.gets.list;
        fits = e.gets.fits;
      } in
      let row = e.gets.hands.row in
      let this : Passed Forgotten (belled o) old.caller c old.seen new.seen l (λ y. Precedes ByList (after o new.seen) y row) =
      passed_wider Forgotten (belled o) old.caller c l old.seen now.seen new.seen (λ y. Precedes ByList (after o new.seen) y row) d.goes.steps.grows
      (subst (λ (h : ℕ). Passed Forgotten (belled o) h c now.seen new.seen l (λ y. Precedes ByList (after o new.seen) y row)) same_caller e.passed)
      in
      record {
        gets = gets;
        passed = λ m low high. ⊎_elim
            (λ (here : m ≡ l). subst (λ (n : ℕ). Passed Forgotten (belled o) old.caller c old.seen new.seen n (λ y. Precedes ByList (after o new.seen) y row)) (sym here) this)
            (λ (away : m ≢ l).
            passed_some Forgotten (belled o) old.caller c m old.seen new.seen row
            (passed_more Forgotten (belled o) old.caller c m old.seen now.seen new.seen e.goes.steps.grows (d.passed m (omega (arith, low, away)) high)))
            (cases_eq m l);
      }

  -- the cursor stays true
  got_true : (r : ℕ) (load : Load) → WalkGot o now new c l (slice_index stops l) w r load → TrueOf o c (slice_set stops l w) new.seen
  got_true r load e =
      now_true o c (slice_set stops l w) new.seen
      (holds_after o now new c l w stops (Take c l ∷ Acq r ∷ []) e.added mine inside e.goes (λ m other. take_other now.caller c l m other) e.good d.holds)

-- what a call of next answers, on a queue whose calls take bells

abbrev ringing_lists : ℕ → Build
ringing_lists rows = record { kind = Listed; bells = true; rows = rows }

called_got : (rows c l r : ℕ) (load : Load) (old new : Sight) (added : List Tried) → Goes old.opening old new (takes_down c l (old.opening.lists - l) ++ Acq r ∷ []) added → NextGot (Showed added) (belled old.opening) old.caller old.seen new.seen c r l load → Called (ringing_lists rows) old new (CallNext c) (IsGot r l load)
called_got rows c l r load old new added s n = called_by (ringing_lists rows) old new (CallNext c) (IsGot r l load) added refl s.steps n tt s.rights.allowance s.rights.share

called_empty : (rows c : ℕ) (old new : Sight) (added : List Tried) → Goes old.opening old new (takes_down c 0 (old.opening.lists - 0)) added → NextEmpty (Showed added) (belled old.opening) old.caller old.seen new.seen c → Called (ringing_lists rows) old new (CallNext c) IsEmpty
called_empty rows c old new added s n = called_by (ringing_lists rows) old new (CallNext c) IsEmpty added refl s.steps n tt s.rights.allowance s.rights.share

-- Turns of the loop

pub loop_end : (o : Queue) (old now new : Sight) (c l w : ℕ) (first stops : List ℕ) → Mem c old.consumers → l ≤ length stops → 0 < l → Done o old now c l first stops → WalkEnd o now new c (l - 1) (slice_index stops (l - 1)) w → Done o old new c (l - 1) first (slice_set stops (l - 1) w)
loop_end o old now new c l w first stops mem long some d e =
    done_end o old now new c (l - 1) w first stops mem (omega (arith, long, some)) (subst (λ (n : ℕ). Done o old now c n first stops) (sym (from_pred l some)) d) e

-- a row was got: the call, the cursor and what was walked
module _ (rows : ℕ) (old now new : Sight) (l w r : ℕ) (k : Cursor) (stops : List ℕ) (load : Load) (mem : Mem k.consumer old.consumers) (long : l ≤ length stops) (some : 0 < l) (d : Done old.opening old now k.consumer l k.stops stops)
    (e : WalkGot old.opening now new k.consumer (l - 1) (slice_index stops (l - 1)) w r load) where
  abbrev o : Queue
  o = old.opening

  abbrev c : ℕ
  c = k.consumer

  below : l - 1 < length stops
  below = omega (arith, long, some)

  before : Done o old now c (suc (l - 1)) k.stops stops
  before = subst (λ (n : ℕ). Done o old now c n k.stops stops) (sym (from_pred l some)) d

  pub loop_called : (list : ℕ) × Called (ringing_lists rows) old new (CallNext c) (IsGot r list load)
  loop_called = (l - 1, called_got rows c (l - 1) r load old new (before.added ++ e.added) (all_goes o old now new c (l - 1) w k stops mem below before r load e) (got_next o old now new c (l - 1) w k stops mem below before r load e))

  pub loop_true : TrueOf o c (slice_set stops (l - 1) w) new.seen
  loop_true = got_true o old now new c (l - 1) w k stops mem below before r load e

  goes_got : Goes o old new (takes_down c (l - 1) (o.lists - (l - 1)) ++ Acq r ∷ []) (before.added ++ e.added)
  goes_got = all_goes o old now new c (l - 1) w k stops mem below before r load e

  caller : now.caller ≡ old.caller
  caller = same_caller o old now new c (l - 1) w k stops mem below before

  pub loop_walked : (k' : Cursor) → k'.stops ≡ slice_set stops (l - 1) w → WalkedTo old new k k' r
  loop_walked k' is =
      let grows = e.goes.steps.grows in
      let legal = goes_legal o old new (takes_down c (l - 1) (o.lists - (l - 1)) ++ Acq r ∷ []) (before.added ++ e.added) goes_got in
      let at : slice_index (slice_set stops (l - 1) w) (l - 1) ≡ suc r = get_or-set_same stops (l - 1) w 0 below ∙ e.stands in
      let one = e.some in
      let there : IsOfList (after o new.seen) (l - 1) r = subst (λ (n : ℕ). IsStop (after o new.seen) (l - 1) n) e.stands e.good.stop in
      record {
        list = l - 1;
        there = subst (λ (q : Queue). IsOfList (after q new.seen) (l - 1) r) (sym (ap (λ (v : Sight). v.opening) goes_got.steps.rest)) there;
        stands = subst (λ (z : List ℕ). slice_index z (l - 1) ≡ suc r) (sym is) at;
        bounded = record {
          added = before.added ++ e.added;
          shown = ap (λ (v : Sight). v.shown) goes_got.steps.rest;
          rows = all_rows o old now new c (l - 1) w k.stops stops e.added before grows e.spends;
          walked = walked_all o old now new c (l - 1) w k.stops stops e.added before grows e.spends caller;
          looks = more_looks o old now new c (l - 1) w k.stops stops e.added before grows e.spends;
          hops = more_hops o old now new c (l - 1) w k.stops stops e.added before grows e.spends;
        };
        some = omega (arith, one, looks-append before.added e.added);
        behind = λ m low high.
            subst (λ (z : List ℕ). IsBehind o old.seen new.seen m (slice_index z m)) (sym is)
            (behind_more o old now new c (l - 1) w k.stops stops e.added before grows e.spends legal m (omega (arith, low)) high);
        others = λ m low.
            subst (λ (z : List ℕ). slice_index z m ≡ slice_index k.stops m) (sym is) (others_more o old now new c (l - 1) w k.stops stops e.added before grows e.spends m low);
      }

-- none was got
module _ (rows : ℕ) (old new : Sight) (l : ℕ) (k : Cursor) (stops : List ℕ) (none : l ≤ 0) (d : Done old.opening old new k.consumer l k.stops stops) where
  all : Done old.opening old new k.consumer 0 k.stops stops
  all = let e : l ≡ 0 = omega (arith, none) in subst (λ (n : ℕ). Done old.opening old new k.consumer n k.stops stops) e d

  pub end_called : (list : ℕ) × Called (ringing_lists rows) old new (CallNext k.consumer) IsEmpty
  end_called = (0, called_empty rows k.consumer old new all.added all.goes (λ m high. all.passed m (omega arith) high))

  pub end_true : TrueOf old.opening k.consumer stops new.seen
  end_true = now_true old.opening k.consumer stops new.seen all.holds

  pub end_walked : (k' : Cursor) → k'.stops ≡ stops → WalkedOut old new k k'
  end_walked k' is = record {
    bounded = record { added = all.added; shown = ap (λ (v : Sight). v.shown) all.goes.steps.rest; rows = all.rows; walked = all.walked; looks = all.looks; hops = all.hops };
    behind = λ m high. subst (λ (z : List ℕ). IsBehind old.opening old.seen new.seen m (slice_index z m)) (sym is) (all.behind m (omega arith) high);
  }
