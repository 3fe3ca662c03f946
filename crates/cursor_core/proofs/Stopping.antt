-- a walk along one list, from row to row
use Rattle.std.proofs.Common.{◌≡◌, ℕ, suc, ◌+◌, ◌-◌, ◌≤◌, ◌<◌, Option, Some, None, List, [], ◌∷◌, ◌++◌, length, refl, sym, ap, ◌∙◌, subst, append-nil, arith}
use mathlib.Core.List.{IsPrefix, Mem}
use Rattle.queue_model.specs.declared.deeds.Act.{Act}
use Rattle.queue_model.specs.declared.deeds.Act.TheVariants.{Acq, Take}
use Rattle.queue_model.specs.declared.deeds.Deed.{Deed}
use Rattle.queue_model.specs.declared.queues.Queue.{Queue}
use Rattle.queue_model.specs.declared.rows.Row.{Row}
use Rattle.queue_model.specs.declared.rows.RowState.{RowState}
use Rattle.queue_model.specs.declared.rows.RowState.TheVariants.{Locked, Deleted}
use Rattle.queue_model.specs.declared.steps.Tried.{Tried}
use Rattle.queue_model.specs.History.{after, deed, deeds_of}
use Rattle.queue_model.specs.State.{row_at, rows_of, place_at}
use Rattle.queue_model.specs.Table.{in_state}
use Rattle.queue_model.proofs.Histories.{after-append}
use Rattle.queue_model.proofs.Orders.{place_same}
use Rattle.queue_model.proofs.Prefixes.{prefix_self, prefix_more, prefix_trans}
use Rattle.queue_model.proofs.RowFacts.{row_here, row_number}
use Rattle.acts_core.specs.Load.{Load}
use Rattle.acts_core.specs.Moments.{JustBefore}
use Rattle.acts_core.specs.Owed.{IsBusy, is_free, taken_any}
use Rattle.acts_core.specs.Sight.{Sight, Forgotten}
use Rattle.acts_core.specs.Walks.{reach, IsStop, IsOfList, AreDeleted}
use Rattle.acts_core.proofs.Coming.{left}
use Rattle.cursor_core.specs.Goes.{Goes, RunsTo, RunsOut, Runs, Takes, Leaves, TriesRow}
use Rattle.cursor_core.specs.Truths.{IsWithin}
use Rattle.cursor_core.specs.Walked.{Walked, Answers}
use Rattle.cursor_core.specs.Walking.{belled, start_of, Spent, Spends, Walking, Facing, WalkGot, WalkEnd, Faces}
use Rattle.cursor_core.proofs.Going.{goes_trans, goes_caller, goes_mem, walked_on, stop_on, reach_on, reach_both, begins_on}
use Rattle.scavenge_core.proofs.Logs.{looks-append, hops-append}
use Rattle.scavenge_core.proofs.Stepping.{row_within, stop_within}
use Rattle.cursor_core.proofs.Passing.{passed_got, passed_busy}
use Rattle.cursor_core.proofs.Within.{walk_on, walk_good, walk_answers}

-- a list begins where its bell is taken, at some moment of the call
begins_early : (o : Queue) (s0 s1 : List Deed) (h c l : ℕ) (begin : List Deed) → JustBefore s0 s1 (deed h (Take c l)) begin → IsPrefix begin s1
begins_early o s0 s1 h c l begin j = prefix_trans begin (begin ++ deed h (Take c l) ∷ []) s1 (prefix_more begin (deed h (Take c l) ∷ [])) j.early

-- what a walk answers for at its end
answers_for : (o : Queue) (c l n : ℕ) (begin seen : List Deed) → IsPrefix begin seen → Walked o c l n begin seen → Answers o c l n begin seen
answers_for o c l n begin seen p w =
    subst (λ (ds : List Deed). Answers o c l n begin ds) p.1 (walk_answers o c l n begin p.0 (subst (λ (ds : List Deed). Walked o c l n begin ds) (sym p.1) w))

-- the row at a place, and no other, is busy
one_busy : (q : Queue) (c l r e : ℕ) → IsOfList q l r → IsBusy q c r → IsWithin q l (suc (place_at q r)) e → place_at q r ≤ place_at q e → IsBusy q c e
one_busy q c l r e there busy w high =
    let low = w.below in
    let same = place_same q r e there.0 w.row there.1 w.found (there.2 ∙ sym w.list) (omega (arith, high, low)) in
    let number : r ≡ e = sym (row_number q r there.0 there.1) ∙ ap (λ (x : Row). x.number) same ∙ row_number q e w.row w.found in
    subst (λ (k : ℕ). IsBusy q c k) number busy

-- rows that are deleted are busy
gone_busy : (q : Queue) (c l n m e : ℕ) → AreDeleted q l n m → IsWithin q l m e → n ≤ place_at q e → IsBusy q c e
gone_busy q c l n m e gone w high =
    let dead : w.row.state ≡ Deleted = gone e w.row w.found w.list high w.below in
    (w.row, w.found, ap (λ (s : RowState). is_free c (record w.row { state = s })) dead)

-- Trying a row

-- a row that is busy at the end was passed
tried_on : (o : Queue) (old now new : Sight) (xs : List Act) (us : List Tried) (c l u r : ℕ) (f : Facing o old now c l u r) → Mem c old.consumers → Goes o now new xs us → taken_any c (deeds_of now.caller xs) ≡ [] → IsBusy (after o new.seen) c r → Walked o c l (suc (place_at (after o new.seen) r)) f.begin new.seen
tried_on o old now new xs us c l u r f mem s none busy =
    let grows = s.steps.grows in
    let mem2 = goes_mem o old now (Take c l ∷ []) f.added c f.goes mem in
    let stop = stop_on o now.seen new.seen l (suc r) grows f.stop in
    let place : suc (place_at (after o new.seen) r) ≡ suc (place_at (after o now.seen) r) = reach_on o now.seen new.seen l (suc r) grows f.stop in
    let early = begins_early o old.seen new.seen old.caller c l f.begin (begins_on old.seen now.seen new.seen (deed old.caller (Take c l)) f.begin grows f.begins) in
    walk_on o c l (place_at (after o now.seen) r) (suc (place_at (after o new.seen) r)) f.begin new.seen early (suc r, stop, omega arith)
    (λ e w high. one_busy (after o new.seen) c l r e stop busy w (omega (arith, place, high)))
    (walked_on o now new xs us c l (place_at (after o now.seen) r) f.begin mem2 s none f.walked)

face_busy : (o : Queue) (old now new : Sight) (c l u r : ℕ) → Mem c old.consumers → Facing o old now c l u r → Leaves o now new c r → Walking o old new c l u (suc r)
face_busy o old now new c l u r mem f t =
    let s = t.goes in
    let grows = s.steps.grows in
    let place : suc (place_at (after o new.seen) r) ≡ suc (place_at (after o now.seen) r) = reach_on o now.seen new.seen l (suc r) grows f.stop in
    let low = f.spent.low in let few = f.one in let few_hops = f.spent.hops in let one = t.looks in let none = t.hops in
    record {
      added = f.added ++ t.added;
      goes = goes_trans o old now new (Take c l ∷ []) [] f.added t.added f.goes s;
      begin = f.begin;
      begins = begins_on old.seen now.seen new.seen (deed old.caller (Take c l)) f.begin grows f.begins;
      stop = stop_on o now.seen new.seen l (suc r) grows f.stop;
      walked = tried_on o old now new [] t.added c l u r f mem s refl t.busy;
      start = f.start;
      from = f.from;
      spent = record { low = omega (arith, low, place); looks = omega (arith, few, one, place, looks-append f.added t.added); hops = omega (arith, few_hops, none, place, hops-append f.added t.added) };
    }

-- what a walk cost, up to some place of the list
spends_by : (o : Queue) (old new : Sight) (c l u n start : ℕ) (added : List Tried) (begin : List Deed) → JustBefore old.seen new.seen (deed old.caller (Take c l)) begin → start_of (after o begin) c l u ≤ start → n ≤ length (rows_of (after o new.seen) l) → Spent added start n 2 → Spends o old new c l u added
spends_by o old new c l u n start added begin begins from within s =
    let low = s.low in let few = s.looks in let few_hops = s.hops in
    record { begin = begin; begins = begins; looks = omega (arith, from, within, low, few); hops = omega (arith, from, within, low, few_hops) }

-- a row that was acquired is the answer
face_got : (o : Queue) (old now new : Sight) (c l u r : ℕ) (load : Load) → Mem c old.consumers → Facing o old now c l u r → Takes o now new c r load → WalkGot o old new c l u (suc r) r load
face_got o old now new c l u r load mem f a =
    let s = a.goes in
    let grows = s.steps.grows in
    let caller = goes_caller o old now (Take c l ∷ []) f.added f.goes in
    let stop = stop_on o now.seen new.seen l (suc r) grows f.stop in
    let place : suc (place_at (after o new.seen) r) ≡ suc (place_at (after o now.seen) r) = reach_on o now.seen new.seen l (suc r) grows f.stop in
    let begins = begins_on old.seen now.seen new.seen (deed old.caller (Take c l)) f.begin grows f.begins in
    let early = begins_early o old.seen new.seen old.caller c l f.begin begins in
    let did : a.moment ++ deed old.caller (Acq r) ∷ [] ≡ new.seen = subst (λ (h : ℕ). a.moment ++ deed h (Acq r) ∷ [] ≡ new.seen) caller a.did.whole in
    let held : row_at (after o new.seen) r ≡ Some (in_state (Locked old.caller) a.hands.row) =
    subst (λ (ds : List Deed). row_at (after o ds) r ≡ Some (in_state (Locked old.caller) a.hands.row)) did
    (ap (λ (q : Queue). row_at q r) (after-append o a.moment (deed old.caller (Acq r) ∷ []))
    ∙ row_here (after o a.moment) r (in_state (Locked old.caller)) a.hands.row a.hands.found (row_number (after o a.moment) r a.hands.row a.hands.found))
    in
    let busy : IsBusy (after o new.seen) c r = (in_state (Locked old.caller) a.hands.row, held, refl) in
    let walked = tried_on o old now new (Acq r ∷ []) a.added c l u r f mem s refl busy in
    let mem2 = goes_mem o old now (Take c l ∷ []) f.added c f.goes mem in
    let before = walked_on o now new (Acq r ∷ []) a.added c l (place_at (after o now.seen) r) f.begin mem2 s refl f.walked in
    let both : Some (in_state (Locked old.caller) a.hands.row) ≡ Some stop.0 = sym held ∙ stop.1 in
    let is : in_state (Locked old.caller) a.hands.row ≡ stop.0 = cc in
    let list : a.hands.row.slip.list ≡ l = ap (λ (x : Row). x.slip.list) is ∙ stop.2 in
    let same_number : a.hands.row.number ≡ r = row_number (after o a.moment) r a.hands.row a.hands.found in
    let lower : Walked o c l (place_at (after o new.seen) a.hands.row.number) f.begin new.seen =
    subst (λ (n : ℕ). Walked o c l n f.begin new.seen) (omega (arith, place, ap (λ (k : ℕ). place_at (after o new.seen) k) same_number)) before
    in
    let within = row_within (after o new.seen) l r stop in
    let low = f.spent.low in let few = f.one in let few_hops = f.spent.hops in let one = a.looks in let none = a.hops in
    let ls = looks-append f.added a.added in let hs = hops-append f.added a.added in
    record {
      added = f.added ++ a.added;
      goes = goes_trans o old now new (Take c l ∷ []) (Acq r ∷ []) f.added a.added f.goes s;
      stands = refl;
      good = walk_good o c l (suc r) f.begin new.seen stop walked;
      gets = record {
        moment = a.moment;
        before = record { later = prefix_trans old.seen now.seen a.moment f.goes.steps.grows a.did.later; early = ([], append-nil (a.moment ++ deed old.caller (Acq r) ∷ []) ∙ did) };
        hands = a.hands;
        list = list;
        fits = a.free;
      };
      passed =
          passed_got Forgotten (belled o) old.caller c l old.seen new.seen f.begin a.hands.row begins early list
          (answers_for o c l (place_at (after o new.seen) a.hands.row.number) f.begin new.seen early lower);
      spends =
          spends_by o old new c l u (suc (place_at (after o new.seen) r)) f.start (f.added ++ a.added) f.begin begins f.from (omega (arith, within))
          (record { low = omega (arith, low, place); looks = omega (arith, few, one, place, ls); hops = omega (arith, few_hops, none, place, hs) });
      some = omega (arith, one, ls);
    }

-- Going on

-- the next row
step_some : (o : Queue) (old now new : Sight) (c l u w r : ℕ) → Mem c old.consumers → Walking o old now c l u w → RunsTo o now new l w r → Facing o old new c l u r
step_some o old now new c l u w r mem k t =
    let s = t.goes in
    let grows = s.steps.grows in
    let mem2 = goes_mem o old now (Take c l ∷ []) k.added c k.goes mem in
    let begins = begins_on old.seen now.seen new.seen (deed old.caller (Take c l)) k.begin grows k.begins in
    let early = begins_early o old.seen new.seen old.caller c l k.begin begins in
    let before = walked_on o now new [] t.added c l (reach (after o now.seen) w) k.begin mem2 s refl k.walked in
    let same : reach (after o new.seen) w ≡ reach (after o now.seen) w = reach_on o now.seen new.seen l w grows k.stop in
    let low = k.spent.low in let few = k.spent.looks in let few_hops = k.spent.hops in
    let more = t.looks in let more_hops = t.hops in let behind = t.behind in
    let ls = looks-append k.added t.added in let hs = hops-append k.added t.added in
    record {
      added = k.added ++ t.added;
      goes = goes_trans o old now new (Take c l ∷ []) [] k.added t.added k.goes s;
      begin = k.begin;
      begins = begins;
      stop = t.there;
      walked =
          walk_on o c l (reach (after o now.seen) w) (place_at (after o new.seen) r) k.begin new.seen early (suc r, t.there, omega arith)
          (λ e v high. gone_busy (after o new.seen) c l (reach (after o new.seen) w) (place_at (after o new.seen) r) e t.gone v (omega (arith, same, high)))
          before;
      start = k.start;
      from = k.from;
      spent = record { low = omega (arith, low, same, behind); looks = omega (arith, few, more, same, ls); hops = omega (arith, few_hops, more_hops, same, behind, hs) };
      one = omega (arith, few, more, same, behind, ls);
    }

-- the end of the list
step_none : (o : Queue) (old now new : Sight) (c l u w : ℕ) → Mem c old.consumers → Walking o old now c l u w → RunsOut o now new l w → WalkEnd o old new c l u w
step_none o old now new c l u w mem k t =
    let s = t.goes in
    let grows = s.steps.grows in
    let mem2 = goes_mem o old now (Take c l ∷ []) k.added c k.goes mem in
    let begins = begins_on old.seen now.seen new.seen (deed old.caller (Take c l)) k.begin grows k.begins in
    let early = begins_early o old.seen new.seen old.caller c l k.begin begins in
    let before = walked_on o now new [] t.added c l (reach (after o now.seen) w) k.begin mem2 s refl k.walked in
    let stop = stop_on o now.seen new.seen l w grows k.stop in
    let same : reach (after o new.seen) w ≡ reach (after o now.seen) w = reach_on o now.seen new.seen l w grows k.stop in
    let walked : Walked o c l (reach (after o new.seen) w) k.begin new.seen = subst (λ (n : ℕ). Walked o c l n k.begin new.seen) (sym same) before in
    let within = stop_within (after o new.seen) l w stop in
    let low = k.spent.low in let few = k.spent.looks in let few_hops = k.spent.hops in
    let more = t.looks in let more_hops = t.hops in
    let ls = looks-append k.added t.added in let hs = hops-append k.added t.added in
    record {
      added = k.added ++ t.added;
      goes = goes_trans o old now new (Take c l ∷ []) [] k.added t.added k.goes s;
      good = walk_good o c l w k.begin new.seen stop walked;
      passed =
          passed_busy Forgotten (belled o) old.caller c l (reach (after o new.seen) w) old.seen new.seen k.begin new.seen begins early (prefix_self new.seen)
          (λ e x found list high. (x, found, ap (λ (z : RowState). is_free c (record x { state = z })) (t.gone (suc (place_at (after o new.seen) e)) e x found list high (omega arith))))
          (answers_for o c l (reach (after o new.seen) w) k.begin new.seen early walked);
      spends =
          spends_by o old new c l u (length (rows_of (after o new.seen) l)) k.start (k.added ++ t.added) k.begin begins k.from (omega arith)
          (record { low = omega (arith, low, same, within); looks = omega (arith, few, more, same, ls); hops = omega (arith, few_hops, more_hops, same, hs, within) });
      gone = t.gone;
    }

-- the first row to try, or the end
pub runs_on : (o : Queue) (old now new : Sight) (c l u w : ℕ) (result : Option ℕ) → Mem c old.consumers → Walking o old now c l u w → Runs o now new l w result → Faces o old new c l u w result
runs_on o old now new c l u w None mem k s = step_none o old now new c l u w mem k s
runs_on o old now new c l u w (Some r) mem k s = step_some o old now new c l u w r mem k s

-- The loop

facing : (o : Queue) (old now : Sight) (c l u w r : ℕ) (next : Option ℕ) → Faces o old now c l u w next → next ≡ Some r → Facing o old now c l u r
facing o old now c l u w r next f is = subst (λ (z : Option ℕ). Faces o old now c l u w z) is f

-- the row to try is of the list
pub faced_row : (o : Queue) (old now : Sight) (c l u w r : ℕ) (next : Option ℕ) → Faces o old now c l u w next → next ≡ Some r → IsOfList (after o now.seen) l r
faced_row o old now c l u w r next f is = (facing o old now c l u w r next f is).stop

pub loop_got : (o : Queue) (old now new : Sight) (c l u w r : ℕ) (load : Load) (next : Option ℕ) → Mem c old.consumers → Faces o old now c l u w next → next ≡ Some r → TriesRow o now new c r (Some load) → WalkGot o old new c l u (r + 1) r load
loop_got o old now new c l u w r load next mem f is tries =
    subst (λ (k : ℕ). WalkGot o old new c l u k r load) (omega arith) (face_got o old now new c l u r load mem (facing o old now c l u w r next f is) tries)

loop_walking : (o : Queue) (old now new : Sight) (c l u w r : ℕ) (next : Option ℕ) → Mem c old.consumers → Faces o old now c l u w next → next ≡ Some r → TriesRow o now new c r None → Walking o old new c l u (r + 1)
loop_walking o old now new c l u w r next mem f is tries =
    subst (λ (k : ℕ). Walking o old new c l u k) (omega arith) (face_busy o old now new c l u r mem (facing o old now c l u w r next f is) tries)

pub loop_stop : (o : Queue) (old now new : Sight) (c l u w r : ℕ) (next : Option ℕ) → Mem c old.consumers → Faces o old now c l u w next → next ≡ Some r → TriesRow o now new c r None → IsStop (after o new.seen) l (r + 1)
loop_stop o old now new c l u w r next mem f is tries = (loop_walking o old now new c l u w r next mem f is tries).stop

pub loop_faces : (o : Queue) (old now new last : Sight) (c l u w r : ℕ) (next result : Option ℕ) → Mem c old.consumers → Faces o old now c l u w next → next ≡ Some r → TriesRow o now new c r None → Runs o new last l (r + 1) result → Faces o old last c l u (r + 1) result
loop_faces o old now new last c l u w r next result mem f is tries steps =
    runs_on o old new last c l u (r + 1) result mem (loop_walking o old now new c l u w r next mem f is tries) steps

-- fewer places are left
smaller_by : (o : Queue) (rows : ℕ) (now new last : Sight) (l r : ℕ) (result : Option ℕ) → IsStop (after o now.seen) l (suc r) → IsPrefix now.seen new.seen → Runs o new last l (suc r) result → place_at (after o now.seen) r < rows → left rows (after o last.seen) result < suc (rows - place_at (after o now.seen) r)
smaller_by o rows now new last l r None stop g steps low = omega arith
smaller_by o rows now new last l r (Some s) stop g steps low =
    let same : suc (place_at (after o now.seen) r) ≡ suc (place_at (after o last.seen) r) =
    reach_both o (suc r) l now.seen now.seen last.seen (prefix_self now.seen) (prefix_trans now.seen new.seen last.seen g steps.goes.steps.grows) stop
    in
    let behind = steps.behind in
    omega (arith, same, behind, low)

pub loop_smaller : (o : Queue) (rows : ℕ) (old now new last : Sight) (c l u w r : ℕ) (next result : Option ℕ) → Faces o old now c l u w next → next ≡ Some r → TriesRow o now new c r None → Runs o new last l (r + 1) result → place_at (after o now.seen) r < rows → left rows (after o last.seen) result < left rows (after o now.seen) next
loop_smaller o rows old now new last c l u w r next result f is tries steps low =
    let k = facing o old now c l u w r next f is in
    let plus : r + 1 ≡ suc r = omega arith in
    subst (λ (z : Option ℕ). left rows (after o last.seen) result < left rows (after o now.seen) z) (sym is)
    (smaller_by o rows now new last l r result k.stop tries.goes.steps.grows (subst (λ (n : ℕ). Runs o new last l n result) plus steps) low)
