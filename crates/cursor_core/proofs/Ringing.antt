-- a bell that is taken, and where a walk begins then
use Rattle.std.proofs.Common.{◌≡◌, ℕ, zero, suc, ◌+◌, ◌-◌, ◌≤◌, ◌<◌, Bool, Option, Some, None, List, [], ◌∷◌, ◌++◌, refl, sym, ap, ◌∙◌, subst, append_assoc, append-nil, arith}
use Rattle.std.proofs.lemmas.List.Elements.{filter-append}
use Rattle.std.specs.Option.{option_map}
use mathlib.Core.List.{IsPrefix, Mem, append_cancel_left, append_cancel_right}
use Rattle.queue_model.specs.declared.deeds.Act.TheVariants.{Take}
use Rattle.queue_model.specs.declared.deeds.Deed.{Deed}
use Rattle.queue_model.specs.declared.queues.Bell as ring
use Rattle.queue_model.specs.declared.queues.Queue.{Queue}
use Rattle.queue_model.specs.declared.steps.Tried.{Tried}
use Rattle.queue_model.specs.History.{after, Legal, deed}
use Rattle.queue_model.specs.State.{place_at, bell_at}
use Rattle.queue_model.proofs.Histories.{legal_front}
use Rattle.queue_model.proofs.Prefixes.{prefix_self, prefix_trans}
use Rattle.acts_core.specs.Moments.{JustBefore}
use Rattle.acts_core.specs.Owed.{Has, takes_any, taken_any}
use Rattle.acts_core.specs.Sight.{Sight}
use Rattle.acts_core.specs.Walks.{reach, IsStop}
use Rattle.cursor_core.specs.Goes.{Goes, TookBell, KnowsPlace}
use Rattle.scavenge_core.specs.Shown.{looks, hops}
use Rattle.cursor_core.specs.Truths.{Good}
use Rattle.cursor_core.specs.Walked.{Walked}
use Rattle.cursor_core.specs.Walking.{earlier_place, Walking, Facing}
use Rattle.queue_model.proofs.BellRows.{bell_is_row}
use Rattle.cursor_core.proofs.Going.{goes_trans, goes_legal, goes_mem, walked_on, stop_on, reach_on, reach_both, begins_on}
use Rattle.scavenge_core.proofs.Logs.{looks-append, hops-append}
use Rattle.cursor_core.proofs.Marks.{untaken_less}
use Rattle.cursor_core.proofs.Truths.{walk_taken}
use Rattle.cursor_core.proofs.Within.{good_more}

-- no bell of the consumer was taken between
no_take_before : (o : Queue) (old now : Sight) (c l : ℕ) (row : Option ℕ) → Mem c old.consumers → (t : TookBell o old now c l row) → taken_any c t.did.later.0 ≡ []
no_take_before o old now c l row mem t =
    let d = deed old.caller (Take c l) in
    let rest = t.did.later.0 in
    let takes : Deed → Bool = λ e. takes_any c e.act in
    let whole : (old.seen ++ rest) ++ d ∷ [] ≡ now.seen = ap (λ (ds : List Deed). ds ++ d ∷ []) t.did.later.1 ∙ t.did.whole in
    let parts : taken_any c old.seen ++ (taken_any c rest ++ taken_any c (d ∷ [])) ≡ taken_any c old.seen ++ taken_any c (d ∷ []) =
    sym (append_assoc (taken_any c old.seen) (taken_any c rest) (taken_any c (d ∷ [])))
    ∙ ap (λ (ds : List Deed). ds ++ taken_any c (d ∷ [])) (sym (filter-append takes old.seen rest))
    ∙ sym (filter-append takes (old.seen ++ rest) (d ∷ []))
    ∙ ap (taken_any c) whole ∙ t.goes.steps.takes c mem
    in
    append_cancel_right (taken_any c rest) [] (taken_any c (d ∷ [])) (append_cancel_left (taken_any c old.seen) (taken_any c rest ++ taken_any c (d ∷ [])) (taken_any c (d ∷ [])) parts)

-- what is done where a bell is taken
bell_walked : (o : Queue) (old now : Sight) (c l w n : ℕ) (row : Option ℕ) → Mem c old.consumers → (t : TookBell o old now c l row) → Good o c l w old.seen
    → n ≤ reach (after o t.moment) w → ((b : ring.Bell) → bell_at (after o t.moment) c l ≡ Some b → n ≤ b.place) → Walked o c l n t.moment now.seen
bell_walked o old now c l w n row mem t good low late =
    let d = deed old.caller (Take c l) in
    let rest = t.did.later.0 in
    let legal : Legal o (t.moment ++ d ∷ []) = subst (Legal o) (sym t.did.whole) (goes_legal o old now (Take c l ∷ []) t.added t.goes) in
    let front : Legal o (old.seen ++ rest) = subst (Legal o) (sym t.did.later.1) (legal_front o t.moment (d ∷ []) legal) in
    let here : Good o c l w t.moment = subst (Good o c l w) t.did.later.1 (good_more o c l w old.seen rest front (untaken_less c l rest (no_take_before o old now c l row mem t)) good) in
    subst (λ (ds : List Deed). Walked o c l n t.moment ds) t.did.whole (walk_taken o old.caller c l w n t.moment here low late)

bell_just : (o : Queue) (old now : Sight) (c l : ℕ) (row : Option ℕ) → (t : TookBell o old now c l row) → JustBefore old.seen now.seen (deed old.caller (Take c l)) t.moment
bell_just o old now c l row t = record { later = t.did.later; early = ([], append-nil (t.moment ++ deed old.caller (Take c l) ∷ []) ∙ t.did.whole) }

-- the start is at or before the stop, and at or before the bell
first_low : (n : ℕ) (b : Option ring.Bell) → earlier_place (n - 1) b ≤ n
first_low n None = omega arith
first_low n (Some b) = omega arith

bell_low : (n : ℕ) (o : Option ring.Bell) (b : ring.Bell) → o ≡ Some b → earlier_place n o ≤ b.place
bell_low n o b e = subst (λ (x : Option ring.Bell). earlier_place n x ≤ b.place) (sym e) (omega arith)

-- a walk from a stop that the bell is not at or before
bell_walking : (o : Queue) (old now : Sight) (c l w : ℕ) (row : Option ℕ) → Mem c old.consumers → (t : TookBell o old now c l row) → Good o c l w old.seen
    → ((b : ring.Bell) → bell_at (after o t.moment) c l ≡ Some b → reach (after o t.moment) w ≤ b.place) → Walking o old now c l w w
bell_walking o old now c l w row mem t good late =
    let grows = t.goes.steps.grows in
    let same : reach (after o t.moment) w ≡ reach (after o now.seen) w = reach_both o w l old.seen t.moment now.seen t.did.later grows good.stop in
    let low = first_low (reach (after o t.moment) w) (bell_at (after o t.moment) c l) in
    let none = t.looks in let no_hops = t.hops in
    record {
      added = t.added;
      goes = t.goes;
      begin = t.moment;
      begins = bell_just o old now c l row t;
      stop = stop_on o old.seen now.seen l w grows good.stop;
      walked = subst (λ (n : ℕ). Walked o c l n t.moment now.seen) same (bell_walked o old now c l w (reach (after o t.moment) w) row mem t good (omega arith) late);
      start = reach (after o now.seen) w;
      from = omega (arith, low, same);
      spent = record { low = omega arith; looks = omega (arith, none); hops = omega (arith, no_hops) };
    }

-- and over further steps without acts
walking_on : (o : Queue) (old now new : Sight) (c l u w : ℕ) (us : List Tried) → Mem c old.consumers → Walking o old now c l u w → Goes o now new [] us → looks us ≡ 0 → hops us ≡ 0 → Walking o old new c l u w
walking_on o old now new c l u w us mem k s none no_hops =
    let grows = s.steps.grows in
    let same = reach_on o now.seen new.seen l w grows k.stop in
    let mem2 = goes_mem o old now (Take c l ∷ []) k.added c k.goes mem in
    let low = k.spent.low in let few = k.spent.looks in let few_hops = k.spent.hops in
    record {
      added = k.added ++ us;
      goes = goes_trans o old now new (Take c l ∷ []) [] k.added us k.goes s;
      begin = k.begin;
      begins = begins_on old.seen now.seen new.seen (deed old.caller (Take c l)) k.begin grows k.begins;
      stop = stop_on o now.seen new.seen l w grows k.stop;
      walked = subst (λ (n : ℕ). Walked o c l n k.begin new.seen) (sym same) (walked_on o now new [] us c l (reach (after o now.seen) w) k.begin mem2 s refl k.walked);
      start = k.start;
      from = k.from;
      spent = record { low = omega (arith, low, same); looks = omega (arith, few, none, same, looks-append k.added us); hops = omega (arith, few_hops, no_hops, same, hops-append k.added us) };
    }

-- no bell was rung
no_bell : (o : Option ring.Bell) → None ≡ option_map (λ (b : ring.Bell). b.row) o → o ≡ None
no_bell None e = refl
no_bell (Some b) e = absurd (cc)

pub rung_none : (o : Queue) (old now : Sight) (c l w : ℕ) → Mem c old.consumers → TookBell o old now c l None → Good o c l w old.seen → Walking o old now c l w w
rung_none o old now c l w mem t good =
    bell_walking o old now c l w None mem t good
    (λ b found. let bad : None ≡ Some b = sym (no_bell (bell_at (after o t.moment) c l) t.bell) ∙ found in absurd (cc))

-- a walk from the head
pub rung_head : (o : Queue) (old now : Sight) (c l w : ℕ) (row : Option ℕ) → Mem c old.consumers → TookBell o old now c l row → w ≡ 0 → Good o c l w old.seen → Walking o old now c l w w
rung_head o old now c l w row mem t head good =
    bell_walking o old now c l w row mem t good
    (λ b found. subst (λ (k : ℕ). reach (after o t.moment) k ≤ b.place) (sym head) (omega arith))

-- a bell that was rung
a_bell : (r : ℕ) (o : Option ring.Bell) → Some r ≡ option_map (λ (b : ring.Bell). b.row) o → (b : ring.Bell) × (o ≡ Some b) × (b.row ≡ r)
a_bell r None e = absurd (cc)
a_bell r (Some b) e = (b, refl, let same : r ≡ b.row = cc in sym same)

-- is of a row of the list, at its place
bell_row : (o : Queue) (old now : Sight) (c l r : ℕ) → o.bells ≡ [] → (t : TookBell o old now c l (Some r))
    → (b : ring.Bell) × (bell_at (after o t.moment) c l ≡ Some b) × IsStop (after o t.moment) l (suc r) × (b.place ≡ place_at (after o t.moment) r)
bell_row o old now c l r none t =
    let a = a_bell r (bell_at (after o t.moment) c l) t.bell in
    let legal : Legal o t.moment = legal_front o t.moment (deed old.caller (Take c l) ∷ []) (subst (Legal o) (sym t.did.whole) (goes_legal o old now (Take c l ∷ []) t.added t.goes)) in
    let k = bell_is_row o t.moment c l a.0 none legal a.1 in
    (a.0, a.1, subst (λ (n : ℕ). IsStop (after o t.moment) l (suc n)) a.2 (k.rung, k.found, k.list), k.place ∙ ap (λ (n : ℕ). place_at (after o t.moment) n) a.2)

-- the moment is a beginning of what was seen then
moment_early : (o : Queue) (old now : Sight) (c l : ℕ) (row : Option ℕ) (t : TookBell o old now c l row) → IsPrefix t.moment now.seen
moment_early o old now c l row t = (deed old.caller (Take c l) ∷ [], t.did.whole)

-- a stop that is no head is a row
pub stop_has : (q : Queue) (l w : ℕ) → 0 < w → IsStop q l w → Has q (w - 1)
stop_has q l zero some s = absurd (omega (arith, some))
stop_has q l (suc r) some s = subst (λ (n : ℕ). Has q n) (omega arith) (s.0, s.1)

-- how far a stop that is no head reaches
stop_reach : (q : Queue) (w : ℕ) → 0 < w → reach q w ≡ place_at q (w - 1) + 1
stop_reach q zero some = absurd (omega (arith, some))
stop_reach q (suc r) some = let e : suc r - 1 ≡ r = omega arith in omega (arith, ap (λ (n : ℕ). place_at q n) e)

-- A bell was rung for row r; the places of that row and of the stop were looked up.
module _ (o : Queue) (old a b d : Sight) (c l w r x y : ℕ) (none : o.bells ≡ []) (mem : Mem c old.consumers) (t : TookBell o old a c l (Some r)) (one : KnowsPlace o a b r x) (two : KnowsPlace o b d (w - 1) y) (some : 0 < w) (good : Good o c l w old.seen) where
  k : (e : ring.Bell) × (bell_at (after o t.moment) c l ≡ Some e) × IsStop (after o t.moment) l (suc r) × (e.place ≡ place_at (after o t.moment) r)
  k = bell_row o old a c l r none t

  to_d : IsPrefix t.moment d.seen
  to_d = prefix_trans t.moment b.seen d.seen (prefix_trans t.moment a.seen b.seen (moment_early o old a c l (Some r) t) one.goes.steps.grows) two.goes.steps.grows

  reached : reach (after o t.moment) w ≡ reach (after o d.seen) w
  reached = reach_both o w l old.seen t.moment d.seen t.did.later (prefix_trans old.seen a.seen d.seen t.goes.steps.grows (prefix_trans a.seen b.seen d.seen one.goes.steps.grows two.goes.steps.grows)) good.stop

  far : reach (after o d.seen) w ≡ place_at (after o d.seen) (w - 1) + 1
  far = stop_reach (after o d.seen) w some

  rung : suc (place_at (after o t.moment) r) ≡ suc (place_at (after o b.seen) r)
  rung = reach_both o (suc r) l t.moment t.moment b.seen (prefix_self t.moment) (prefix_trans t.moment a.seen b.seen (moment_early o old a c l (Some r) t) one.goes.steps.grows) k.2

  end : suc (place_at (after o t.moment) r) ≡ suc (place_at (after o d.seen) r)
  end = reach_both o (suc r) l t.moment t.moment d.seen (prefix_self t.moment) to_d k.2

  same_bell : (q : ring.Bell) → bell_at (after o t.moment) c l ≡ Some q → q.place ≡ place_at (after o t.moment) r
  same_bell q found =
      let both : Some k.0 ≡ Some q = sym k.1 ∙ found in
      let same : k.0 ≡ q = cc in
      ap (λ (e : ring.Bell). e.place) (sym same) ∙ k.3

  -- the row is behind the stop
  pub rung_later : y < x → Walking o old d c l w w
  rung_later late =
      let first = bell_walking o old a c l w (Some r) mem t good (λ q found. let place = same_bell q found in omega (arith, reached, far, rung, place, late, one.same, two.same)) in
      walking_on o old b d c l w w two.added mem (walking_on o old a b c l w w one.added mem first one.goes one.looks one.hops) two.goes two.looks two.hops

  -- or at the stop or before it
  pub rung_before : x ≤ y → Facing o old d c l w r
  rung_before low =
      let more = goes_trans o a b d [] [] one.added two.added one.goes two.goes in
      let mem2 = goes_mem o old a (Take c l ∷ []) t.added c t.goes mem in
      let first = bell_low (reach (after o t.moment) w - 1) (bell_at (after o t.moment) c l) k.0 k.1 in
      let place = k.3 in
      let l0 = t.looks in let l1 = one.looks in let l2 = two.looks in
      let h0 = t.hops in let h1 = one.hops in let h2 = two.hops in
      let ls = looks-append t.added (one.added ++ two.added) in let ls2 = looks-append one.added two.added in
      let hs = hops-append t.added (one.added ++ two.added) in let hs2 = hops-append one.added two.added in
      record {
        added = t.added ++ (one.added ++ two.added);
        goes = goes_trans o old a d (Take c l ∷ []) [] t.added (one.added ++ two.added) t.goes more;
        begin = t.moment;
        begins = begins_on old.seen a.seen d.seen (deed old.caller (Take c l)) t.moment more.steps.grows (bell_just o old a c l (Some r) t);
        stop = stop_on o t.moment d.seen l (suc r) to_d k.2;
        walked =
            subst (λ (n : ℕ). Walked o c l n t.moment d.seen) (omega (arith, end))
            (walked_on o a d [] (one.added ++ two.added) c l (place_at (after o t.moment) r) t.moment mem2 more refl
            (bell_walked o old a c l w (place_at (after o t.moment) r) (Some r) mem t good (omega (arith, reached, far, rung, low, one.same, two.same)) (λ q found. let at = same_bell q found in omega (arith, at))));
        start = place_at (after o d.seen) r;
        from = omega (arith, first, end, place);
        spent = record { low = omega arith; looks = omega (arith, l0, l1, l2, ls, ls2); hops = omega (arith, h0, h1, h2, hs, hs2) };
        one = omega (arith, l0, l1, l2, ls, ls2);
      }
