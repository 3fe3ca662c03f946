-- cursors that are true
use Rattle.std.proofs.Common.{◌≡◌, inl, ℕ, zero, suc, ◌≤◌, Some, List, [], ◌∷◌, ◌++◌, slice_index, refl, sym, ap, ◌∙◌, subst, ⊎_elim, append-nil, arith}
use Rattle.std.proofs.lemmas.List.Elements.{filter-append}
use Rattle.std.specs.List.{AllByRecursion}
use mathlib.Core.List.{IsPrefix, Mem, append_cancel_left}
use Rattle.acts_core.specs.Calls.{Call, Answer, acts_of}
use Rattle.acts_core.specs.Meaning.{MeetsSight}
use Rattle.acts_core.specs.Sight.{Plan, Sight}
use Rattle.queue_model.specs.declared.deeds.Act.TheVariants.{Take}
use Rattle.queue_model.specs.declared.deeds.Deed.{Deed}
use Rattle.queue_model.specs.declared.queues.Queue.{Queue}
use Rattle.queue_model.specs.declared.queues.Bell as ring
use Rattle.queue_model.specs.History.{after, Legal, deed, deeds_of}
use Rattle.queue_model.specs.State.{row_at, list_at, bell_at}
use Rattle.queue_model.proofs.SoundSteps.{list_found}
use Rattle.queue_model.proofs.Histories.{after-append}
use Rattle.queue_model.proofs.Prefixes.{prefix_more, prefix_trans}
use Rattle.acts_core.specs.Owed.{Has, mark, Looked, takes_any, taken_any}
use Rattle.acts_core.specs.Walks.{reach}
use Rattle.cursor_core.specs.Truths.{IsWithin, Rings, Good, TrueOf, TrueNow}
use Rattle.cursor_core.specs.Walked.{Walked}
use Rattle.cursor_core.proofs.Marks.{mark_miss, looked_more, untaken_less}
use Rattle.cursor_core.proofs.Within.{good_more, bound_more, within_back}

-- the takes that a longer history has beyond a front of it
rest_untaken : (c : ℕ) (ds es : List Deed) → taken_any c (ds ++ es) ≡ taken_any c ds → taken_any c es ≡ []
rest_untaken c ds es same =
    append_cancel_left (taken_any c ds) (taken_any c es) []
    (sym (filter-append (λ (d : Deed). takes_any c d.act) ds es) ∙ same ∙ sym (append-nil (taken_any c ds)))

-- a cursor that is true is true of all that was seen
pub true_now : (o : Queue) (c : ℕ) (stops : List ℕ) (seen : List Deed) → Legal o seen → TrueOf o c stops seen → TrueNow o c stops seen
true_now o c stops seen legal t l low =
    let rest = t.prefix.0 in
    let none : taken_any c rest ≡ [] = rest_untaken c t.from rest (ap (taken_any c) t.prefix.1 ∙ t.untaken) in
    subst (Good o c l (slice_index stops l)) t.prefix.1
    (good_more o c l (slice_index stops l) t.from rest (subst (Legal o) (sym t.prefix.1) legal) (untaken_less c l rest none) (t.good l low))

-- and the other way
pub now_true : (o : Queue) (c : ℕ) (stops : List ℕ) (seen : List Deed) → TrueNow o c stops seen → TrueOf o c stops seen
now_true o c stops seen t = record { from = seen; prefix = ([], append-nil seen); untaken = refl; good = t }

-- a cursor outlasts all that takes no bell of its consumer
pub true_more : (o : Queue) (c : ℕ) (stops : List ℕ) (ds es : List Deed) → IsPrefix ds es → taken_any c es ≡ taken_any c ds → TrueOf o c stops ds → TrueOf o c stops es
true_more o c stops ds es p same t = record { from = t.from; prefix = prefix_trans t.from ds es t.prefix p; untaken = same ∙ t.untaken; good = t.good }

-- a stop at the head is good
pub good_head : (o : Queue) (c l : ℕ) (seen : List Deed) → Good o c l 0 seen
good_head o c l seen = record { stop = tt; looked = λ e w. absurd (omega (arith, w.below)) }

-- a cursor that stands before the first row of each list is true
pub true_fresh : (o : Queue) (c : ℕ) (stops : List ℕ) (seen : List Deed) → ((l : ℕ) → slice_index stops l ≡ 0) → TrueOf o c stops seen
true_fresh o c stops seen heads = now_true o c stops seen (λ l low. subst (λ (w : ℕ). Good o c l w seen) (sym (heads l)) (good_head o c l seen))

-- an index into heads is a head
heads_at : (stops : List ℕ) (l : ℕ) → AllByRecursion (λ w. w ≡ 0) stops → slice_index stops l ≡ 0
heads_at [] l heads = refl
heads_at (w ∷ stops) zero heads = heads.0
heads_at (w ∷ stops) (suc l) heads = heads_at stops l heads.1

pub true_heads : (o : Queue) (c : ℕ) (stops : List ℕ) (seen : List Deed) → AllByRecursion (λ w. w ≡ 0) stops → TrueOf o c stops seen
true_heads o c stops seen heads = true_fresh o c stops seen (λ l. heads_at stops l heads)

-- A bell was taken. The places up to a good stop are done, but for those from the bell's row on, if it was rung.
pub walk_taken : (o : Queue) (h c l w n : ℕ) (ds : List Deed) → Good o c l w ds → n ≤ reach (after o ds) w
    → ((b : ring.Bell) → bell_at (after o ds) c l ≡ Some b → n ≤ b.place) → Walked o c l n ds (ds ++ deed h (Take c l) ∷ [])
walk_taken o h c l w n ds good low bell =
    let es = deed h (Take c l) ∷ [] in
    let looked : (e : ℕ) → IsWithin (after o (ds ++ es)) l n e → Looked o c e (mark c e ds) (ds ++ es) =
    λ e v.
    let has : Has (after o ds) e = (v.row, ap (λ (q : Queue). row_at q e) (sym (after-append o ds es)) ∙ v.found) in
    let u : IsWithin (after o ds) l n e = within_back o l n e ds es has v in
    ⊎_elim
    (λ (t : Looked o c e (mark c e ds) ds). looked_more o c e (mark c e ds) ds (ds ++ es) (prefix_more ds es) t)
    (λ (r : Rings (after o ds) c e).
    let list : list_at (after o ds) e ≡ l = list_found (after o ds) e u.row u.found ∙ u.list in
    let late = bell r.0 (ap (λ (m : ℕ). bell_at (after o ds) c m) (sym list) ∙ r.1) in
    absurd (omega (arith, late, r.2, u.below)))
    (good.looked e (record { row = u.row; found = u.found; list = u.list; below = omega (arith, u.below, low) }))
    in
    record {
      bound = bound_more o l n ds es (w, good.stop, low);
      owed = λ e v has. looked e v;
      good = λ e v. inl (subst (λ (k : ℕ). Looked o c e k (ds ++ es)) (sym (mark_miss c e ds (deed h (Take c l)) refl)) (looked e v));
    }

-- a cursor outlasts a call that takes no bell of its consumer
pub call_outlasts : (p : Plan) (old new : Sight) (call : Call) (answer : Answer) (c : ℕ) (stops : List ℕ) → MeetsSight p old new call answer → Mem c old.consumers → taken_any c (deeds_of old.caller (acts_of p call answer)) ≡ [] → TrueOf p.opening c stops old.seen → TrueOf p.opening c stops new.seen
call_outlasts p old new call answer c stops m mem none t =
    true_more p.opening c stops old.seen new.seen m.meets.grows (m.takes c mem ∙ ap (λ (l : List Deed). taken_any c old.seen ++ l) none ∙ append-nil (taken_any c old.seen)) t
