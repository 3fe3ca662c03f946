-- walks along the lists of a listed queue
use Rattle.std.proofs.Common.{◌≡◌, ◌≢◌, ℕ, zero, suc, ◌+◌, ◌≤◌, ◌<◌, Bool, true, false, Option, Some, None, List, [], ◌∷◌, ◌++◌, find, refl, sym, ap, ◌∙◌, subst, ⊎_elim, arith}
use Rattle.std.proofs.lemmas.Bool.{cases_eq, cases_lt}
use mathlib.Core.List.{IsPrefix}
use Rattle.queue_model.specs.declared.deeds.Act.{Act}
use Rattle.queue_model.specs.declared.deeds.Deed.{Deed}
use Rattle.queue_model.specs.declared.queues.Queue.{Queue}
use Rattle.queue_model.specs.declared.rows.Row.{Row}
use Rattle.queue_model.specs.declared.rows.RowState.{RowState}
use Rattle.queue_model.specs.declared.rows.RowState.TheVariants.{Deleted}
use Rattle.queue_model.specs.declared.rows.Slip.{Slip}
use Rattle.queue_model.specs.declared.steps.Tried.{Tried}
use Rattle.queue_model.specs.History.{after, Legal}
use Rattle.queue_model.specs.State.{row_at, place_at}
use Rattle.queue_model.proofs.Histories.{after-append}
use Rattle.queue_model.proofs.KeyedLemmas.{find-here, find-past, find_none-head, find_none-tail, find_none-cons, find-append}
use Rattle.queue_model.proofs.Orders.{place_same}
use Rattle.queue_model.proofs.Prefixes.{prefix_self, prefix_trans}
use Rattle.queue_model.proofs.RowFacts.{row_number}
use Rattle.queue_model.proofs.Stable.{row_stays, place_stays}
use Rattle.acts_core.specs.Lists.{Begins}
use Rattle.acts_core.specs.Moments.{Between, IsRow}
use Rattle.acts_core.specs.Owed.{is_available, is_free}
use Rattle.acts_core.specs.Sight.{Sight, Showed, on_head}
use Rattle.acts_core.specs.Steps.{Stepped, SameRights, NoHead, NoHeads}
use Rattle.acts_core.specs.Walks.{Ask, FreeTo, Ready, Named, Fails, FailedOnce, Failed, FailedBelow, reach, IsOfList, IsStop, AreDeleted, Follows, FollowsTo, Walking, Facing, Ended, Faces, Reached, Done, Stopped}
use Rattle.acts_core.proofs.Sparing.{after_rest}
use Rattle.acts_core.proofs.Stepping.{stepped_none, stepped_trans, rights_trans, rights_same, no_head-append}

-- Rows later

-- a row of list l is one later, at its place
pub list_later : (o : Queue) (ds es : List Deed) (l r : ℕ) → IsPrefix ds es → IsOfList (after o ds) l r → IsOfList (after o es) l r
list_later o ds es l r p y =
    let t = row_stays (after o ds) p.0 r y.0 y.1 in
    (t.0, subst (λ (q : Queue). row_at q r ≡ Some t.0) (after_rest o ds es p) t.1, ap (λ (s : Slip). s.list) t.2.slip ∙ y.2)

pub place_later : (o : Queue) (ds es : List Deed) (r : ℕ) (y : Row) → IsPrefix ds es → row_at (after o ds) r ≡ Some y → place_at (after o es) r ≡ place_at (after o ds) r
place_later o ds es r y p found = ap (λ (q : Queue). place_at q r) (sym (after_rest o ds es p)) ∙ place_stays (after o ds) p.0 r y found

-- Rows that failed

deleted_fails : (ask : Ask) (x : Row) → x.state ≡ Deleted → Fails ask x
deleted_fails (FreeTo c) x gone = ap (λ (s : RowState). is_free c (record x { state = s })) gone
deleted_fails Ready x gone = ap is_available gone
deleted_fails (Named id) x gone = λ same. gone

once_later : (o : Queue) (ask : Ask) (begin ds es : List Deed) (r : ℕ) → IsPrefix ds es → FailedOnce o ask begin ds r → FailedOnce o ask begin es r
once_later o ask begin ds es r p f = record { moment = f.moment; later = f.later; early = prefix_trans f.moment ds es f.early p; row = f.row; found = f.found; fails = f.fails }

below_none : (o : Queue) (ask : Ask) (l : ℕ) (begin seen : List Deed) → FailedBelow o ask l 0 begin seen
below_none o ask l begin seen = λ y is list low. absurd (omega (arith, low))

below_later : (o : Queue) (ask : Ask) (l n : ℕ) (begin ds es : List Deed) → IsPrefix ds es → FailedBelow o ask l n begin ds → FailedBelow o ask l n begin es
below_later o ask l n begin ds es p f = λ y is list low. once_later o ask begin ds es y.number p (f y is list low)

-- further places whose rows fail now
below_on : (o : Queue) (ask : Ask) (l n m : ℕ) (begin seen : List Deed) → IsPrefix begin seen → ((e : ℕ) (x : Row) → row_at (after o seen) e ≡ Some x → x.slip.list ≡ l → n ≤ place_at (after o seen) e → place_at (after o seen) e < m → Fails ask x)
    → FailedBelow o ask l n begin seen → FailedBelow o ask l m begin seen
below_on o ask l n m begin seen p now f = λ y is list high. ⊎_elim
    (λ (low : place_at (after o begin) y.number < n). f y is list low)
    (λ (past : n ≤ place_at (after o begin) y.number).
    let t = list_later o begin seen l y.number p (y, is, list) in
    let place : place_at (after o seen) y.number ≡ place_at (after o begin) y.number = place_later o begin seen y.number y p is in
    record {
      moment = seen;
      later = p;
      early = prefix_self seen;
      row = t.0;
      found = t.1;
      fails = now y.number t.0 t.1 t.2 (omega (arith, past, place)) (omega (arith, high, place));
    })
    (cases_lt (place_at (after o begin) y.number) n)

-- all places
below_all : (o : Queue) (ask : Ask) (l n : ℕ) (begin seen : List Deed) → IsPrefix begin seen → ((m : ℕ) → AreDeleted (after o seen) l n m) → FailedBelow o ask l n begin seen → (y : Row) → IsRow (after o begin) y → y.slip.list ≡ l → FailedOnce o ask begin seen y.number
below_all o ask l n begin seen p gone f y is list =
    let m = suc (place_at (after o begin) y.number) in
    below_on o ask l n m begin seen p (λ e x found here low high. deleted_fails ask x (gone m e x found here low high)) f y is list (omega arith)

-- What the steps of a call tell

pub find-behind : {X : Type 0} (p : X → Bool) (xs ys : List X) → find p xs ≡ None → find p (xs ++ ys) ≡ find p ys
find-behind p [] ys e = refl
find-behind p (x ∷ xs) ys e = find-past p x (xs ++ ys) (find_none-head p x xs e) ∙ find-behind p xs ys (find_none-tail p x xs e)

-- a list that was walked by the first steps was walked by all, also in a longer call
failed_front : (us vs : List Tried) (o : Queue) (s0 s s1 : List Deed) (ask : Ask) (l : ℕ) (Before : Row → Type 0) → IsPrefix s s1 → Failed (Showed us) o s0 s ask l Before → Failed (Showed (us ++ vs)) o s0 s1 ask l Before
failed_front us vs o s0 s s1 ask l Before p f =
    let t = f.1.1 in (
      f.0,
      (record { later = f.1.0.later; early = prefix_trans f.0 s s1 f.1.0.early p }, (t.0, find-append (λ (x : Tried). on_head l x.step) us vs t.0 t.1, t.2)),
      λ y is list before. once_later o ask f.0 s s1 y.number p (f.2 y is list before),
    )

-- one that was walked by the last steps was walked by all, where the first are not on its head link
failed_behind : (us vs : List Tried) (o : Queue) (s0 s s1 : List Deed) (ask : Ask) (l : ℕ) (Before : Row → Type 0) → IsPrefix s0 s → NoHead l us → Failed (Showed vs) o s s1 ask l Before → Failed (Showed (us ++ vs)) o s0 s1 ask l Before
failed_behind us vs o s0 s s1 ask l Before p none f =
    let t = f.1.1 in (
      f.0,
      (record { later = prefix_trans s0 s f.0 p f.1.0.later; early = f.1.0.early }, (t.0, find-behind (λ (x : Tried). on_head l x.step) us vs none ∙ t.1, t.2)),
      f.2,
    )

-- One list

same_opening : (old now : Sight) (acts : List Act) (added : List Tried) → Stepped old now acts added → now.opening ≡ old.opening
same_opening old now acts added s = ap (λ (v : Sight). v.opening) s.rest

-- the first step
walk_begun : (old new : Sight) (ask : Ask) (l : ℕ) → Follows old new l 0 → Walking old new ask l 0
walk_begun old new ask l f = record {
  added = f.entry ∷ [];
  begin = new.seen;
  steps = f.steps;
  rights = f.rights;
  between = record { later = f.steps.grows; early = prefix_self new.seen };
  starts = (f.entry, find-here (λ (t : Tried). on_head l t.step) f.entry [] (f.head refl), f.when);
  others = λ m away. find_none-cons (λ (t : Tried). on_head m t.step) f.entry [] (f.other m away) refl;
  below = below_none old.opening ask l new.seen new.seen;
}

-- further steps, none on a head link of another list, in which further places fail
walk_more : (old now new : Sight) (ask : Ask) (l n m : ℕ) (us : List Tried) → Walking old now ask l n → Stepped now new [] us → SameRights now new → ((k : ℕ) → k ≢ l → NoHead k us)
    → ((e : ℕ) (x : Row) → row_at (after old.opening new.seen) e ≡ Some x → x.slip.list ≡ l → n ≤ place_at (after old.opening new.seen) e → place_at (after old.opening new.seen) e < m → Fails ask x) → Walking old new ask l m
walk_more old now new ask l n m us w s r none now_fails = record {
  added = w.added ++ us;
  begin = w.begin;
  steps = stepped_trans old now new [] [] w.added us w.steps s;
  rights = rights_trans old now new w.rights r;
  between = record { later = w.between.later; early = prefix_trans w.begin now.seen new.seen w.between.early s.grows };
  starts = (w.starts.0, find-append (λ (t : Tried). on_head l t.step) w.added us w.starts.0 w.starts.1, w.starts.2);
  others = λ k away. no_head-append k w.added us (w.others k away) (none k away);
  below =
      below_on old.opening ask l n m w.begin new.seen (prefix_trans w.begin now.seen new.seen w.between.early s.grows) now_fails
      (below_later old.opening ask l n w.begin now.seen new.seen s.grows w.below);
}

-- the end
walk_ended : (old now : Sight) (ask : Ask) (l n : ℕ) → Walking old now ask l n → ((m : ℕ) → AreDeleted (after old.opening now.seen) l n m) → Ended old now ask l
walk_ended old now ask l n w gone = record {
  added = w.added;
  steps = w.steps;
  rights = w.rights;
  others = w.others;
  failed = (w.begin, (w.between, w.starts), λ y is list all. below_all old.opening ask l n w.begin now.seen w.between.early gone w.below y is list);
}

pub walk_first : (old new : Sight) (ask : Ask) (l : ℕ) (result : Option ℕ) → FollowsTo old new l 0 result → Faces old new ask l result
walk_first old new ask l None f = walk_ended old new ask l 0 (walk_begun old new ask l f.0) f.1
walk_first old new ask l (Some r) f = record {
  there = f.1;
  walking =
      walk_deleted (walk_begun old new ask l f.0) f.3;
}
  where
    walk_deleted : Walking old new ask l 0 → AreDeleted (after old.opening new.seen) l 0 (place_at (after old.opening new.seen) r) → Walking old new ask l (place_at (after old.opening new.seen) r)
    walk_deleted w gone = record {
      added = w.added;
      begin = w.begin;
      steps = w.steps;
      rights = w.rights;
      between = w.between;
      starts = w.starts;
      others = w.others;
      below = below_on old.opening ask l 0 (place_at (after old.opening new.seen) r) w.begin new.seen w.between.early (λ e x found here low high. deleted_fails ask x (gone e x found here low high)) w.below;
    }

-- the row that the walk has come to fails
walk_past : (old now mid : Sight) (ask : Ask) (l r : ℕ) (us : List Tried) → Facing old now ask l r → Stepped now mid [] us → SameRights now mid → NoHeads us → ((x : Row) → row_at (after old.opening mid.seen) r ≡ Some x → Fails ask x)
    → Walking old mid ask l (suc (place_at (after old.opening mid.seen) r))
walk_past old now mid ask l r us f s rights none fails =
    let o = old.opening in
    let place : place_at (after o mid.seen) r ≡ place_at (after o now.seen) r = place_later o now.seen mid.seen r f.there.0 s.grows f.there.1 in
    let there = list_later o now.seen mid.seen l r s.grows f.there in
    walk_more old now mid ask l (place_at (after o now.seen) r) (suc (place_at (after o mid.seen) r)) us f.walking s rights (λ k away. none k)
    (λ e x found list low high.
    let one : place_at (after o mid.seen) e ≡ place_at (after o mid.seen) r = omega (arith, low, high, place) in
    let same : x ≡ there.0 = place_same (after o mid.seen) e r x there.0 found there.1 (list ∙ sym there.2) one in
    subst (Fails ask) (sym same) (fails there.0 there.1))

-- and the link behind it is followed
walk_link : (old mid last : Sight) (ask : Ask) (l r : ℕ) (result : Option ℕ) → IsOfList (after old.opening mid.seen) l r → Walking old mid ask l (suc (place_at (after old.opening mid.seen) r)) → mid.opening ≡ old.opening → FollowsTo mid last l (suc r) result → Faces old last ask l result
walk_link old mid last ask l r None there w opening f =
    let o = old.opening in
    let grows = f.0.steps.grows in
    let place : place_at (after o last.seen) r ≡ place_at (after o mid.seen) r = place_later o mid.seen last.seen r there.0 grows there.1 in
    let gone : (m : ℕ) → AreDeleted (after o last.seen) l (suc (place_at (after o last.seen) r)) m = subst (λ (q : Queue). (m : ℕ) → AreDeleted (after q last.seen) l (suc (place_at (after q last.seen) r)) m) opening f.1 in
    let none : (k : ℕ) → k ≢ l → NoHead k (f.0.entry ∷ []) = λ k away. find_none-cons (λ (t : Tried). on_head k t.step) f.0.entry [] (f.0.other k away) refl in
    let n = suc (place_at (after o mid.seen) r) in
    let w' = walk_more old mid last ask l n n (f.0.entry ∷ []) w f.0.steps f.0.rights none (λ e x found list low high. absurd (omega (arith, low, high))) in
    walk_ended old last ask l n w' (λ m e x found list low high. gone m e x found list (omega (arith, low, place)) high)
walk_link old mid last ask l r (Some q) there w opening f =
    let o = old.opening in
    let grows = f.0.steps.grows in
    let place : place_at (after o last.seen) r ≡ place_at (after o mid.seen) r = place_later o mid.seen last.seen r there.0 grows there.1 in
    let found_row : IsOfList (after o last.seen) l q = subst (λ (x : Queue). IsOfList (after x last.seen) l q) opening f.1 in
    let gone : AreDeleted (after o last.seen) l (suc (place_at (after o last.seen) r)) (place_at (after o last.seen) q) = subst (λ (x : Queue). AreDeleted (after x last.seen) l (suc (place_at (after x last.seen) r)) (place_at (after x last.seen) q)) opening f.3 in
    let none : (k : ℕ) → k ≢ l → NoHead k (f.0.entry ∷ []) = λ k away. find_none-cons (λ (t : Tried). on_head k t.step) f.0.entry [] (f.0.other k away) refl in
    record {
      there = found_row;
      walking =
          walk_more old mid last ask l (suc (place_at (after o mid.seen) r)) (place_at (after o last.seen) q) (f.0.entry ∷ []) w f.0.steps f.0.rights none
          (λ e x found list low high. deleted_fails ask x (gone e x found list (omega (arith, low, place)) high));
    }

pub walk_on : (old now mid last : Sight) (ask : Ask) (l r : ℕ) (us : List Tried) (result : Option ℕ) → Facing old now ask l r → Stepped now mid [] us → SameRights now mid → NoHeads us → ((x : Row) → row_at (after old.opening mid.seen) r ≡ Some x → Fails ask x)
    → FollowsTo mid last l (suc r) result → Faces old last ask l result
walk_on old now mid last ask l r us result f s rights none fails g =
    let opening : mid.opening ≡ old.opening = same_opening now mid [] us s ∙ same_opening old now [] f.walking.added f.walking.steps in
    walk_link old mid last ask l r result (list_later old.opening now.seen mid.seen l r s.grows f.there) (walk_past old now mid ask l r us f s rights none fails) opening g

-- the walk ends at the row that it has come to
pub walk_got : (old now new : Sight) (ask : Ask) (l r : ℕ) (acts : List Act) (us : List Tried) → Facing old now ask l r → Stepped now new acts us → SameRights now new → NoHeads us → Reached old new ask l r acts
walk_got old now new ask l r acts us f s rights none =
    let o = old.opening in
    let w = f.walking in
    let early : IsPrefix w.begin new.seen = prefix_trans w.begin now.seen new.seen w.between.early s.grows in
    let place : place_at (after o new.seen) r ≡ place_at (after o now.seen) r = place_later o now.seen new.seen r f.there.0 s.grows f.there.1 in
    record {
      added = w.added ++ us;
      steps = stepped_trans old now new [] acts w.added us w.steps s;
      rights = rights_trans old now new w.rights rights;
      others = λ m away. no_head-append m w.added us (w.others m away) (none m);
      failed = (
        w.begin,
        (record { later = w.between.later; early = early }, (w.starts.0, find-append (λ (t : Tried). on_head l t.step) w.added us w.starts.0 w.starts.1, w.starts.2)),
        λ y is list low.
            let here : place_at (after o new.seen) y.number ≡ place_at (after o w.begin) y.number = place_later o w.begin new.seen y.number y early is in
            once_later o ask w.begin now.seen new.seen y.number s.grows (w.below y is list (omega (arith, low, place, here))),
      );
    }

-- Several lists

pub done_none : (s : Sight) (ask : Ask) (n : ℕ) → Legal s.opening s.seen → Done s s ask n n
done_none s ask n legal = record {
  added = [];
  steps = stepped_none s legal;
  rights = rights_same s;
  lower = λ m low. refl;
  higher = λ m high. refl;
  failed = λ m low high. absurd (omega (arith, low, high));
}

-- the failed lists, and one more
more_lists : (old now new : Sight) (ask : Ask) (low high k m : ℕ) (d : Done old now ask low high) (e : Ended now new ask k) → NoHead k d.added → (m ≢ k → (low ≤ m) × (m < high)) → Failed (Showed (d.added ++ e.added)) old.opening old.seen new.seen ask m (λ y. Unit {0})
more_lists old now new ask low high k m d e none within =
    let opening : now.opening ≡ old.opening = same_opening old now [] d.added d.steps in
    ⊎_elim
    (λ (here : m ≡ k).
    subst (λ (n : ℕ). Failed (Showed (d.added ++ e.added)) old.opening old.seen new.seen ask n (λ y. Unit {0})) (sym here)
    (failed_behind d.added e.added old.opening old.seen now.seen new.seen ask k (λ y. Unit {0}) d.steps.grows none
    (subst (λ (o : Queue). Failed (Showed e.added) o now.seen new.seen ask k (λ y. Unit {0})) opening e.failed)))
    (λ (away : m ≢ k).
    let t = within away in
    failed_front d.added e.added old.opening old.seen now.seen new.seen ask m (λ y. Unit {0}) e.steps.grows (d.failed m t.0 t.1))
    (cases_eq m k)

pub done_down : (old now new : Sight) (ask : Ask) (k high : ℕ) → k < high → Done old now ask (suc k) high → Ended now new ask k → Done old new ask k high
done_down old now new ask k high inside d e = record {
  added = d.added ++ e.added;
  steps = stepped_trans old now new [] [] d.added e.added d.steps e.steps;
  rights = rights_trans old now new d.rights e.rights;
  lower = λ m low. no_head-append m d.added e.added (d.lower m (omega (arith, low))) (e.others m (λ same. omega (arith, same, low)));
  higher = λ m up. no_head-append m d.added e.added (d.higher m up) (e.others m (λ same. omega (arith, same, up, inside)));
  failed = λ m low up. more_lists old now new ask (suc k) high k m d e (d.lower k (omega arith)) (λ away. (omega (arith, low, away), up));
}

pub done_up : (old now new : Sight) (ask : Ask) (low k : ℕ) → low ≤ k → Done old now ask low k → Ended now new ask k → Done old new ask low (suc k)
done_up old now new ask low k inside d e = record {
  added = d.added ++ e.added;
  steps = stepped_trans old now new [] [] d.added e.added d.steps e.steps;
  rights = rights_trans old now new d.rights e.rights;
  lower = λ m less. no_head-append m d.added e.added (d.lower m less) (e.others m (λ same. omega (arith, same, less, inside)));
  higher = λ m up. no_head-append m d.added e.added (d.higher m (omega (arith, up))) (e.others m (λ same. omega (arith, same, up)));
  failed = λ m least up. more_lists old now new ask low k k m d e (d.higher k (omega arith)) (λ away. (least, omega (arith, up, away)));
}

-- the last list was walked to a row
pub done_got : (old now new : Sight) (ask : Ask) (low high k r : ℕ) (acts : List Act) → (d : Done old now ask low high) → NoHead k d.added → Reached now new ask k r acts → Stopped old new ask low high k r acts
done_got old now new ask low high k r acts d none e =
    let opening : now.opening ≡ old.opening = same_opening old now [] d.added d.steps in
    record {
      added = d.added ++ e.added;
      steps = stepped_trans old now new [] acts d.added e.added d.steps e.steps;
      rights = rights_trans old now new d.rights e.rights;
      failed = λ m least up. failed_front d.added e.added old.opening old.seen now.seen new.seen ask m (λ y. Unit {0}) e.steps.grows (d.failed m least up);
      last =
          failed_behind d.added e.added old.opening old.seen now.seen new.seen ask k
          (λ y. place_at (after old.opening new.seen) y.number < place_at (after old.opening new.seen) r) d.steps.grows none
          (subst (λ (o : Queue). Failed (Showed e.added) o now.seen new.seen ask k (λ y. place_at (after o new.seen) y.number < place_at (after o new.seen) r)) opening e.failed);
    }
