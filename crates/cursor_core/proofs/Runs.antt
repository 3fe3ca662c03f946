-- walks along a list over runs of deleted rows
use Rattle.std.proofs.Common.{◌≡◌, ◌≢◌, ℕ, suc, ◌+◌, ◌-◌, ◌<◌, ◌≤◌, Option, Some, None, List, [], ◌++◌, refl, sym, ap, ◌∙◌, subst, ⊎_elim, arith}
use Rattle.std.proofs.lemmas.Bool.{cases_lt}
use mathlib.Core.List.{IsPrefix}
use Rattle.queue_model.specs.declared.deeds.Deed.{Deed}
use Rattle.queue_model.specs.declared.queues.Queue.{Queue}
use Rattle.queue_model.specs.declared.rows.Row.{Row}
use Rattle.queue_model.specs.declared.rows.RowState.{RowState}
use Rattle.queue_model.specs.declared.rows.RowState.TheVariants.{Deleted}
use Rattle.queue_model.specs.declared.steps.Tried.{Tried}
use Rattle.queue_model.specs.History.{after}
use Rattle.queue_model.specs.State.{row_at, place_at}
use Rattle.queue_model.proofs.KeyedLemmas.{find-append}
use Rattle.queue_model.proofs.Orders.{place_same}
use Rattle.queue_model.proofs.Prefixes.{prefix_self, prefix_trans}
use Rattle.acts_core.specs.Owed.{is_available, is_free}
use Rattle.acts_core.specs.Sight.{Sight, on_head}
use Rattle.acts_core.specs.Steps.{Stepped, SameRights, NoHead}
use Rattle.acts_core.specs.Walks.{Ask, FreeTo, Ready, Named, Fails, FailedOnce, FailedBelow, IsOfList, AreDeleted, Misses, Walking, Facing, Ended, Faces}
use Rattle.acts_core.proofs.Coming.{facing, opening_of, left}
use Rattle.acts_core.proofs.Stepping.{stepped_trans, rights_trans, no_head-append}
use Rattle.acts_core.proofs.Walking.{list_later, place_later}
use Rattle.entry_table.specs.declared.pass.Pass.{Pass}
use Rattle.entry_table.specs.Passes.{opening, seen, state}
use Rattle.entry_table.specs.Sights.{sight}
use Rattle.scavenge_core.specs.Skips.{Tries, Begun, StepsOver}
use Rattle.scavenge_core.proofs.Lasting.{state_is, reach_on}

-- Rows that failed

deleted_fails : (ask : Ask) (x : Row) → x.state ≡ Deleted → Fails ask x
deleted_fails (FreeTo c) x gone = ap (λ (s : RowState). is_free c (record x { state = s })) gone
deleted_fails Ready x gone = ap is_available gone
deleted_fails (Named id) x gone = λ same. gone

once_later : (o : Queue) (ask : Ask) (begin ds es : List Deed) (r : ℕ) → IsPrefix ds es → FailedOnce o ask begin ds r → FailedOnce o ask begin es r
once_later o ask begin ds es r p f = record { moment = f.moment; later = f.later; early = prefix_trans f.moment ds es f.early p; row = f.row; found = f.found; fails = f.fails }

-- the first places failed before, and those up to place m fail now
below_on : (o : Queue) (ask : Ask) (l n m : ℕ) (begin ds es : List Deed) → IsPrefix begin ds → IsPrefix ds es
    → ((e : ℕ) (x : Row) → row_at (after o es) e ≡ Some x → x.slip.list ≡ l → n ≤ place_at (after o es) e → place_at (after o es) e < m → Fails ask x)
    → FailedBelow o ask l n begin ds → FailedBelow o ask l m begin es
below_on o ask l n m begin ds es p q now f = λ y is list high. ⊎_elim
    (λ (low : place_at (after o begin) y.number < n). once_later o ask begin ds es y.number q (f y is list low))
    (λ (past : n ≤ place_at (after o begin) y.number).
    let all = prefix_trans begin ds es p q in
    let t = list_later o begin es l y.number all (y, is, list) in
    let place : place_at (after o es) y.number ≡ place_at (after o begin) y.number = place_later o begin es y.number y all is in
    record {
      moment = es;
      later = all;
      early = prefix_self es;
      row = t.0;
      found = t.1;
      fails = now y.number t.0 t.1 t.2 (omega (arith, past, place)) (omega (arith, high, place));
    })
    (cases_lt (place_at (after o begin) y.number) n)

-- One list

-- further steps, none on a head link of another list, in which further places fail
walk_more : (old now new : Sight) (ask : Ask) (l n m : ℕ) (us : List Tried) → Walking old now ask l n → Stepped now new [] us → SameRights now new → ((k : ℕ) → k ≢ l → NoHead k us)
    → ((e : ℕ) (x : Row) → row_at (after old.opening new.seen) e ≡ Some x → x.slip.list ≡ l → n ≤ place_at (after old.opening new.seen) e → place_at (after old.opening new.seen) e < m → Fails ask x) → Walking old new ask l m
walk_more old now new ask l n m us w s r none fails = record {
  added = w.added ++ us;
  begin = w.begin;
  steps = stepped_trans old now new [] [] w.added us w.steps s;
  rights = rights_trans old now new w.rights r;
  between = record { later = w.between.later; early = prefix_trans w.begin now.seen new.seen w.between.early s.grows };
  starts = (w.starts.0, find-append (λ (t : Tried). on_head l t.step) w.added us w.starts.0 w.starts.1, w.starts.2);
  others = λ k away. no_head-append k w.added us (w.others k away) (none k away);
  below = below_on old.opening ask l n m w.begin now.seen new.seen w.between.early s.grows fails w.below;
}

-- the end
walk_ended : (old now : Sight) (ask : Ask) (l n : ℕ) → Walking old now ask l n → ((m : ℕ) → AreDeleted (after old.opening now.seen) l n m) → Ended old now ask l
walk_ended old now ask l n w gone = record {
  added = w.added;
  steps = w.steps;
  rights = w.rights;
  others = w.others;
  failed = (
    w.begin,
    (w.between, w.starts),
    λ y is list all.
        let m = suc (place_at (after old.opening w.begin) y.number) in
        below_on old.opening ask l n m w.begin now.seen now.seen w.between.early (prefix_self now.seen) (λ e x found here low high. deleted_fails ask x (gone m e x found here low high)) w.below y is list (omega arith),
  );
}

-- A run from the head

walk_begun : (old new : Pass) (ask : Ask) (l : ℕ) (added : List Tried) → Tries old new added → Begun old new l 0 added → Walking (sight old) (sight new) ask l 0
walk_begun old new ask l added t b =
    let s = b.starts refl in record {
      added = added;
      begin = s.0;
      steps = t.steps;
      rights = t.rights;
      between = s.1;
      starts = s.2;
      others = b.others;
      below = λ y is list low. absurd (omega (arith, low));
    }

-- places that are deleted are passed
walk_gone : (old now : Sight) (ask : Ask) (l n m : ℕ) → Walking old now ask l n → AreDeleted (after old.opening now.seen) l n m → Walking old now ask l m
walk_gone old now ask l n m w gone = record {
  added = w.added;
  begin = w.begin;
  steps = w.steps;
  rights = w.rights;
  between = w.between;
  starts = w.starts;
  others = w.others;
  below = below_on old.opening ask l n m w.begin now.seen now.seen w.between.early (prefix_self now.seen) (λ e x found here low high. deleted_fails ask x (gone e x found here low high)) w.below;
}

pub run_first : (old new : Pass) (ask : Ask) (l : ℕ) (result : Option ℕ) → StepsOver old new l 0 result → Faces (sight old) (sight new) ask l result
run_first old new ask l None s =
    walk_ended (sight old) (sight new) ask l 0 (walk_begun old new ask l s.added s.tries s.begun)
    (subst (λ (q : Queue). (m : ℕ) → AreDeleted q l 0 m) (sym (state_is old new s.added s.tries)) s.gone)
run_first old new ask l (Some r) s =
    let is = sym (state_is old new s.added s.tries) in
    record {
      there = subst (λ (q : Queue). IsOfList q l r) is s.names.there;
      walking =
          walk_gone (sight old) (sight new) ask l 0 (place_at (after (opening old) (seen new)) r) (walk_begun old new ask l s.added s.tries s.begun)
          (subst (λ (q : Queue). AreDeleted q l 0 (place_at q r)) is s.names.gone);
    }

-- A run from a row

-- the row that the walk has come to fails
walk_past : (old now mid : Sight) (ask : Ask) (l r : ℕ) → Facing old now ask l r → Misses now mid ask r → Walking old mid ask l (suc (place_at (after old.opening mid.seen) r))
walk_past old now mid ask l r f m =
    let o = old.opening in
    let fails : (x : Row) → row_at (after o mid.seen) r ≡ Some x → Fails ask x = subst (λ (q : Queue). (x : Row) → row_at (after q mid.seen) r ≡ Some x → Fails ask x) (opening_of old now ask l r f) m.fails in
    let place : place_at (after o mid.seen) r ≡ place_at (after o now.seen) r = place_later o now.seen mid.seen r f.there.0 m.steps.grows f.there.1 in
    let there = list_later o now.seen mid.seen l r m.steps.grows f.there in
    walk_more old now mid ask l (place_at (after o now.seen) r) (suc (place_at (after o mid.seen) r)) m.added f.walking m.steps m.rights (λ k away. m.heads k)
    (λ e x found list low high.
    let one : place_at (after o mid.seen) e ≡ place_at (after o mid.seen) r = omega (arith, low, high, place) in
    let same : x ≡ there.0 = place_same (after o mid.seen) e r x there.0 found there.1 (list ∙ sym there.2) one in
    subst (Fails ask) (sym same) (fails there.0 there.1))

-- and the run behind it
walk_run : (old : Sight) (mid last : Pass) (ask : Ask) (l r : ℕ) (result : Option ℕ) → IsOfList (state mid) l r → opening mid ≡ old.opening → Walking old (sight mid) ask l (suc (place_at (state mid) r)) → StepsOver mid last l (suc r) result → Faces old (sight last) ask l result
walk_run old mid last ask l r None there same w s =
    let is : state last ≡ after old.opening (seen last) = sym (state_is mid last s.added s.tries) ∙ ap (λ (o : Queue). after o (seen last)) same in
    let reached = reach_on mid last s.added s.tries l (suc r) there in
    let n = suc (place_at (state mid) r) in
    walk_ended old (sight last) ask l n
    (walk_more old (sight mid) (sight last) ask l n n s.added w s.tries.steps s.tries.rights s.begun.others (λ e x found list low high. absurd (omega (arith, low, high))))
    (subst (λ (q : Queue). (m : ℕ) → AreDeleted q l n m) is (subst (λ (k : ℕ). (m : ℕ) → AreDeleted (state last) l k m) reached s.gone))
walk_run old mid last ask l r (Some u) there same w s =
    let is : state last ≡ after old.opening (seen last) = sym (state_is mid last s.added s.tries) ∙ ap (λ (o : Queue). after o (seen last)) same in
    let reached = reach_on mid last s.added s.tries l (suc r) there in
    let n = suc (place_at (state mid) r) in
    let gone : AreDeleted (after old.opening (seen last)) l n (place_at (after old.opening (seen last)) u) =
    subst (λ (q : Queue). AreDeleted q l n (place_at q u)) is (subst (λ (k : ℕ). AreDeleted (state last) l k (place_at (state last) u)) reached s.names.gone)
    in
    record {
      there = subst (λ (q : Queue). IsOfList q l u) is s.names.there;
      walking =
          walk_more old (sight mid) (sight last) ask l n (place_at (after old.opening (seen last)) u) s.added w s.tries.steps s.tries.rights s.begun.others
          (λ e x found list low high. deleted_fails ask x (gone e x found list low high));
    }

-- The turns of the loop

-- the row that the walk has come to is of the list
pub row_faced : (old : Sight) (now : Pass) (ask : Ask) (l r : ℕ) (next : Option ℕ) → Faces old (sight now) ask l next → next ≡ Some r → IsOfList (state now) l r
row_faced old now ask l r next f is =
    let k = facing old (sight now) ask l r next f is in
    subst (λ (o : Queue). IsOfList (after o (seen now)) l r) (sym (opening_of old (sight now) ask l r k)) k.there

-- the row that the walk has come to is of the list, when it was tried
pub row_tried : (old : Sight) (now mid : Pass) (ask : Ask) (l r : ℕ) (next : Option ℕ) → Faces old (sight now) ask l next → next ≡ Some r → Misses (sight now) (sight mid) ask r → IsOfList (state mid) l r
row_tried old now mid ask l r next f is m =
    let k = facing old (sight now) ask l r next f is in
    let same : opening mid ≡ old.opening = ap (λ (v : Sight). v.opening) m.steps.rest ∙ opening_of old (sight now) ask l r k in
    subst (λ (o : Queue). IsOfList (after o (seen mid)) l r) (sym same) (list_later old.opening (seen now) (seen mid) l r m.steps.grows k.there)

-- the next row, or the end
pub run_on : (old : Sight) (now mid last : Pass) (ask : Ask) (l r : ℕ) (next result : Option ℕ) → Faces old (sight now) ask l next → next ≡ Some r → Misses (sight now) (sight mid) ask r → StepsOver mid last l (r + 1) result → Faces old (sight last) ask l result
run_on old now mid last ask l r next result f is m s =
    let k = facing old (sight now) ask l r next f is in
    let same : opening mid ≡ old.opening = ap (λ (v : Sight). v.opening) m.steps.rest ∙ opening_of old (sight now) ask l r k in
    let e : r + 1 ≡ suc r = omega arith in
    walk_run old mid last ask l r result (row_tried old now mid ask l r next f is m) same
    (subst (λ (o : Queue). Walking old (sight mid) ask l (suc (place_at (after o (seen mid)) r))) (sym same) (walk_past old (sight now) (sight mid) ask l r k m))
    (subst (λ (n : ℕ). StepsOver mid last l n result) e s)

-- fewer places are left
run_less : (rows n : ℕ) (mid last : Pass) (l r : ℕ) (result : Option ℕ) → IsOfList (state mid) l r → StepsOver mid last l (suc r) result → place_at (state mid) r ≡ n → n < rows → left rows (state last) result < suc (rows - n)
run_less rows n mid last l r None there s same low = omega arith
run_less rows n mid last l r (Some u) there s same low =
    let reached = reach_on mid last s.added s.tries l (suc r) there in
    let behind = s.names.behind in
    omega (arith, reached, behind, same, low)

pub run_smaller : (rows : ℕ) (old : Sight) (now mid last : Pass) (ask : Ask) (l r : ℕ) (next result : Option ℕ) → Faces old (sight now) ask l next → next ≡ Some r → Misses (sight now) (sight mid) ask r → StepsOver mid last l (r + 1) result → place_at (state now) r < rows
    → left rows (state last) result < left rows (state now) next
run_smaller rows old now mid last ask l r next result f is m s low =
    let k = facing old (sight now) ask l r next f is in
    let e : r + 1 ≡ suc r = omega arith in
    let to_mid : opening mid ≡ opening now = ap (λ (v : Sight). v.opening) m.steps.rest in
    let here : row_at (state now) r ≡ Some k.there.0 = subst (λ (o : Queue). row_at (after o (seen now)) r ≡ Some k.there.0) (sym (opening_of old (sight now) ask l r k)) k.there.1 in
    let place : place_at (state mid) r ≡ place_at (state now) r = ap (λ (o : Queue). place_at (after o (seen mid)) r) to_mid ∙ place_later (opening now) (seen now) (seen mid) r k.there.0 m.steps.grows here in
    subst (λ (o : Option ℕ). left rows (state last) result < left rows (state now) o) (sym is)
    (run_less rows (place_at (state now) r) mid last l r result (row_tried old now mid ask l r next f is m) (subst (λ (n : ℕ). StepsOver mid last l n result) e s) place low)
