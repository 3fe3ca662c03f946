-- the cursors of passes that are split off and joined
use Rattle.std.proofs.Common.{◌≡◌, ◌⊎◌, inl, inr, ℕ, zero, suc, ◌≢◌, ◌+◌, ◌<◌, ◌≤◌, Bool, true, false, not, cond, Option, Some, None, List, [], ◌∷◌, ◌++◌, length, filter, refl, sym, ap, ◌∙◌, subst, ⊎_elim, arith}
use Rattle.std.proofs.lemmas.Bool.{cases_Bool, cases_eq, cases_lt, cond-true, cond-false}
use Rattle.std.specs.List.{AllByRecursion}
use mathlib.Core.List.{Mem}
use Rattle.acts_core.specs.Calls.{Call, CallNext, Answer}
use Rattle.acts_core.specs.Meaning.{Called}
use Rattle.acts_core.specs.Sight.{Build, Sight}
use Rattle.entry_table.specs.declared.pass.Pass.{Pass}
use Rattle.entry_table.specs.declared.view.View.{View}
use Rattle.entry_table.specs.Passes.{consumers, opening, view}
use Rattle.entry_table.specs.Plays.{not_in, DidSplit, Joined}
use Rattle.entry_table.specs.Rule.{below}
use Rattle.entry_table.specs.Sights.{sight}
use Rattle.entry_table.specs.Views.{Has, is_in}
use Rattle.entry_table.proofs.Concerning.{has_in, in_has}
use Rattle.cursor_core.specs.declared.cursor.Cursor.{Cursor}
use Rattle.cursor_core.specs.Holding.{cursor_at, IsOwn, AreTrueOf, AreFresh, or_other, AreHanded}
use Rattle.cursor_core.proofs.Slots.{below_places}
use Rattle.cursor_core.proofs.Outlasting.{split_outlasts, join_outlasts}
use Rattle.any_queue.proofs.Parting.{has_mem, mem_has}

-- Members

filter_has : (p : ℕ → Bool) (d : ℕ) (xs : List ℕ) → Has d xs → p d ≡ true → Has d (filter p xs)
filter_has p d [] has passes = absurd has
filter_has p d (x ∷ xs) has passes = ⊎_elim
    (λ (hit : p x ≡ true).
    subst (Has d) (sym (cond-true (p x) (x ∷ filter p xs) (filter p xs) hit))
    (⊎_elim (λ (e : x ≡ d). inl e) (λ (t : Has d xs). inr (filter_has p d xs t passes)) has))
    (λ (miss : p x ≡ false).
    subst (Has d) (sym (cond-false (p x) (x ∷ filter p xs) (filter p xs) miss))
    (⊎_elim (λ (e : x ≡ d). let bad : false ≡ true = sym miss ∙ ap p e ∙ passes in absurd (cc)) (λ (t : Has d xs). filter_has p d xs t passes) has))
    (cases_Bool (p x))

has_filter : (p : ℕ → Bool) (d : ℕ) (xs : List ℕ) → Has d (filter p xs) → Has d xs × (p d ≡ true)
has_filter p d [] has = absurd has
has_filter p d (x ∷ xs) has = ⊎_elim
    (λ (hit : p x ≡ true).
    let h : (x ≡ d) ⊎ Has d (filter p xs) = subst (Has d) (cond-true (p x) (x ∷ filter p xs) (filter p xs) hit) has in
    ⊎_elim (λ (e : x ≡ d). (inl e, ap p (sym e) ∙ hit)) (λ (t : Has d (filter p xs)). let r = has_filter p d xs t in (inr r.0, r.1)) h)
    (λ (miss : p x ≡ false).
    let r = has_filter p d xs (subst (Has d) (cond-false (p x) (x ∷ filter p xs) (filter p xs) miss) has) in (inr r.0, r.1))
    (cases_Bool (p x))

-- of some consumers without others
kept_has : (d : ℕ) (cs xs : List ℕ) → Has d (not_in cs xs) → Has d xs × (Has d cs → ⊥)
kept_has d cs xs has =
    let t = has_filter (λ x. not (is_in x cs)) d xs has in
    (t.0, λ gone. let bad : false ≡ true = sym (ap not (has_in d cs gone)) ∙ t.1 in absurd (cc))

has_kept : (d : ℕ) (cs xs : List ℕ) → Has d xs → (Has d cs → ⊥) → Has d (not_in cs xs)
has_kept d cs xs has away =
    filter_has (λ x. not (is_in x cs)) d xs has
    (⊎_elim (λ (hit : is_in d cs ≡ true). absurd (away (in_has d cs hit))) (λ (miss : is_in d cs ≡ false). ap not miss) (cases_Bool (is_in d cs)))

has_both : (d : ℕ) (xs ys : List ℕ) → Has d (xs ++ ys) → Has d xs ⊎ Has d ys
has_both d [] ys has = inr has
has_both d (x ∷ xs) ys has = ⊎_elim
    (λ (e : x ≡ d). inl (inl e))
    (λ (t : Has d (xs ++ ys)). ⊎_elim (λ (l : Has d xs). inl (inr l)) (λ (r : Has d ys). inr r) (has_both d xs ys t)) has

has_first : (d : ℕ) (xs ys : List ℕ) → Has d xs → Has d (xs ++ ys)
has_first d [] ys has = absurd has
has_first d (x ∷ xs) ys has = ⊎_elim (λ (e : x ≡ d). inl e) (λ (t : Has d xs). inr (has_first d xs ys t)) has

has_second : (d : ℕ) (xs ys : List ℕ) → Has d ys → Has d (xs ++ ys)
has_second d [] ys has = has
has_second d (x ∷ xs) ys has = inr (has_second d xs ys has)

-- the consumers of a pass are below the number of places
pub all_below : (s : Sight) (slots : List (Option Cursor)) (n : ℕ) (cs : List ℕ) → AreTrueOf s slots → length slots ≡ n → ((c : ℕ) → Mem c cs → Mem c s.consumers) → AllByRecursion (λ c. c < n) cs
all_below s slots n [] t long within = tt
all_below s slots n (c ∷ cs) t long within = (below_places s slots n c t long (within c (has_mem c (c ∷ cs) (inl refl))), all_below s slots n cs t long (λ d m. within d (has_mem d (c ∷ cs) (inr (mem_has d cs m)))))

-- Fresh cursors

below_low : (n d : ℕ) → Has d (below n) → d < n
below_low zero d has = absurd has
below_low (suc n) d has = ⊎_elim
    (λ (t : Has d (below n)). let low = below_low n d t in omega (arith, low))
    (λ (last : Has d (n ∷ [])). ⊎_elim (λ (e : n ≡ d). omega (arith, e)) (λ z. absurd z) last)
    (has_both d (below n) (n ∷ []) has)

low_below : (n d : ℕ) → d < n → Has d (below n)
low_below zero d low = absurd (omega (arith, low))
low_below (suc n) d low = ⊎_elim
    (λ (e : n ≡ d). has_second d (below n) (n ∷ []) (inl e))
    (λ (ne : n ≢ d). has_first d (below n) (n ∷ []) (low_below n d (omega (arith, low, ne))))
    (cases_eq n d)

-- the boss's cursors on a new queue
pub first_true : (s : Sight) (n : ℕ) (slots : List (Option Cursor)) → s.consumers ≡ below n → AreFresh s n slots → AreTrueOf s slots
first_true s n slots is f = record {
  own = λ c mem. f.own c (below_low n c (mem_has c (below n) (subst (Mem c) is mem)));
  only = λ c k found. ⊎_elim
      (λ (low : c < n). subst (Mem c) (sym is) (has_mem c (below n) (low_below n c low)))
      (λ (high : n ≤ c). let bad : None ≡ Some k = sym (f.none c high) ∙ found in absurd (cc))
      (cases_lt c n);
}

-- Splits

module _ (old new made : Pass) (cs : List ℕ) (n : ℕ) (d : DidSplit (view old) (view new) (view made) cs n) (within : (c : ℕ) → Mem c cs → Mem c (sight old).consumers) (slots kept handed : List (Option Cursor)) (t : AreTrueOf (sight old) slots) (h : AreHanded cs slots kept handed) where
  boss_consumers : consumers new ≡ not_in cs (consumers old)
  boss_consumers = ap (λ (v : View). v.consumers) d.boss

  new_consumers : consumers made ≡ cs
  new_consumers = ap (λ (v : View). v.consumers) d.new

  pub boss_true : AreTrueOf (sight new) kept
  boss_true = record {
    own = λ c mem.
        let was = kept_has c cs (consumers old) (subst (Has c) boss_consumers (mem_has c (consumers new) mem)) in
        let own = t.own c (has_mem c (consumers old) was.0) in
        ⊎_elim
        (λ (over : Has c cs × (cursor_at kept c ≡ None) × (cursor_at handed c ≡ cursor_at slots c)). absurd (was.1 over.0))
        (λ (stay : (Has c cs → ⊥) × (cursor_at kept c ≡ cursor_at slots c) × (cursor_at handed c ≡ None)).
        record {
          cursor = own.cursor;
          is = stay.1 ∙ own.is;
          consumer = own.consumer;
          truth = (split_outlasts old new made cs n own.cursor d (subst (λ (e : ℕ). Mem e (consumers old)) (sym own.consumer) (has_mem c (consumers old) was.0)) own.truth).0;
        })
        (h c);
    only = λ c k found. ⊎_elim
        (λ (over : Has c cs × (cursor_at kept c ≡ None) × (cursor_at handed c ≡ cursor_at slots c)). let bad : None ≡ Some k = sym over.1 ∙ found in absurd (cc))
        (λ (stay : (Has c cs → ⊥) × (cursor_at kept c ≡ cursor_at slots c) × (cursor_at handed c ≡ None)).
        let had = mem_has c (consumers old) (t.only c k (sym stay.1 ∙ found)) in
        has_mem c (consumers new) (subst (Has c) (sym boss_consumers) (has_kept c cs (consumers old) had stay.0)))
        (h c);
  }

  pub made_true : AreTrueOf (sight made) handed
  made_true = record {
    own = λ c mem.
        let has = subst (Has c) new_consumers (mem_has c (consumers made) mem) in
        let had = within c (has_mem c cs has) in
        let own = t.own c had in
        ⊎_elim
        (λ (over : Has c cs × (cursor_at kept c ≡ None) × (cursor_at handed c ≡ cursor_at slots c)).
        record {
          cursor = own.cursor;
          is = over.2 ∙ own.is;
          consumer = own.consumer;
          truth = (split_outlasts old new made cs n own.cursor d (subst (λ (e : ℕ). Mem e (consumers old)) (sym own.consumer) had) own.truth).1;
        })
        (λ (stay : (Has c cs → ⊥) × (cursor_at kept c ≡ cursor_at slots c) × (cursor_at handed c ≡ None)). absurd (stay.0 has))
        (h c);
    only = λ c k found. ⊎_elim
        (λ (over : Has c cs × (cursor_at kept c ≡ None) × (cursor_at handed c ≡ cursor_at slots c)). has_mem c (consumers made) (subst (Has c) (sym new_consumers) over.0))
        (λ (stay : (Has c cs → ⊥) × (cursor_at kept c ≡ cursor_at slots c) × (cursor_at handed c ≡ None)). let bad : None ≡ Some k = sym stay.2 ∙ found in absurd (cc))
        (h c);
  }

-- Joins

module _ (old gone new : Pass) (j : Joined (view old) (view gone) (view new)) (same : opening gone ≡ opening old) (slots left now : List (Option Cursor)) (t : AreTrueOf (sight old) slots) (u : AreTrueOf (sight gone) left) (taken : (c : ℕ) → cursor_at now c ≡ or_other (cursor_at left c) (cursor_at slots c)) where
  all_consumers : consumers new ≡ consumers old ++ consumers gone
  all_consumers = ap (λ (v : View). v.consumers) j.view

  -- by what the pass that ended had at the number
  own_by : (c : ℕ) (o : Option Cursor) → cursor_at left c ≡ o → Has c (consumers new) → IsOwn (sight new) c (cursor_at now c)
  own_by c (Some k) is has =
      let mem = u.only c k is in
      let own = u.own c mem in
      record {
        cursor = own.cursor;
        is = taken c ∙ ap (λ (o : Option Cursor). or_other o (cursor_at slots c)) own.is;
        consumer = own.consumer;
        truth = (join_outlasts old gone new own.cursor j same).1 (subst (λ (e : ℕ). Mem e (consumers gone)) (sym own.consumer) mem) own.truth;
      }
  own_by c None is has = ⊎_elim
      (λ (mine : Has c (consumers old)).
      let mem = has_mem c (consumers old) mine in
      let own = t.own c mem in
      record {
        cursor = own.cursor;
        is = taken c ∙ ap (λ (o : Option Cursor). or_other o (cursor_at slots c)) is ∙ own.is;
        consumer = own.consumer;
        truth = (join_outlasts old gone new own.cursor j same).0 (subst (λ (e : ℕ). Mem e (consumers old)) (sym own.consumer) mem) own.truth;
      })
      (λ (theirs : Has c (consumers gone)). let own = u.own c (has_mem c (consumers gone) theirs) in let bad : None ≡ Some own.cursor = sym is ∙ own.is in absurd (cc))
      (has_both c (consumers old) (consumers gone) (subst (Has c) all_consumers has))

  only_by : (c : ℕ) (k : Cursor) (o : Option Cursor) → cursor_at left c ≡ o → cursor_at now c ≡ Some k → Has c (consumers old ++ consumers gone)
  only_by c k (Some l) is found = has_second c (consumers old) (consumers gone) (mem_has c (consumers gone) (u.only c l is))
  only_by c k None is found =
      has_first c (consumers old) (consumers gone)
      (mem_has c (consumers old) (t.only c k (ap (λ (o : Option Cursor). or_other o (cursor_at slots c)) (sym is) ∙ sym (taken c) ∙ found)))

  pub joined_true : AreTrueOf (sight new) now
  joined_true = record {
    own = λ c mem. own_by c (cursor_at left c) refl (mem_has c (consumers new) mem);
    only = λ c k found. has_mem c (consumers new) (subst (Has c) (sym all_consumers) (only_by c k (cursor_at left c) refl found));
  }
