-- the last rows as states change
use Rattle.std.proofs.Common.{◌≡◌, ◌≢◌, ◌⊎◌, ◌↔◌, inl, inr, ℕ, ◌+◌, ◌-◌, ◌<◌, ◌≤◌, Bool, true, false, IsTrue, Option, Some, None, List, length, get_or, set, refl, sym, ap, ◌∙◌, subst, ⊎_elim, arith, zero, suc}
use mathlib.Core.Logic.{dite}
use native.Mathlib.Decide.{ℕ_discrete, dec_lt}
use Rattle.queue_model.specs.declared.rows.RowState.{RowState}
use Rattle.queue_model.specs.declared.rows.RowState.TheVariants.{Available}
use Rattle.queue_model.specs.declared.rows.Slip.{Slip}
use Rattle.queue_model.specs.declared.queues.Queue.{Queue}
use Rattle.queue_model.specs.declared.rows.Row.{Row}
use Rattle.queue_model.specs.Order.{KeyBefore}
use Rattle.queue_model.specs.State.{row_at, place_at}
use Rattle.row_order.proofs.Keys.{key_not}
use Rattle.acts_core.specs.Held.{IsOutdatedIn}
use Rattle.acts_core.specs.Kept.{Kept, KeptRow, Goods, Stands}
use Rattle.kept_rows.specs.Rows.{kept_at, with_row, row_in, Settles}
use Rattle.kept_rows.proofs.Settling.{kept_here, kept_else, slip_kept}
use Rattle.kept_rows.proofs.Standing.{row_is, number_inside, slip_is, place_is}
use Rattle.std.proofs.lemmas.List.{length-set}
use Rattle.lastval_core.specs.Lasts.{key_at, HasLater, IsLastOf, KeepsLast, HasRoom}

-- the keys of two that keep the same slips
later_as : (k j : Kept) (r : ℕ) → length j.rows ≡ length k.rows → ((x : ℕ) → key_at j x ≡ key_at k x) → HasLater k r → HasLater j r
later_as k j r long keys h = record {
  later = h.later;
  after = h.after;
  inside = (let n = h.inside in omega arith);
  same = keys h.later ∙ (h.same ∙ sym (keys r));
  some = λ none. h.some (sym (keys r) ∙ none);
}

last_as : (k j : Kept) (r : ℕ) → length j.rows ≡ length k.rows → ((x : ℕ) → key_at j x ≡ key_at k x) → IsLastOf k r → IsLastOf j r
last_as k j r long keys h = record {
  inside = (let n = h.inside in omega arith);
  some = λ none. h.some (sym (keys r) ∙ none);
  last = λ l. h.last (later_as j k r (sym long) (λ x. sym (keys x)) l);
}

-- the same keys, and no available row that is outdated
lasts_as : (k j : Kept) (lasts : List ℕ) (marks : List Bool) → length j.rows ≡ length k.rows → ((x : ℕ) → key_at j x ≡ key_at k x) → ((r : ℕ) → r < length k.rows → (kept_at j r).state ≡ Available → ¬ (HasLater k r)) → KeepsLast k lasts marks → KeepsLast j lasts marks
lasts_as k j lasts marks long keys one l =
    let back : (x : ℕ) → key_at k x ≡ key_at j x = λ x. sym (keys x) in record {
      long = l.long ∙ sym long;
      marked = λ r m. let w = l.marked r (omega arith) in ((λ t. later_as k j r long keys (w.0 t)), (λ h. w.1 (later_as j k r (sym long) back h)));
      each = λ i m. last_as k j (get_or lasts i 0) long keys (l.each i m);
      whole = λ r is. l.whole r (last_as j k r (sym long) back is);
      sorted = λ a b less m. subst (λ (z : Option (List ℕ) × Option (List ℕ)). KeyBefore z.0 z.1) (λ i. (back (get_or lasts a 0) i, back (get_or lasts b 0) i)) (l.sorted a b less m);
      one = λ r m free h. one r (omega arith) free (later_as j k r (sym long) back h);
      few = (let f = l.few in omega arith);
    }

pub lasts_settle : (k j : Kept) (lasts : List ℕ) (marks : List Bool) → Settles k j → KeepsLast k lasts marks → KeepsLast j lasts marks
lasts_settle k j lasts marks s l = lasts_as k j lasts marks s.long (λ x. ap (λ (z : Slip). z.key) (s.slips x)) (λ r m free. l.one r m (s.available r free)) l

-- the spare changes nothing
pub lasts_spare : (k : Kept) (spare : ℕ) (lasts : List ℕ) (marks : List Bool) → KeepsLast k lasts marks → KeepsLast (record k { spare = spare }) lasts marks
lasts_spare k spare lasts marks l = lasts_as k (record k { spare = spare }) lasts marks refl (λ x. refl) l.one l

pub room_settle : (k j : Kept) (a b : ℕ) → Settles k j → HasRoom k a b → HasRoom j a b
room_settle k j a b s r = let spare = s.spare in let long = s.long in let x = r.lasts_fit in let y = r.marks_fit in record { lasts_fit = omega arith; marks_fit = omega arith }

-- a row that is not outdated becomes available
pub lasts_release : (k : Kept) (lasts : List ℕ) (marks : List Bool) (r : ℕ) (goods : Option Goods) → r < length k.rows → ¬ (HasLater k r) → KeepsLast k lasts marks → KeepsLast (with_row k r (row_in Available goods (kept_at k r))) lasts marks
lasts_release k lasts marks r goods inside off l = lasts_as k (with_row k r (row_in Available goods (kept_at k r))) lasts marks
    (length-set k.rows r (row_in Available goods (kept_at k r)))
    (λ x. ap (λ (z : Slip). z.key) (slip_kept k r x Available goods inside))
    (λ s m free. dite (ℕ_discrete s r)
    (λ (e : s ≡ r). subst (λ (n : ℕ). ¬ (HasLater k n)) (sym e) off)
    (λ (ne : ¬ (s ≡ r)). l.one s m (ap (λ (z : KeptRow). z.state) (sym (kept_else k r s (row_in Available goods (kept_at k r)) ne)) ∙ free)))
    l

module _ (k : Kept) (lasts : List ℕ) (marks : List Bool) (l : KeepsLast k lasts marks) where
  -- a row has a later one, or has none
  pub later_or : (r : ℕ) → r < length k.rows → HasLater k r ⊎ (¬ (HasLater k r))
  later_or r m = by_mark (get_or marks r false) refl where
    by_mark : (b : Bool) → get_or marks r false ≡ b → HasLater k r ⊎ (¬ (HasLater k r))
    by_mark true e = inl ((l.marked r m).0 e)
    by_mark false e = inr (λ h. let t : get_or marks r false ≡ true = (l.marked r m).1 h in let bad : false ≡ true = sym e ∙ t in absurd (cc))

  -- each key of a row stands among the last rows
  pub last_of : (fuel r : ℕ) → length k.rows ≤ r + fuel → r < length k.rows → key_at k r ≢ None → (i : ℕ) × (i < length lasts) × (key_at k (get_or lasts i 0) ≡ key_at k r)
  last_of zero r low m some = absurd (omega arith)
  last_of (suc fuel) r low m some = ⊎_elim
      (λ (h : HasLater k r).
      let a = h.after in
      let w = last_of fuel h.later (omega arith) h.inside (λ none. some (sym h.same ∙ none)) in
      (w.0, w.1, w.2 ∙ h.same))
      (λ (off : ¬ (HasLater k r)). let w = l.whole r (record { inside = m; some = some; last = off }) in (w.0, w.1, ap (key_at k) w.2))
      (later_or r m)

  -- two last rows of one key stand at one place
  pub one_place : (i j : ℕ) → i < length lasts → j < length lasts → key_at k (get_or lasts i 0) ≡ key_at k (get_or lasts j 0) → i ≡ j
  one_place i j li lj same = dite (ℕ_discrete i j) (λ (e : i ≡ j). e)
      (λ (ne : ¬ (i ≡ j)). dite (dec_lt i j)
      (λ (less : i < j). absurd (key_not (key_at k (get_or lasts j 0)) (subst (λ (z : Option (List ℕ)). KeyBefore z (key_at k (get_or lasts j 0))) same (l.sorted i j less lj))))
      (λ (more : ¬ (i < j)). absurd (key_not (key_at k (get_or lasts j 0)) (subst (KeyBefore (key_at k (get_or lasts j 0))) same (l.sorted j i (omega arith) li)))))

-- that a row has a later one is what the state shows
pub later_outdated : (k : Kept) (q : Queue) (r : ℕ) → Stands k q → r < length k.rows → HasLater k r ↔ IsOutdatedIn q r
later_outdated k q r st l = (
  (λ h.
      let x = row_is k q st r l in
      let y = row_is k q st h.later h.inside in
      let kx : x.row.slip.key ≡ key_at k r = ap (λ (z : Slip). z.key) (slip_is k q st r x.row x.found) in
      let ky : y.row.slip.key ≡ key_at k h.later = ap (λ (z : Slip). z.key) (slip_is k q st h.later y.row y.found) in record {
        row = x.row;
        found = x.found;
        later = y.row;
        there = subst (λ (n : ℕ). row_at q n ≡ Some y.row) (sym y.number) y.found;
        key = ky ∙ (h.same ∙ sym kx);
        some = λ none. h.some (sym kx ∙ none);
        place = (let p = place_is k q st r l in let s = ap (place_at q) y.number ∙ place_is k q st h.later h.inside in let a = h.after in omega arith);
      }),
  (λ o.
      let kx : o.row.slip.key ≡ key_at k r = ap (λ (z : Slip). z.key) (slip_is k q st r o.row o.found) in
      let m = number_inside k q st o.later.number o.later o.there in
      let ky : o.later.slip.key ≡ key_at k o.later.number = ap (λ (z : Slip). z.key) (slip_is k q st o.later.number o.later o.there) in record {
        later = o.later.number;
        after = (let p = place_is k q st r l in let s = place_is k q st o.later.number m in let a = o.place in omega arith);
        inside = m;
        same = sym ky ∙ (o.key ∙ kx);
        some = λ none. o.some (kx ∙ none);
      }),
)
