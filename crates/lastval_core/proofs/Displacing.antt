-- a put that is served, by what was displaced
use Rattle.std.proofs.Common.{◌≡◌, ◌≢◌, ◌⊎◌, inl, inr, ℕ, ◌+◌, ◌-◌, ◌<◌, ◌≤◌, Bool, Option, Some, None, List, [], ◌∷◌, ◌++◌, length, get_or, refl, sym, ap, ◌∙◌, subst, ⊎_elim, arith, zero, suc, length-append}
use Rattle.std.proofs.lemmas.List.{length-set}
use Rattle.queue_model.specs.declared.deeds.Act.TheVariants.{Acq, Enq}
use Rattle.queue_model.specs.declared.queues.Queue.{Queue}
use Rattle.queue_model.specs.declared.rows.Row.{Row}
use Rattle.queue_model.specs.declared.rows.RowState.TheVariants.{Available, Locked}
use Rattle.queue_model.specs.declared.rows.Slip.{Slip}
use Rattle.queue_model.specs.State.{row_at}
use Rattle.queue_model.specs.Table.{acted}
use Rattle.acts_core.specs.Calls.{CallPut, IsAt}
use Rattle.acts_core.specs.Held.{IsOfKey, Displaces}
use Rattle.acts_core.specs.Kept.{Kept, KeptRow, Stands}
use Rattle.acts_core.specs.Load.{Load}
use Rattle.acts_core.specs.Moments.{NoRow, IsLoadOf}
use Rattle.acts_core.specs.Serves.{Serves}
use Rattle.acts_core.specs.Sight as sight
use Rattle.kept_rows.specs.Rows.{no_row, kept_at, with_row, with_new, new_row, row_in, CameOut}
use Rattle.kept_rows.proofs.Serving.{can_acquire, taken_stands}
use Rattle.kept_rows.proofs.Standing.{row_is, number_inside, kept_is, slip_is, state_is, came_load}
use Rattle.lastval_core.specs.Lasts.{key_at, HasLater, IsLastOf, KeepsLast, StandsAt, BelongsAt}
use Rattle.lastval_core.proofs.Lasts.{last_of, one_place}
use Rattle.row_order.proofs.Keys.{key_not}
use Rattle.queue_model.specs.Order.{KeyBefore}
use Rattle.kept_rows.proofs.Settling.{kept_else, kept_here, slip_kept}
use Rattle.lastval_core.proofs.Coming.{Came}
use mathlib.Core.Logic.{dite}
use native.Mathlib.Decide.{ℕ_discrete, dec_lt}

-- Rows that came

pub new_else : (k : Kept) (spare r : ℕ) (slip : Slip) (load : Load) → r < length k.rows → kept_at (with_new k spare slip load) r ≡ kept_at k r
new_else k spare r slip load l = front k.rows r l where
  front : (xs : List KeptRow) (r : ℕ) → r < length xs → get_or (xs ++ new_row slip load ∷ []) r no_row ≡ get_or xs r no_row
  front [] r l = absurd (omega arith)
  front (x ∷ xs) zero l = refl
  front (x ∷ xs) (suc r) l = front xs r (omega arith)

pub new_here : (k : Kept) (spare : ℕ) (slip : Slip) (load : Load) → kept_at (with_new k spare slip load) (length k.rows) ≡ new_row slip load
new_here k spare slip load = last k.rows where
  last : (xs : List KeptRow) → get_or (xs ++ new_row slip load ∷ []) (length xs) no_row ≡ new_row slip load
  last [] = refl
  last (x ∷ xs) = last xs

pub came_new : (k : Kept) (spare : ℕ) (slip : Slip) (load : Load) → Came k (with_new k spare slip load) slip.key
came_new k spare slip load = record {
  long = (let n = length-append k.rows (new_row slip load ∷ []) in omega arith);
  old = λ r l. ap (λ (z : KeptRow). z.slip.key) (new_else k spare r slip load l);
  new = ap (λ (z : KeptRow). z.slip.key) (new_here k spare slip load);
  available = λ r l e. ap (λ (z : KeptRow). z.state) (sym (new_else k spare r slip load l)) ∙ e;
}

-- and where an older one was taken then
pub came_taken : (k j : Kept) (key : Option (List ℕ)) (h r : ℕ) → r < length j.rows → Came k j key → Came k (with_row j r (row_in (Locked h) None (kept_at j r))) key
came_taken k j key h r l c =
    let keys : (s : ℕ) → key_at (with_row j r (row_in (Locked h) None (kept_at j r))) s ≡ key_at j s = λ s. ap (λ (z : Slip). z.key) (slip_kept j r s (Locked h) None l) in record {
      long = length-set j.rows r (row_in (Locked h) None (kept_at j r)) ∙ c.long;
      old = λ s m. keys s ∙ c.old s m;
      new = keys (length k.rows) ∙ c.new;
      available = λ s m e. dite (ℕ_discrete s r)
          (λ (z : s ≡ r). let bad : Available ≡ Locked h = sym e ∙ (ap (λ (n : ℕ). (kept_at (with_row j r (row_in (Locked h) None (kept_at j r))) n).state) z ∙ ap (λ (x : KeptRow). x.state) (kept_here j r (row_in (Locked h) None (kept_at j r)) l)) in absurd (cc))
          (λ (ne : ¬ (s ≡ r)). c.available s m (ap (λ (x : KeptRow). x.state) (sym (kept_else j r s (row_in (Locked h) None (kept_at j r)) ne)) ∙ e));
    }

-- What was displaced

module _ (k : Kept) (lasts : List ℕ) (marks : List Bool) (l : KeepsLast k lasts marks) where
  -- no row has a key that does not stand among the last ones
  pub no_key : (key : Option (List ℕ)) (i : ℕ) → BelongsAt k lasts key i → (r : ℕ) → r < length k.rows → key_at k r ≢ None → key ≢ key_at k r
  no_key key i b r m some same =
      let w = last_of k lasts marks l (length k.rows) r (omega arith) m some in
      let here : key_at k (get_or lasts w.0 0) ≡ key = w.2 ∙ sym same in
      dite (dec_lt w.0 i)
      (λ (low : w.0 < i). key_not key (subst (λ (z : Option (List ℕ)). KeyBefore z key) here (b.below w.0 low)))
      (λ (high : ¬ (w.0 < i)). key_not key (subst (λ (z : Option (List ℕ)). KeyBefore key z) here (b.above w.0 (omega arith) w.1)))

  -- the available row of a key is its last one
  pub last_is : (key : Option (List ℕ)) (i r : ℕ) → StandsAt k lasts key i → r < length k.rows → key_at k r ≡ key → key ≢ None → (kept_at k r).state ≡ Available → get_or lasts i 0 ≡ r
  last_is key i r s m same some free =
      let w = l.whole r (record { inside = m; some = λ none. some (sym same ∙ none); last = l.one r m free }) in
      let e = one_place k lasts marks l w.0 i w.1 s.inside (ap (key_at k) w.2 ∙ (same ∙ sym s.same)) in
      ap (λ (n : ℕ). get_or lasts n 0) (sym e) ∙ w.2

  module _ (q : Queue) (st : Stands k q) where
    pub none_of_key : (key : Option (List ℕ)) → ((r : ℕ) → r < length k.rows → key_at k r ≡ key → key ≢ None → (kept_at k r).state ≡ Available → ⊥) → Displaces q key None
    none_of_key key none y at is = none y.number (number_inside k q st y.number y at)
        (ap (λ (z : Slip). z.key) (sym (slip_is k q st y.number y at)) ∙ is.same) is.some (sym (state_is k q st y.number y at) ∙ is.available)

    pub some_of_key : (key : Option (List ℕ)) (r : ℕ) (load : Load) → r < length k.rows → key_at k r ≡ key → key ≢ None → (kept_at k r).state ≡ Available → CameOut (kept_at k r) (Some load) → Displaces q key (Some (r, load))
    some_of_key key r load m same some free came =
        let x = row_is k q st r m in
        (x.row, x.found, record { same = ap (λ (z : Slip). z.key) (slip_is k q st r x.row x.found) ∙ same; some = some; available = state_is k q st r x.row x.found ∙ free }, came_load k q st r x.row load x.found came)

-- the put of a queue that displaces none is served as one of a last-value queue that had none to displace
pub served_none : (k j : Kept) (h r : ℕ) (slip : Slip) (load : Load) → ((q : Queue) → Stands k q → Displaces q slip.key None) → Serves sight.Sorted k j h (CallPut slip load) (IsAt r None) → Serves sight.LastValue k j h (CallPut slip load) (IsAt r None)
served_none k j h r slip load none s = record { spare = s.spare; legal = s.legal; means = λ q st can. none q st; stands = s.stands }

-- and the row of the key is taken then, where it is available
pub served_some : (k j : Kept) (h r old : ℕ) (slip : Slip) (load out : Load) → ((q : Queue) → Stands k q → Displaces q slip.key (Some (old, out))) → old < length j.rows → (kept_at j old).state ≡ Available
    → Serves sight.Sorted k j h (CallPut slip load) (IsAt r None) → Serves sight.LastValue k (with_row j old (row_in (Locked h) None (kept_at j old))) h (CallPut slip load) (IsAt r (Some (old, out)))
served_some k j h r old slip load out some inside free s = record {
  spare = s.spare;
  legal = λ q st can.
      let q1 : Queue = acted q h (Enq r slip load.content load.origin load.count) in
      ((s.legal q st can).0, (can_acquire j q1 h old (s.stands q st can) inside free, tt));
  means = λ q st can. some q st;
  stands = λ q st can.
      let q1 : Queue = acted q h (Enq r slip load.content load.origin load.count) in
      taken_stands j q1 h old (Acq old) (s.stands q st can) inside (can_acquire j q1 h old (s.stands q st can) inside free) refl tt;
}
