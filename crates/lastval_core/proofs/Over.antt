-- a row that takes the place of an older one
use Rattle.std.proofs.Common.{◌≡◌, ◌≢◌, ℕ, ◌+◌, ◌<◌, ◌≤◌, Bool, true, false, Option, Some, None, List, [], ◌∷◌, ◌++◌, length, get_or, set, refl, sym, ap, ◌∙◌, subst, arith}
use Rattle.queue_model.specs.declared.rows.RowState.TheVariants.{Available, Locked}
use Rattle.queue_model.specs.declared.rows.Slip.{Slip}
use Rattle.acts_core.specs.Calls.{CallPut, IsAt}
use Rattle.acts_core.specs.Kept.{Kept, KeptRow}
use Rattle.acts_core.specs.Load.{Load}
use Rattle.acts_core.specs.Serves.{Serves}
use Rattle.acts_core.specs.Sight as sight
use Rattle.kept_rows.specs.Rows.{kept_at, with_row, with_new, row_in, CameOut}
use Rattle.kept_rows.proofs.Settling.{kept_here}
use Rattle.lastval_core.specs.Lasts.{key_at, KeepsLast, StandsAt}
use Rattle.lastval_core.proofs.Coming.{Came, lasts_over}
use Rattle.lastval_core.proofs.Displacing.{new_else, came_new, came_taken, none_of_key, some_of_key, last_is, served_none, served_some}

-- the put is served, and the last rows are kept
pub record Done (k j : Kept) (h row : ℕ) (slip : Slip) (load : Load) (displaced : Option (ℕ × Load)) (lasts : List ℕ) (marks : List Bool) : Type 0 where
  pub serves : Serves sight.LastValue k j h (CallPut slip load) (IsAt row displaced)
  pub keeps : KeepsLast j lasts marks
  pub long : length j.rows ≡ length k.rows + 1

module _ (k j : Kept) (h row spare : ℕ) (slip : Slip) (load : Load) (lasts : List ℕ) (marks : List Bool) (i : ℕ) (kept : j ≡ with_new k spare slip load) (l : KeepsLast k lasts marks) (some : slip.key ≢ None) (s : StandsAt k lasts slip.key i)
    (serves : Serves sight.Sorted k j h (CallPut slip load) (IsAt row None)) where
  came : Came k j slip.key
  came = subst (λ (z : Kept). Came k z slip.key) (sym kept) (came_new k spare slip load)

  inside : get_or lasts i 0 < length k.rows
  inside = (l.each i s.inside).inside

  pub longer : length j.rows ≡ length k.rows + 1
  longer = came.long

  pub older_inside : get_or lasts i 0 < length j.rows
  older_inside = let a = inside in let b = longer in omega arith

  -- the older row is as before
  same_row : kept_at j (get_or lasts i 0) ≡ kept_at k (get_or lasts i 0)
  same_row = ap (λ (z : Kept). kept_at z (get_or lasts i 0)) kept ∙ new_else k spare (get_or lasts i 0) slip load inside

  pub over_held : (kept_at j (get_or lasts i 0)).state ≢ Available → Done k j h row slip load None (set lasts i (length k.rows)) (set (marks ++ false ∷ []) (get_or lasts i 0) true)
  over_held off = record {
    serves = served_none k j h row slip load (λ q st. none_of_key k lasts marks l q st slip.key (λ r m same key free.
        off (ap (λ (x : KeptRow). x.state) same_row ∙ (ap (λ (n : ℕ). (kept_at k n).state) (last_is k lasts marks l slip.key i r s m same key free) ∙ free)))) serves;
    keeps = lasts_over k j slip.key came lasts marks i some s l off;
    long = longer;
  }

  pub over_taken : (out : Load) → (kept_at j (get_or lasts i 0)).state ≡ Available → CameOut (kept_at j (get_or lasts i 0)) (Some out)
      → Done k (with_row j (get_or lasts i 0) (row_in (Locked h) None (kept_at j (get_or lasts i 0)))) h row slip load (Some (get_or lasts i 0, out)) (set lasts i (length k.rows)) (set (marks ++ false ∷ []) (get_or lasts i 0) true)
  over_taken out free out_of =
      let older : ℕ = get_or lasts i 0 in
      let taken : KeptRow = row_in (Locked h) None (kept_at j (get_or lasts i 0)) in
      let came2 = came_taken k j slip.key h (get_or lasts i 0) older_inside came in record {
        serves = served_some k j h row (get_or lasts i 0) slip load out
            (λ q st. some_of_key k lasts marks l q st slip.key (get_or lasts i 0) out inside s.same some (ap (λ (x : KeptRow). x.state) (sym same_row) ∙ free) (subst (λ (x : KeptRow). CameOut x (Some out)) same_row out_of))
            older_inside free serves;
        keeps = lasts_over k (with_row j (get_or lasts i 0) (row_in (Locked h) None (kept_at j (get_or lasts i 0)))) slip.key came2 lasts marks i some s l
            (λ e. let bad : Locked h ≡ Available = ap (λ (x : KeptRow). x.state) (sym (kept_here j (get_or lasts i 0) (row_in (Locked h) None (kept_at j (get_or lasts i 0))) older_inside)) ∙ e in absurd (cc));
        long = came2.long;
      }
