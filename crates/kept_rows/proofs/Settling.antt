-- what calls leave of the rows
use Rattle.std.proofs.Common.{◌≡◌, ◌≢◌, ℕ, ◌<◌, ◌≤◌, Option, Some, None, List, length, get_or, set, refl, sym, ap, ◌∙◌, subst, arith}
use Rattle.std.proofs.lemmas.List.{length-set, get_or-set_same, get_or-set_other}
use mathlib.Core.Logic.{dite}
use native.Mathlib.Decide.{ℕ_discrete, dec_lt}
use Rattle.queue_model.specs.declared.queues.Depth.{Depth}
use Rattle.queue_model.specs.declared.rows.RowState.{RowState}
use Rattle.queue_model.specs.declared.rows.RowState.TheVariants.{Available, Locked}
use Rattle.queue_model.specs.declared.rows.Slip.{Slip}
use Rattle.acts_core.specs.Kept.{Kept, KeptRow, Goods}
use Rattle.kept_rows.specs.Rows.{no_row, kept_at, with_row, row_in, Settles}

pub settles_same : (k : Kept) → Settles k k
settles_same k = record { spare = refl; long = refl; slips = λ r. refl; available = λ r e. e }

pub settles_depth : (k : Kept) (d : Depth) → Settles k (record k { depth = d })
settles_depth k d = record { spare = refl; long = refl; slips = λ r. refl; available = λ r e. e }

pub kept_here : (k : Kept) (r : ℕ) (x : KeptRow) → r < length k.rows → kept_at (with_row k r x) r ≡ x
kept_here k r x l = get_or-set_same k.rows r x no_row l

pub kept_else : (k : Kept) (r s : ℕ) (x : KeptRow) → s ≢ r → kept_at (with_row k r x) s ≡ kept_at k s
kept_else k r s x ne = get_or-set_other k.rows r s x no_row ne

pub slip_kept : (k : Kept) (r s : ℕ) (t : RowState) (goods : Option Goods) → r < length k.rows → (kept_at (with_row k r (row_in t goods (kept_at k r))) s).slip ≡ (kept_at k s).slip
slip_kept k r s t goods l = dite (ℕ_discrete s r)
    (λ (e : s ≡ r). ap (λ (n : ℕ). (kept_at (with_row k r (row_in t goods (kept_at k r))) n).slip) e ∙ (ap (λ (z : KeptRow). z.slip) (kept_here k r (row_in t goods (kept_at k r)) l) ∙ ap (λ (n : ℕ). (kept_at k n).slip) (sym e)))
    (λ (ne : ¬ (s ≡ r)). ap (λ (z : KeptRow). z.slip) (kept_else k r s (row_in t goods (kept_at k r)) ne))

-- a row that goes into another state than Available
pub settles_row : (k : Kept) (d : Depth) (r : ℕ) (t : RowState) (goods : Option Goods) → r < length k.rows → t ≢ Available → Settles k (record (with_row k r (row_in t goods (kept_at k r))) { depth = d })
settles_row k d r t goods l off = record {
  spare = refl;
  long = length-set k.rows r (row_in t goods (kept_at k r));
  slips = λ s. slip_kept k r s t goods l;
  available = λ s e. dite (ℕ_discrete s r)
      (λ (z : s ≡ r). absurd (off (ap (λ (x : KeptRow). x.state) (sym (kept_here k r (row_in t goods (kept_at k r)) l)) ∙ (ap (λ (n : ℕ). (kept_at (with_row k r (row_in t goods (kept_at k r))) n).state) (sym z) ∙ e))))
      (λ (ne : ¬ (s ≡ r)). ap (λ (x : KeptRow). x.state) (sym (kept_else k r s (row_in t goods (kept_at k r)) ne)) ∙ e);
}
