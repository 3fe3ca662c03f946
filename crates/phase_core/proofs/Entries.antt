-- entries that are left, counted as rows and as lines that put them
use Rattle.std.proofs.Common.{◌≡◌, ℕ, zero, suc, ◌+◌, ◌==◌, ◌&&◌, Bool, true, false, cond, Option, Some, None, List, [], ◌∷◌, length, map, slice_get, refl, sym, ap, ap₂, ◌∙◌, arith}
use Rattle.std.specs.Prelude.{Vec}
use Rattle.std.specs.declared.alloc.Global.{Global}
use Rattle.std.specs.List.{count_by}
use Rattle.std.proofs.lemmas.List.Sums.{sum_by-cons}
use Rattle.std.proofs.lemmas.Option.{same_Some}
use Rattle.queue_model.specs.declared.rows.Row.{Row}
use Rattle.acts_core.specs.declared.cargoes.RestEntry.{RestEntry}
use Rattle.txn_core.specs.declared.parcels.Parcel.{Parcel}
use Rattle.script_read.specs.declared.lines.Op.{Op}
use Rattle.script_read.specs.declared.lines.What.{What}
use Rattle.script_read.specs.declared.lines.What.TheVariants.{Put, Take, Close, Ack, Release, Lock, Unlock, Steal, Begin, Commit, Rollback}
use Rattle.workers_core.specs.Jobs.{puts_to}
use Rattle.workers_core.specs.Made.{puts_in}
use Rattle.account_core.specs.Counting.{puts_among, puts_on, with_ids}
use Rattle.phase_queues.specs.Left.{ids_left, items_of, left_in, many_left, row_left, rows_left}
use Rattle.phase_core.specs.Phased.{Lefts}

-- a count goes on by the first
pub count_cons : {X : Type 0} (test : X → Bool) (x : X) (xs : List X) → count_by test (x ∷ xs) ≡ cond (test x) 1 0 + count_by test xs
count_cons {X} test x xs = sum_by-cons (λ (y : X). cond {A = ℕ} (test y) 1 0) x xs

pub count_all : {X : Type 0} (xs : List X) → count_by (λ x. true) xs ≡ length xs
count_all [] = refl
count_all {X} (x ∷ xs) = let more = count_all xs in let first = count_cons (λ (y : X). true) x xs in omega (arith, more, first)

-- Entries as rows

with_left : (test : ℕ → Bool) (es : List (RestEntry Parcel)) → with_ids test (map row_left es) ≡ count_by (λ e. test e.slip.id) es
with_left test [] = refl
with_left test (e ∷ es) =
    count_cons (λ (x : Row). test x.slip.id) (row_left e) (map row_left es)
    ∙ ap (λ (n : ℕ). cond (test e.slip.id) 1 0 + n) (with_left test es)
    ∙ sym (count_cons (λ (d : RestEntry Parcel). test d.slip.id) e es)

-- the rows with which queue q opens are as many as the entries that were left of it
pub rows_ids : (lefts : Lefts) (q : ℕ) (rows : List Row) (test : ℕ → Bool) → slice_get (rows_left lefts) q ≡ Some rows → with_ids test rows ≡ ids_left q test lefts
rows_ids [] q rows test at = absurd (cc)
rows_ids (es ∷ lefts) zero rows test at = ap (with_ids test) (sym (same_Some (map row_left es.items) rows at)) ∙ with_left test es.items
rows_ids (es ∷ lefts) (suc q) rows test at = rows_ids lefts q rows test at

-- all entries of a queue, as those whose ids pass
pub many_ids : (q : ℕ) (lefts : Lefts) → ids_left q (λ i. true) lefts ≡ many_left q lefts
many_ids q lefts = count_all (left_in q lefts)

-- and none where there is no such queue
pub none_left : (q : ℕ) (test : ℕ → Bool) (lefts : Lefts) → slice_get lefts q ≡ None → ids_left q test lefts ≡ 0
none_left q test lefts none = ap (λ (o : Option (Vec (RestEntry Parcel) Global)). count_by (λ e. test e.slip.id) (items_of o)) none

-- Lines that put

and_true : (b : Bool) → (b && true) ≡ b
and_true true = refl
and_true false = refl

any_id : (q : ℕ) (w : What) → puts_on q (λ i. true) w ≡ puts_to q w
any_id q (Put r m) = and_true (r == q)
any_id q (Take c) = refl
any_id q (Close c) = refl
any_id q (Ack r id) = refl
any_id q (Release r id) = refl
any_id q (Lock r id) = refl
any_id q (Unlock r id) = refl
any_id q (Steal r id) = refl
any_id q Begin = refl
any_id q Commit = refl
any_id q Rollback = refl

pub all_puts : (q : ℕ) (ops : List Op) → puts_among q (λ i. true) ops ≡ puts_in q ops
all_puts q [] = refl
all_puts q (op ∷ ops) =
    count_cons (λ (o : Op). puts_on q (λ i. true) o.what) op ops
    ∙ ap₂ (λ (b : Bool) (n : ℕ). cond b 1 0 + n) (any_id q op.what) (all_puts q ops)
    ∙ sym (count_cons (λ (o : Op). puts_to q o.what) op ops)
