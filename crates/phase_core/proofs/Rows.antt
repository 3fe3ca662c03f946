-- how many rows queues have room for
use Rattle.std.proofs.Common.{◌≡◌, ℕ, zero, suc, ◌+◌, Some, List, [], ◌∷◌, length, map, slice_get, refl, sym, ap, ◌∙◌, arith}
use Rattle.std.proofs.lemmas.List.Sums.{sum_by-cons}
use Rattle.std.proofs.lemmas.Option.{slice_get_within}
use Rattle.acts_core.specs.Sight.{Build}
use Rattle.txn_core.specs.declared.parcels.Parcel.{Parcel}
use Rattle.any_queue.specs.declared.kinds.AnyPass.{AnyPass}
use Rattle.any_queue.specs.declared.kinds.AnyQueue.{AnyQueue}
use Rattle.any_queue.specs.Kinds.{build_in}
use Rattle.defs_read.specs.Defined.{Defined}
use Rattle.workers_core.specs.Drops.{all_rows}
use Rattle.phase_queues.specs.Left.{AllMayStay}
use Rattle.phase_queues.specs.Opened.{AreOpened}
use Rattle.phase_core.specs.Phased.{Lefts}
use Rattle.phase_core.proofs.Places.{there}
use Rattle.phase_core.specs.Rows.{rows_at, rows_up_to, sum_up}

-- the first value apart
sum_shift : (f : ℕ → ℕ) (n : ℕ) → sum_up f (suc n) ≡ f 0 + sum_up (λ k. f (suc k)) n
sum_shift f zero = omega arith
sum_shift f (suc n) = let rest = sum_shift f n in omega (arith, rest)

-- what queues have room for, by the number of each
rows_are : {R : Type 0} (f : ℕ → ℕ) (queues : List (AnyQueue Parcel R)) → ((q : ℕ) (queue : AnyQueue Parcel R) → slice_get queues q ≡ Some queue → (build_in queue).rows ≡ f q) → all_rows (map build_in queues) ≡ sum_up f (length queues)
rows_are f [] each = refl
rows_are f (x ∷ xs) each =
    let rest = rows_are (λ k. f (suc k)) xs (λ q queue at. each (suc q) queue at) in
    let here = each 0 x refl in
    omega (arith, sum_by-cons (λ (b : Build). b.rows) (build_in x) (map build_in xs), rest, here, sum_shift f (length xs))

-- there are entries for each queue
pub lefts_many : (defs : List Defined) (lefts : Lefts) → AllMayStay defs lefts → length lefts ≡ length defs
lefts_many [] [] stay = refl
lefts_many [] (l ∷ lefts) stay = absurd stay
lefts_many (d ∷ defs) [] stay = absurd stay
lefts_many (d ∷ defs) (l ∷ lefts) stay = ap suc (lefts_many defs lefts stay.1)

-- the queues that were opened have room for so many rows
pub opened_rows : {R : Type 0} (defs : List Defined) (lefts : Lefts) (puts : List ℕ) (queues : List (AnyQueue Parcel R)) (bosses : List AnyPass) → AreOpened defs lefts puts queues bosses → length lefts ≡ length defs
    → all_rows (map build_in queues) ≡ rows_up_to lefts puts (length lefts)
opened_rows defs lefts puts queues bosses opened many =
    rows_are (rows_at lefts puts) queues (λ q queue at.
    let within = slice_get_within queues q queue at in
    let def = there defs q (omega (arith, within, opened.as_many)) in
    ap (λ (b : Build). b.rows) (opened.builds q def.0 queue def.1 at))
    ∙ ap (rows_up_to lefts puts) (opened.as_many ∙ sym many)
