-- numbers that stay small where the words stand for a queue
use Rattle.std.proofs.Common.{◌≡◌, ℕ, ◌+◌, ◌*◌, ◌^◌, ◌<◌, ◌≤◌, Option, Some, None, find, refl, sym, subst, arith}
use Rattle.std.specs.Prelude.{slice_index}
use Rattle.std.specs.Option.{unwrap_or}
use Rattle.queue_model.specs.declared.queues.Queue.{Queue}
use Rattle.queue_model.specs.declared.queues.Reservation.{Reservation}
use Rattle.queue_model.specs.declared.rows.RowState.{RowState}
use Rattle.queue_model.specs.declared.steps.Change.{Change}
use Rattle.queue_model.specs.declared.steps.Step.{Step}
use Rattle.queue_model.specs.declared.steps.Step.TheVariants.{State, Reserve, GiveBack}
use Rattle.queue_model.specs.State.{is_holder, nothing, reserved_by, entries, bytes}
use Rattle.queue_model.specs.Table.{CanGive, most_bytes}
use Rattle.queue_model.proofs.Depths.{depth_giving, depth_low}
use Rattle.queue_model.proofs.Performing.{more_fits}
use Rattle.queue_model.proofs.SoundSteps.{row_fits}
use Rattle.queue_model.specs.Packing.{entry_worth}
use Rattle.link_core.specs.Stands.{Stands}
use Rattle.link_core.specs.Steps.{Fits, size_in}
use Rattle.link_core.specs.Table.{Table, IsLinked}
use Rattle.link_core.proofs.Changing.{linked_row}

-- one more entry of a message's size fits what a caller has reserved
pub reserved_few : (t : Table) (q : Queue) (h size : ℕ) → Stands t q → size ≤ most_bytes → ((t.reserved h).entries + 1 < 2 ^ 64) × ((t.reserved h).bytes + size < 2 ^ 64)
reserved_few t q h size s small = subst (λ (v : Reservation). (v.entries + 1 < 2 ^ 64) × (v.bytes + size < 2 ^ 64)) (s.reserved h) (by_found (find (is_holder h) q.reserved) refl) where
  by_found : (o : Option Reservation) → find (is_holder h) q.reserved ≡ o → ((reserved_by q h).entries + 1 < 2 ^ 64) × ((reserved_by q h).bytes + size < 2 ^ 64)
  by_found None e = subst (λ (o : Option Reservation). ((unwrap_or o (nothing h)).entries + 1 < 2 ^ 64) × ((unwrap_or o (nothing h)).bytes + size < 2 ^ 64)) (sym e) (omega arith, omega (arith, small))
  by_found (Some v) e = subst (λ (o : Option Reservation). ((unwrap_or o (nothing h)).entries + 1 < 2 ^ 64) × ((unwrap_or o (nothing h)).bytes + size < 2 ^ 64)) (sym e) (more_fits q h size s.sound small v e)

-- the size word of a linked row is that of a message
pub size_few : (t : Table) (q : Queue) (r : ℕ) → Stands t q → IsLinked t r → size_in t r ≤ most_bytes
size_few t q r s linked = let row = linked_row t q r s linked in omega (arith, (s.drafted r row.0 row.1).size, (row_fits q r row.0 s.sound row.1).size)

-- the row of a change is linked
pub changed_linked : (t : Table) (h r : ℕ) (change : Change) (from : RowState) (step : Step) → step ≡ State r change from → Fits t h step → IsLinked t r
changed_linked t h r change from step is fits = (subst (λ (x : Step). Fits t h x) is fits).row

-- a size that is reserved is that of a message
pub reserve_few : (t : Table) (h size : ℕ) (step : Step) → step ≡ Reserve size → Fits t h step → size ≤ most_bytes
reserve_few t h size step is fits = (subst (λ (x : Step). Fits t h x) is fits).0

-- what is given back can be given
pub gives_back : (t : Table) (h size : ℕ) (step : Step) → step ≡ GiveBack size → Fits t h step → CanGive (t.reserved h) size
gives_back t h size step is fits = subst (λ (x : Step). Fits t h x) is fits

-- the word of the depth is small, and has all that a caller can give back
pub depth_bounds : (t : Table) (q : Queue) (h size : ℕ) → Stands t q → CanGive (t.reserved h) size → (entry_worth + size ≤ slice_index t.words 2) × (slice_index t.words 2 < 2 ^ 64)
depth_bounds t q h size s give =
    let can : CanGive (reserved_by q h) size = subst (λ (v : Reservation). CanGive v size) (sym (s.reserved h)) give in
    let less = depth_giving q h size can in
    let depth : slice_index t.words 2 ≡ entries q * entry_worth + bytes q = s.depth in
    (omega (arith, depth, less.0, less.1), omega (arith, depth, depth_low q s.sound, s.sound.small))
