use Rattle.std.proofs.Common.{◌≡◌, ◌≢◌, ℕ, ◌∙◌, ap, arith, ⊎_elim, Bool, false, List}
use Rattle.std.specs.Prelude.{slice_index_or}
use Rattle.std.proofs.lemmas.Bool.{cases_eq}
use Rattle.std.specs.Slots.{slots_filled}
use Rattle.entry_table.proofs.Closing.{unset_here, unset_else}
use Rattle.entry_table.proofs.rest.clear.Goals as goal

pub slots-preserved : goal.slots-preserved
slots-preserved g c =
    let i : ℕ = c.slots.i in
    let inv = c.slots.invariant in
    let o = c.take.ensures.others in
    let count = c.slot_count.ensures in let test = c.slots-test.true in let len = inv.len in
    record {
      len = o.2 ∙ inv.len;
      low = omega (arith, test, count, len);
      taken = λ k lt. ap (λ (l : List Bool). slice_index_or l k false) o.1 ∙ ⊎_elim
          (λ (hit : k ≡ i). unset_here (slots_filled c.slots.closed.slots) i k hit)
          (λ (miss : k ≢ i). unset_else (slots_filled c.slots.closed.slots) i k miss ∙ inv.taken k (omega (arith, lt, miss)))
          (cases_eq k i);
      full = λ k le lt. ap (λ (l : List Bool). slice_index_or l k false) o.1 ∙ unset_else (slots_filled c.slots.closed.slots) i k (λ z. omega (arith, le, z)) ∙ inv.full k (omega (arith, le)) lt;
    }
