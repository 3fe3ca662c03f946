use Rattle.std.proofs.Common.{◌≡◌, ◌<◌, ◌≤◌, ◌-◌, ℕ, false, true}
use Rattle.std.specs.Prelude.{slice_index_or}
use Rattle.std.specs.Slots.{slots_len, slots_filled}
use Rattle.entry_table.proofs.rest.clear.Given as goal

abbrev pub invariant-slots : goal.invariant-slots
invariant-slots g l = record {
  len : slots_len l.closed.slots ≡ slots_len l.fn.closed.slots;
  low : l.i ≤ slots_len l.fn.closed.slots;
  taken : (k : ℕ) → k < l.i → slice_index_or (slots_filled l.closed.slots) k false ≡ false;
  full : (k : ℕ) → l.i ≤ k → k < slots_len l.fn.closed.slots → slice_index_or (slots_filled l.closed.slots) k false ≡ true;
}

abbrev pub decreases-slots : goal.decreases-slots
decreases-slots g l = slots_len l.fn.closed.slots - l.i
