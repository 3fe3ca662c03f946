use Rattle.std.proofs.Common.{◌≡◌, ◌<◌, ◌≤◌, ◌-◌, ℕ, length, get_or}
use Rattle.std.specs.Vec.{vec_capacity}
use Rattle.queue_model.specs.declared.queues.Depth.{Depth}
use Rattle.row_order.specs.declared.slots.Slot.{Slot}
use Rattle.kept_rows.specs.Keeping.{kept_of}
use Rattle.kept_rows.specs.Resting.{Gathered}
use Rattle.kept_rows.proofs.rest.gather.Given as goal

abbrev pub invariant-gathering : goal.invariant-gathering
invariant-gathering g l = record {
  inside : l.at ≤ length l.order;
  long : length l.slots ≡ length l.fn.slots;
  same : (i : ℕ) (s : Slot g.row.C.Denot) → l.at ≤ i → i < length l.order
      → get_or l.slots (get_or l.order i 0) s ≡ get_or l.fn.slots (get_or l.order i 0) s;
  gathered : (d : Depth) (spare : ℕ) → Gathered g.C.Freight.goods (kept_of g.C.Freight.goods l.fn.slots d spare)
      (g.M.Marking.marks l.marking) l.order l.at l.rest.items;
  room : vec_capacity l.rest ≡ vec_capacity l.fn.rest;
}

abbrev pub decreases-gathering : goal.decreases-gathering
decreases-gathering g l = length l.order - l.at
