use Rattle.std.proofs.Common.{map}
use Rattle.std.specs.Option.{option_map}
use Rattle.workers_core.specs.Made.{SeatsStay}
use Rattle.workers_core.proofs.Preparing.{ReadyBelow}
use Rattle.workers_core.proofs.making.prepare_all.Given as goal

abbrev pub invariant-consumers : goal.invariant-consumers
invariant-consumers g l = record {
  stays : SeatsStay
      (map (option_map (λ b. (goal.Target-dyn g (b.vtable, b.value)).seat b.value)) l.fn.roster.slots)
      (map (option_map (λ b. (goal.Target-dyn g (b.vtable, b.value)).seat b.value)) l.roster.slots);
  ready : ReadyBelow l.takes l.consumer (map (option_map (λ b. (goal.Target-dyn g (b.vtable, b.value)).seat b.value)) l.roster.slots);
}
