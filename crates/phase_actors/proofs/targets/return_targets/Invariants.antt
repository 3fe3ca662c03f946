use Rattle.std.proofs.Common.{map}
use Rattle.std.specs.Option.{option_map}
use Rattle.phase_actors.proofs.Moving.{Returning}
use Rattle.phase_actors.proofs.targets.return_targets.Given as goal

-- the targets of the first consumers are back, and those of the others are where they were
abbrev pub invariant-consumers : goal.invariant-consumers
invariant-consumers g l =
    Returning l.consumer
    (map (option_map (λ b. (goal.Target-dyn g (b.vtable, b.value)).seat b.value)) l.fn.from.slots)
    (map (option_map (λ b. (goal.Target-dyn g (b.vtable, b.value)).seat b.value)) l.fn.to.slots)
    (map (option_map (λ b. (goal.Target-dyn g (b.vtable, b.value)).seat b.value)) l.from.slots)
    (map (option_map (λ b. (goal.Target-dyn g (b.vtable, b.value)).seat b.value)) l.to.slots)
