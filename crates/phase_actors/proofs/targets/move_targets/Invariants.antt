use Rattle.std.proofs.Common.{map}
use Rattle.std.specs.Option.{option_map}
use Rattle.phase_actors.proofs.Moving.{Moving}
use Rattle.phase_actors.proofs.targets.move_targets.Given as goal

-- the targets that the first lines name were moved
abbrev pub invariant-lines : goal.invariant-lines
invariant-lines g l =
    Moving l.op-index l.ops
    (map (option_map (λ b. (goal.Target-dyn g (b.vtable, b.value)).seat b.value)) l.fn.from.slots)
    (map (option_map (λ b. (goal.Target-dyn g (b.vtable, b.value)).seat b.value)) l.from.slots)
    (map (option_map (λ b. (goal.Target-dyn g (b.vtable, b.value)).seat b.value)) l.to.slots)
