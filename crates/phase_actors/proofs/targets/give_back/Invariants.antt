use Rattle.std.proofs.Common.{◌≡◌, ℕ, map, vec_len}
use Rattle.std.specs.Option.{option_map}
use Rattle.target_core.specs.Seats.{seat_at}
use Rattle.phase_actors.specs.Targets.{all_back}
use Rattle.phase_actors.proofs.targets.give_back.Given as goal

-- the last actors gave their targets back, and the others still have theirs
abbrev pub invariant-actors : goal.invariant-actors
invariant-actors g l =
    (c : ℕ) → all_back c
    (seat_at (map (option_map (λ b. (goal.Target-dyn g (b.vtable, b.value)).seat b.value)) l.roster.slots) c)
    (map (λ a. map (option_map (λ b. (goal.Target-dyn g (b.vtable, b.value)).seat b.value)) a.roster.slots) l.actors.items)
    ≡ all_back c
    (seat_at (map (option_map (λ b. (goal.Target-dyn g (b.vtable, b.value)).seat b.value)) l.fn.roster.slots) c)
    (map (λ a. map (option_map (λ b. (goal.Target-dyn g (b.vtable, b.value)).seat b.value)) a.roster.slots) l.fn.actors.items)

abbrev pub decreases-actors : goal.decreases-actors
decreases-actors g l = vec_len l.actors
