use Rattle.std.proofs.Common.{◌≡◌, ◌≤◌, ◌++◌, vec_len, vec_capacity, drop, length, map, Some}
use Rattle.target_core.proofs.rosters.Roster.of.Given as goal

-- the targets that are left, and the last places, which are filled, make all targets
abbrev pub invariant-loop-i : goal.invariant-loop-i
invariant-loop-i g l =
    (map Some l.spare.items ++ drop l.i l.slots ≡ map Some l.fn.targets.items)
    × (vec_len l.spare ≡ l.i)
    × (64 ≤ vec_capacity l.spare)
    × (length l.slots ≡ 64)
