use Rattle.std.proofs.Common.{◌≡◌, ◌≤◌, ◌++◌, vec_len, vec_capacity, drop, length}
use Rattle.std.specs.List.{flat_map}
use Rattle.std.specs.Option.{option_to_list}
use Rattle.target_core.proofs.rosters.Roster.finish.Given as goal

-- the targets that were put back, and those of the places that are left, are all that stand
abbrev pub invariant-loop-i : goal.invariant-loop-i
invariant-loop-i g l =
    (l.targets.items ++ flat_map option_to_list (drop l.i l.slots) ≡ flat_map option_to_list l.fn.self.slots)
    × (vec_len l.targets ≤ l.i)
    × (64 ≤ vec_capacity l.targets)
    × (length l.slots ≡ 64)
