use Rattle.std.proofs.Common.{◌≡◌, ◌≤◌, ◌+◌, ◌*◌, drop}
use Rattle.target_core.specs.Seats.{sum_from, sum_of}
use Rattle.target_core.proofs.deliveries.sum.Given as goal

-- what was added and what is left make the sum; each addend is at most the last place times the greatest byte
abbrev pub invariant-loop-place : goal.invariant-loop-place
invariant-loop-place l =
    (l.sum + sum_from l.place (drop l.place l.body) ≡ sum_of l.body) × (l.sum ≤ l.place * 267386880)
