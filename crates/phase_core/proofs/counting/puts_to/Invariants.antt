use Rattle.std.proofs.Common.{◌≡◌, take}
use Rattle.std.specs.List.{sum_by}
use Rattle.workers_core.specs.Made.{puts_in}
use Rattle.phase_core.proofs.counting.puts_to.Given as goal

-- the lines of the actors so far were counted
abbrev pub invariant-actors : goal.invariant-actors
invariant-actors l = l.puts ≡ sum_by (λ a. puts_in l.queue a.1.items) (take l.actor-index l.actors)
