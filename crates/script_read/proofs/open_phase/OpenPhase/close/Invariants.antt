use Rattle.std.proofs.Common.{◌≡◌, ◌++◌, map}
use Rattle.script_read.proofs.Actors.{seen}
use Rattle.script_read.proofs.open_phase.OpenPhase.close.Given as goal

-- the actors that were moved, and those that are left
abbrev pub invariant-loop-name : goal.invariant-loop-name
invariant-loop-name l = map (λ actor. (actor.0, actor.1.items)) l.closed.items ++ seen l.name-iterator ≡ seen l.fn.self.actors.entries
