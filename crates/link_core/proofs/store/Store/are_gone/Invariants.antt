use Rattle.std.proofs.Common.{ℕ, ◌<◌}
use Rattle.link_core.specs.Kept.{table_in}
use Rattle.link_core.specs.Steps.{IsGoneBetween}
use Rattle.link_core.proofs.store.Store.are_gone.Given as goal

-- each row so far is deleted, if it is linked and comes between the two
abbrev pub invariant-loop-row : goal.invariant-loop-row
invariant-loop-row l = (r : ℕ) → r < l.row → IsGoneBetween (table_in l.fn.self) l.fn.from l.fn.to r
