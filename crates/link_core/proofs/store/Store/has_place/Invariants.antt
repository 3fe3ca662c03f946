use Rattle.std.proofs.Common.{ℕ, ◌<◌}
use Rattle.link_core.specs.Kept.{table_in}
use Rattle.link_core.specs.Steps.{IsLinkedAt}
use Rattle.link_core.proofs.store.Store.has_place.Given as goal

-- no row so far is linked there
abbrev pub invariant-loop-row : goal.invariant-loop-row
invariant-loop-row l = (r : ℕ) → r < l.row → IsLinkedAt (table_in l.fn.self) l.fn.list l.fn.place r → ⊥
