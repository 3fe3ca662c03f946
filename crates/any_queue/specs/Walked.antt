-- what calls of next walked
use Rattle.std.specs.Prelude.{ℕ}
use Rattle.acts_core.specs.declared.cargoes.Next.{Next}
use Rattle.entry_table.specs.Sights.{sight}
use Rattle.cursor_core.specs.Holding.{WalksFrom}
use Rattle.any_queue.specs.declared.kinds.AnyPass.{AnyPass}
use Rattle.any_queue.specs.declared.kinds.AnyPass.TheVariants as passes
use Rattle.any_queue.specs.declared.kinds.ListedPass.{ListedPass}

-- A call of next on a standard or priority queue went on from the consumer's cursor in the pass, with few steps on states and
-- on links, and at least one on a state where it got a row.
abbrev pub WalksListed : {C : Type 0} → ListedPass → ListedPass → ℕ → Next C → Type 0
WalksListed old new c result = WalksFrom (sight old.pass) (sight new.pass) c old.cursors.slots new.cursors.slots result

-- the same of any queue: on a held queue nothing is walked
abbrev pub WalksAny : {C : Type 0} → AnyPass → AnyPass → ℕ → Next C → Type 0
WalksAny (passes.Listed old) (passes.Listed new) c result = WalksListed old new c result
WalksAny (passes.Held old) (passes.Held new) c result = Unit {0}
WalksAny old new c result = ⊥
