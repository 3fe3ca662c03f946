use Rattle.std.proofs.Common.{◌≡◌, length}
use Rattle.selector_read.specs.Reading.{settle}
use Rattle.selector_read.specs.Trees.{tree_of}
use Rattle.selector_read.proofs.begun.Forms.settle.Given as goal

abbrev pub invariant-loop-form : goal.invariant-loop-form
invariant-loop-form l = settle l.least l.self (tree_of l.expr) ≡ settle l.fn.least l.fn.self (tree_of l.fn.expr)

abbrev pub decreases-loop-form : goal.decreases-loop-form
decreases-loop-form l = length l.self
