use Rattle.std.proofs.Common.{sym, ◌∙◌}
use Rattle.link_core.proofs.Packing.{none_rung, some_rung}
use Rattle.link_core.proofs.places.bell_row.Goals as goal

pub returns-then-word-eq-NO_BELL : goal.returns-then-word-eq-NO_BELL
returns-then-word-eq-NO_BELL c = λ bell low e. none_rung bell low (sym c.if-word-eq-NO_BELL.true ∙ e)

pub returns-else-word-eq-NO_BELL : goal.returns-else-word-eq-NO_BELL
returns-else-word-eq-NO_BELL c = λ bell low e. some_rung bell _ low c.if-word-eq-NO_BELL.false e
