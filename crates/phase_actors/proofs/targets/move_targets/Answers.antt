use Rattle.std.proofs.Common.{sym, ◌∙◌}
use Rattle.phase_actors.proofs.Moving.{moved_more, moved_none}
use Rattle.phase_actors.proofs.targets.move_targets.Goals.{in-Some, in_default}
use Rattle.phase_actors.proofs.targets.move_targets.Goals as goal

pub lines-preserved : goal.lines-preserved
lines-preserved g c = elim c.match-consumer_of.branch [
  | in-Some w ↦ rw (w.from-is, w.to-is) (moved_more _ _ c.op-item.result w.in-Some.consumer _ _ _ _ _ c.lines-test.true c.op-item.is (sym c.consumer_of.ensures ∙ w.in-Some.is) c.lines.invariant w.move_target.ensures)
  | in_default w ↦ rw (w.from-is, w.to-is) (moved_none _ _ c.op-item.result _ _ _ c.lines-test.true c.op-item.is (sym c.consumer_of.ensures ∙ w.in_default.is) c.lines.invariant)
]
