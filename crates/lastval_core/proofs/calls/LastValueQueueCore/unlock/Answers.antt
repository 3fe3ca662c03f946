use Rattle.lastval_core.proofs.Lasts.{lasts_settle, room_settle}
use Rattle.lastval_core.proofs.calls.LastValueQueueCore.unlock.Goals as goal

pub invariant_of-self : goal.invariant_of-self
invariant_of-self g c = (
  lasts_settle c.self.inside.rows c.unlock.new.self c.self.inside.lasts.items c.self.inside.outdated.items c.unlock.ensures.settles c.self.invariant.0,
  room_settle c.self.inside.rows c.unlock.new.self _ _ c.unlock.ensures.settles c.self.invariant.1,
)
