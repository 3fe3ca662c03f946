use Rattle.link_core.proofs.Making.{fresh_kept}
use Rattle.link_core.proofs.stepping.Words.fresh.Goals as goal

pub invariant_of-result : goal.invariant_of-result
invariant_of-result c = fresh_kept _ _ _ _ _ c.in-Ok.ensures.table c.in-Ok.ensures.long c.requires.rows c.requires.consumers c.requires.callers
