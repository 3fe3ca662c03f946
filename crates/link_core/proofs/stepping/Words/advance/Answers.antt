use Rattle.link_core.proofs.Lawful.{kept_advanced}
use Rattle.link_core.proofs.stepping.Words.advance.Goals as goal

pub invariant_of-self : goal.invariant_of-self
invariant_of-self c = kept_advanced _ _ _ _ _ c.self.invariant c.advance.ensures.long c.advance.ensures.advances
