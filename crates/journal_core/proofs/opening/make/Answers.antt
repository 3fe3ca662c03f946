use Rattle.journal_core.proofs.Moments.{extends_then}
use Rattle.journal_core.proofs.opening.make.Goals as goal

pub returns-then-len-eq0-clause-trail : goal.returns-then-len-eq0-clause-trail
returns-then-len-eq0-clause-trail g c = extends_then _ _ _ c.len.ensures.trail c.write_first.ensures.trail
