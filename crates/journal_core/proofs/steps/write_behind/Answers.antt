use Rattle.journal_core.specs.Stands.{IsEither}
use Rattle.journal_core.proofs.Moments.{over_then, extends_then}
use Rattle.journal_core.proofs.steps.write_behind.Goals as goal

pub returns-in-Ok-open_gate-clause-moments : goal.returns-in-Ok-open_gate-clause-moments
returns-in-Ok-open_gate-clause-moments g c C A B s is =
    over_then g.D.Disk.moment g.D.Disk.since c.args.disk.now c.stage.new.disk c.open_gate.new.disk (IsEither C B) (c.stage.ensures.moments C A B s is) (c.open_gate.ensures.moments C B (c.in-Ok.ensures.ok C A B s is))

pub returns-in-Ok-open_gate-clause-gives : goal.returns-in-Ok-open_gate-clause-gives
returns-in-Ok-open_gate-clause-gives g c C A B s is = c.in-Ok-open_gate.ensures.gives C B (c.in-Ok.ensures.ok C A B s is)

pub returns-in-Ok-open_gate-clause-trail : goal.returns-in-Ok-open_gate-clause-trail
returns-in-Ok-open_gate-clause-trail g c = extends_then _ _ _ c.stage.ensures.trail c.open_gate.ensures.trail

pub returns-in-Err-open_gate-clause-moments : goal.returns-in-Err-open_gate-clause-moments
returns-in-Err-open_gate-clause-moments g c C A B s is =
    over_then g.D.Disk.moment g.D.Disk.since c.args.disk.now c.stage.new.disk c.open_gate.new.disk (IsEither C B) (c.stage.ensures.moments C A B s is) (c.open_gate.ensures.moments C B (c.in-Ok.ensures.ok C A B s is))

pub returns-in-Err-open_gate-clause-trail : goal.returns-in-Err-open_gate-clause-trail
returns-in-Err-open_gate-clause-trail g c = extends_then _ _ _ c.stage.ensures.trail c.open_gate.ensures.trail
