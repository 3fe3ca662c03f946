use Rattle.std.proofs.Common.{sym, ◌∙◌}
use Rattle.std.specs.Str.{chars}
use Rattle.selector_eval.specs.Patterns.{fits}
use Rattle.selector_eval.proofs.PatternTests.{some_here}
use Rattle.selector_eval.proofs.patterns.fits_somewhere.Goals as goal

pub returns-in-Fits : goal.returns-in-Fits
returns-in-Fits c = sym (c.loop-rest.invariant.2 ∙ some_here (fits c.args.escape (chars c.loop-rest.pattern.now)) (chars c.loop-rest.text.now) c.in-Fits.ensures)
