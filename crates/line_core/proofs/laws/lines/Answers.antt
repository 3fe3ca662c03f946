use Rattle.line_core.proofs.Holding.{got_is_held}
use Rattle.line_core.proofs.LineLists.{calls_append, fits_append}
use Rattle.line_core.proofs.laws.lines.Goals as goal

pub returns : goal.returns
returns c = record { calls_append = calls_append; fits_append = fits_append; got_is_held = got_is_held }
