use Rattle.stage_core.proofs.Rooms.{gone_fits}
use Rattle.stage_core.proofs.laws.gone_fits.Goals as goal

pub returns : goal.returns
returns c = gone_fits
