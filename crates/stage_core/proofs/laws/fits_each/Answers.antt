use Rattle.stage_core.proofs.Rooms.{fits_each}
use Rattle.stage_core.proofs.laws.fits_each.Goals as goal

pub returns : goal.returns
returns c = fits_each
