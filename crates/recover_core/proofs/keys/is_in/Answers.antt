use Rattle.std.proofs.Common.{◌∙◌}
use Rattle.recover_core.proofs.KeySets.{has_is}
use Rattle.recover_core.proofs.keys.is_in.Goals as goal

pub returns : goal.returns
returns c = c.contains.ensures ∙ has_is c.args.gone.now c.args.key.now
