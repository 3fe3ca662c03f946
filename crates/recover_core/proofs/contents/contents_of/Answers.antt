use Rattle.std.proofs.Common.{◌∙◌}
use Rattle.recover_core.proofs.Passes.{before_all, recovered}
use Rattle.recover_core.proofs.contents.contents_of.Goals as goal

pub live_of-requires : goal.live_of-requires
live_of-requires c = before_all c.requires.0 c.args.batches.commits c.args.batches.read.items c.requires.1

pub returns-in-Ok : goal.returns-in-Ok
returns-in-Ok c = λ bytes are. recovered bytes c.args.batches.commits c.args.batches.read.items c.from_vec.result are (c.from_vec.ensures ∙ c.in-Ok.ensures)
