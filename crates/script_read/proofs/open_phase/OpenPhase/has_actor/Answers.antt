use Rattle.std.proofs.Common.{◌∙◌}
use Rattle.script_read.proofs.Actors.{in_table}
use Rattle.script_read.proofs.open_phase.OpenPhase.has_actor.Goals as goal

pub returns : goal.returns
returns c = c.is_some.ensures ∙ c.get_index_of.ensures.found ∙ in_table c.args.name.now c.args.self.now.actors.entries
