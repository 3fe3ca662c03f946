use Rattle.std.proofs.Common.{ap, not, ◌∙◌}
use Rattle.message_core.proofs.NameSets.{has_is, holds_more}
use Rattle.message_core.proofs.names.add_name.Goals as goal

pub returns-in-Ok-clause-added : goal.returns-in-Ok-clause-added
returns-in-Ok-clause-added c = λ ns holds.
    c.in-Ok.ensures.added ∙ ap not (has_is c.args.name.now c.args.taken.now.keys ∙ holds c.args.name.now)

pub returns-in-Ok-clause-holds : goal.returns-in-Ok-clause-holds
returns-in-Ok-clause-holds c = λ ns holds q.
    holds_more c.args.name.now c.args.taken.now.keys c.insert.new.self.keys ns holds c.in-Ok.ensures.updates.0 q
