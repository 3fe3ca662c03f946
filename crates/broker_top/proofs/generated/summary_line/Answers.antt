use Rattle.std.proofs.Common.{append_assoc, refl, ◌∙◌}
use Rattle.broker_top.proofs.generated.summary_line.Goals as goal

pub returns-in-Ok : goal.returns-in-Ok
returns-in-Ok c = c.in-Ok.ensures.ok ∙ simp append_assoc refl
