use Rattle.std.proofs.Common.{None}
use Rattle.cursor_core.proofs.Slots.{none_in}
use Rattle.cursor_core.proofs.handing.no_cursors.Goals as goal

pub returns-clause-none : goal.returns-clause-none
returns-clause-none c = none_in c.from_fn.result 64 c.from_fn.ensures.items.long (λ k within. (c.from_fn.ensures.items.at k None within).2.met)
