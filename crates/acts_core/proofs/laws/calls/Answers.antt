use Rattle.acts_core.proofs.Finding.{call_rows, call_finds}
use Rattle.acts_core.proofs.Forgetting.{forgets}
use Rattle.acts_core.proofs.Gaining.{call_gains}
use Rattle.acts_core.proofs.Lasts.{call_dequeues, call_leaves, call_passes}
use Rattle.acts_core.proofs.Sparing.{call_spares}
use Rattle.acts_core.proofs.laws.calls.Goals as goal

pub returns-clause-forgets : goal.returns-clause-forgets
returns-clause-forgets c = forgets

pub returns-clause-spares : goal.returns-clause-spares
returns-clause-spares c = call_spares

pub returns-clause-gains : goal.returns-clause-gains
returns-clause-gains c = call_gains

pub returns-clause-dequeues : goal.returns-clause-dequeues
returns-clause-dequeues c = call_dequeues

pub returns-clause-leaves : goal.returns-clause-leaves
returns-clause-leaves c = call_leaves

pub returns-clause-passes : goal.returns-clause-passes
returns-clause-passes c = call_passes

pub returns-clause-rows : goal.returns-clause-rows
returns-clause-rows c = call_rows

pub returns-clause-finds : goal.returns-clause-finds
returns-clause-finds c = call_finds
