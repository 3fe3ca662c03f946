use Rattle.acts_core.proofs.Passes.{same_pass, same_plan, pass_gains, pass_hands, pass_leaves, pass_dequeues, pass_keeps, pass_rows, pass_finds, pass_reserved, pass_reserves}
use Rattle.acts_core.proofs.laws.passes.Goals as goal

pub returns-clause-stays : goal.returns-clause-stays
returns-clause-stays c = same_pass

pub returns-clause-plan : goal.returns-clause-plan
returns-clause-plan c = same_plan

pub returns-clause-gains : goal.returns-clause-gains
returns-clause-gains c = pass_gains

pub returns-clause-hands : goal.returns-clause-hands
returns-clause-hands c = pass_hands

pub returns-clause-leaves : goal.returns-clause-leaves
returns-clause-leaves c = pass_leaves

pub returns-clause-dequeues : goal.returns-clause-dequeues
returns-clause-dequeues c = pass_dequeues

pub returns-clause-keeps : goal.returns-clause-keeps
returns-clause-keeps c = pass_keeps

pub returns-clause-rows : goal.returns-clause-rows
returns-clause-rows c = pass_rows

pub returns-clause-finds : goal.returns-clause-finds
returns-clause-finds c = pass_finds

pub returns-clause-reserved : goal.returns-clause-reserved
returns-clause-reserved c = pass_reserved

pub returns-clause-reserves : goal.returns-clause-reserves
returns-clause-reserves c = pass_reserves
