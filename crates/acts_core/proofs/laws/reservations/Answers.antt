use Rattle.acts_core.proofs.Reserving.{call_reserved, call_reserves, reserved_small}
use Rattle.acts_core.proofs.laws.reservations.Goals as goal

pub returns-clause-reserved : goal.returns-clause-reserved
returns-clause-reserved c = call_reserved

pub returns-clause-reserves : goal.returns-clause-reserves
returns-clause-reserves c = call_reserves

pub returns-clause-small : goal.returns-clause-small
returns-clause-small c = reserved_small
