use Rattle.queue_model.proofs.Orders.{precedes_total, precedes_not, precedes_trans, older_total, older_not, older_trans, arrival_same, place_same}
use Rattle.queue_model.proofs.laws.order.Goals as goal

pub returns-clause-total : goal.returns-clause-total
returns-clause-total c = precedes_total

pub returns-clause-itself : goal.returns-clause-itself
returns-clause-itself c = precedes_not

pub returns-clause-trans : goal.returns-clause-trans
returns-clause-trans c = precedes_trans

pub returns-clause-older_total : goal.returns-clause-older_total
returns-clause-older_total c = older_total

pub returns-clause-older_itself : goal.returns-clause-older_itself
returns-clause-older_itself c = older_not

pub returns-clause-older_trans : goal.returns-clause-older_trans
returns-clause-older_trans c = older_trans

pub returns-clause-arrival : goal.returns-clause-arrival
returns-clause-arrival c = arrival_same

pub returns-clause-place : goal.returns-clause-place
returns-clause-place c = place_same
