use Rattle.plain_queue.proofs.FirstInOrder.{first_in_order}
use Rattle.plain_queue.proofs.laws.first_in_order.Goals as goal

pub returns : goal.returns
returns c = first_in_order
