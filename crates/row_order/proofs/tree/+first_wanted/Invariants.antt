use Rattle.std.proofs.Common.{◌-◌, ◌*◌}
use Rattle.row_order.proofs.tree.+first_wanted.Given as goal

abbrev pub decreases-first_wanted : goal.decreases-first_wanted
decreases-first_wanted g l = 2 * l.width - l.node
