use Rattle.std.specs.Vec.{vec_len}
use Rattle.kept_rows.proofs.Starting.{Entering}
use Rattle.kept_rows.proofs.rows.KeptRows.enter_all.Given as goal

abbrev pub invariant-entering : goal.invariant-entering
invariant-entering g l = Entering g.C.Freight.goods l.fn.start.items l.waiting.items l.self

abbrev pub decreases-entering : goal.decreases-entering
decreases-entering g l = vec_len l.waiting
