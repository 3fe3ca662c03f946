use Rattle.std.proofs.Common.{rules, ◌≡◌, ◌≢◌, ◌<◌, ◌≤◌, ◌+◌, ◌-◌, ℕ, Bool, true, false, Option, Some, None, List, [], ◌∷◌, ◌++◌, length, get_or, set, sym, ap, ◌∙◌, subst, refl, arith}
use Rattle.kept_rows.specs.Keeping.{Lives}
use Rattle.row_order.specs.Order.{ranks}
use Rattle.kept_rows.proofs.Waking.{lives_of, awake_same}
use Rattle.kept_rows.proofs.rest.list_live.Goals as goal

pub returns : goal.returns
returns g c =
    lives_of (ranks g.O.Ranking.by_key c.args.slots.now) c.args.slots.now c.args.width c.crown.new.nodes c.drain.new.order.items c.requires.width.1 c.crown.ensures.tree
    (awake_same c.args.slots.now c.args.width (length c.args.slots.now) c.wake.new.nodes c.crown.new.nodes c.crown.ensures.same c.wake.ensures.awake) c.drain.ensures.drained
