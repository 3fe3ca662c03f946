use Rattle.std.proofs.Common.{rules, ◌≡◌, ◌≤◌, ◌-◌, length, arith, subst}
use Rattle.row_order.specs.Order.{ranks}
use Rattle.kept_rows.specs.Keeping.{FirstNamed}
use Rattle.kept_rows.proofs.Finding.{named_none}
use Rattle.kept_rows.proofs.reads.find_named.Goals as goal

pub scanning-init : goal.scanning-init
scanning-init g c = record { inside = omega arith; best = named_none (ranks g.O.Ranking.by_key c.args.slots.now) c.args.slots.now c.args.id }

pub returns : goal.returns
returns g c =
    let i = c.scanning.invariant in
    let inside = i.inside in
    let end : length c.args.slots.now ≤ c.scanning.row = c.scanning-test.false in
    subst (λ (n : _). FirstNamed (ranks g.O.Ranking.by_key c.args.slots.now) c.args.slots.now c.args.id n c.scanning.best) (omega arith) i.best
