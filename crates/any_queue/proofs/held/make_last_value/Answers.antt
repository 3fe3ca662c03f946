use Rattle.std.proofs.Common.{refl, sym, subst, arith}
use Rattle.acts_core.specs.Sight as kinds
use Rattle.held_table.specs.Sights.{build_by, sight}
use Rattle.any_queue.specs.Parting.{IsFresh}
use Rattle.any_queue.proofs.Starting.{fresh_grown, opens_grown, start_held}
use Rattle.any_queue.proofs.held.make_last_value.Goals as goal

pub make-requires-clause-start : goal.make-requires-clause-start
make-requires-clause-start g c = start_held g.C.Cargo.load kinds.LastValue c.args.consumers c.args.start.items c.requires.consumers c.requires.start

pub make-requires-in-Ok-clause-opening : goal.make-requires-in-Ok-clause-opening
make-requires-in-Ok-clause-opening g c =
    opens_grown g.C.Cargo.load kinds.LastValue c.args.consumers _ c.args.start.items c.in_ok-core.core c.grow.new.self c.in_ok-core.ensures c.in-Ok.ensures.ok c.requires.start

pub returns-in_ok-boxed-in-Ok-clause-fresh : goal.returns-in_ok-boxed-in-Ok-clause-fresh
returns-in_ok-boxed-in-Ok-clause-fresh g c =
    let long = c.len.ensures in
    let ok = c.args.start.ok in
    let room = c.requires.room in
    let boss = c.in_ok-held-in-Ok.boss in
    subst (λ h. IsFresh g.C.Cargo.load kinds.LastValue 1 c.args.rows c.args.consumers c.args.start.items (build_by kinds.LastValue h) (sight boss)) (sym c.in_ok-boxed-in-Ok.ensures)
    (fresh_grown g.C.Cargo.load kinds.LastValue c.args.consumers _ c.args.start.items c.in_ok-core.core c.grow.new.self c.in_ok-core.ensures c.in-Ok.ensures.ok c.requires.start
    c.args.rows (build_by kinds.LastValue c.in_ok-held-in-Ok.held) (sight boss) refl (omega (arith, long, ok, room)) c.in_ok-held-in-Ok.ensures.fresh)
