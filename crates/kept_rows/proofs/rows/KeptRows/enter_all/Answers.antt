use Rattle.std.proofs.Common.{rules, ◌≡◌, ◌≢◌, ◌<◌, ◌≤◌, ◌+◌, ◌-◌, ℕ, Bool, true, false, Option, Some, None, List, [], ◌∷◌, ◌++◌, length, get_or, set, sym, ap, ◌∙◌, subst, refl, arith}
use Rattle.std.proofs.Common.{reverse}
use Rattle.acts_core.specs.Kept.{Kept}
use Rattle.kept_rows.specs.Starting.{room_for}
use Rattle.kept_rows.proofs.Starting.{Entering, entering_begins, entering_next, entering_ends, turned_items, no_items}
use Rattle.kept_rows.proofs.rows.KeptRows.enter_all.Goals as goal

pub entering-init : goal.entering-init
entering-init g c =
    let turned = turned_items c.args.start.items c.reverse.new.self c.args.start.len (sym c.args.start.ok.0) (c.reverse.ensures.after ∙ ap reverse c.as_mut_slice.ensures.value) in
    let few = c.requires.few in
    let ok = c.args.start.ok.0 in
    entering_begins g.C.Freight.goods c.args.start.items _ c.args.self.now turned c.requires.start (omega arith) (c.requires.empty ∙ ap room_for ok)

pub enter-requires : goal.enter-requires
enter-requires g c =
    let n = entering_next g.C.Freight.goods c.args.start.items c.entering.waiting.items c.pop.new.self.items c.entering.self c.in-Some.slip c.in-Some.cargo c.in-Some.ensures.items c.entering.invariant in
    record { start = n.may; few = n.few; small = n.small; spare = n.spare }

pub entering-preserved : goal.entering-preserved
entering-preserved g c =
    let n = entering_next g.C.Freight.goods c.args.start.items c.entering.waiting.items c.pop.new.self.items c.entering.self c.in-Some.slip c.in-Some.cargo c.in-Some.ensures.items c.entering.invariant in
    subst (λ (k : Kept). Entering g.C.Freight.goods c.args.start.items c.pop.new.self.items k) (sym c.enter.ensures) n.goes

pub returns : goal.returns
returns g c =
    let e = c.in_default.ensures in
    let ok = c.entering.waiting.ok.0 in
    let none : c.entering.waiting.items ≡ [] = no_items c.entering.waiting.items (sym ok ∙ e.cases.0) in
    let r = entering_ends g.C.Freight.goods c.args.start.items c.entering.waiting.items c.entering.self none c.entering.invariant in
    record { entered = r.0; spare = r.1 }
