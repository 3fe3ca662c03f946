use Rattle.std.proofs.Common.{rules, ◌≡◌, ◌≢◌, ◌<◌, ◌≤◌, ◌+◌, ◌-◌, ◌/◌, ℕ, Bool, true, false, Option, Some, None, List, [], ◌∷◌, ◌++◌, length, get_or, set, map, sym, ap, ◌∙◌, subst, refl, arith}
use Rattle.acts_core.specs.Kept.{Kept, Stands}
use Rattle.acts_core.specs.Calls.{CallRelease, IsReleased, IsOutdated}
use Rattle.acts_core.specs.Serves.{MayCall, Serves}
use Rattle.acts_core.specs.Sight as sight
use Rattle.std.proofs.lemmas.List.{length-set}
use Rattle.kept_rows.specs.Rows.{kept_at, goods_in, row_in}
use Rattle.queue_model.specs.declared.rows.RowState.TheVariants.{Available}
use Rattle.kept_rows.proofs.Keeping.{get_or_any}
use Rattle.lastval_core.specs.Lasts.{HasLater, KeepsLast}
use Rattle.lastval_core.proofs.Lasts.{lasts_release}
use Rattle.lastval_core.proofs.Releasing.{held_inside, served_outdated, served_released}
use Rattle.lastval_core.proofs.calls.LastValueQueueCore.release.Goals as goal

pub index-requires : goal.index-requires
index-requires g c =
    let k = c.self.inside.rows in
    let inv = c.self.invariant.0 in
    let l = held_inside c.self.inside.rows c.args.caller c.args.row (g.C.Cargo.load c.args.cargo) (subst (λ (z : Kept). MayCall z c.args.caller (CallRelease c.args.row (g.C.Cargo.load c.args.cargo))) (sym c.self.view_is) c.requires.may) in
    let long = inv.long in
    let ok = c.self.inside.outdated.ok.0 in
    omega arith

pub returns-then-index : goal.returns-then-index
returns-then-index g c =
    let k = c.self.inside.rows in
    let inv = c.self.invariant.0 in
    let l = held_inside c.self.inside.rows c.args.caller c.args.row (g.C.Cargo.load c.args.cargo) (subst (λ (z : Kept). MayCall z c.args.caller (CallRelease c.args.row (g.C.Cargo.load c.args.cargo))) (sym c.self.view_is) c.requires.may) in
    let long = inv.long in
    let inside : c.args.row < length c.self.inside.outdated.items = omega arith in
    let mark : c.index.result.now ≡ get_or c.self.inside.outdated.items c.args.row false = c.index.ensures ∙ get_or_any c.self.inside.outdated.items c.args.row _ false inside in
    let later = (inv.marked c.args.row l).0 (sym mark ∙ c.if-index.true) in
    record { serves = (0, subst (λ (z : Kept). Serves sight.LastValue z z c.args.caller (CallRelease c.args.row (g.C.Cargo.load c.args.cargo)) (IsOutdated (g.C.Cargo.load c.args.cargo))) c.self.view_is (served_outdated c.self.inside.rows c.args.caller c.args.row (g.C.Cargo.load c.args.cargo) l later)) }

pub returns : goal.returns
returns g c =
    let k = c.self.inside.rows in
    let inv = c.self.invariant.0 in
    let l = held_inside c.self.inside.rows c.args.caller c.args.row (g.C.Cargo.load c.args.cargo) (subst (λ (z : Kept). MayCall z c.args.caller (CallRelease c.args.row (g.C.Cargo.load c.args.cargo))) (sym c.self.view_is) c.requires.may) in
    let long = inv.long in
    let inside : c.args.row < length c.self.inside.outdated.items = omega arith in
    let mark : c.index.result.now ≡ get_or c.self.inside.outdated.items c.args.row false = c.index.ensures ∙ get_or_any c.self.inside.outdated.items c.args.row _ false inside in
    let off : ¬ (HasLater c.self.inside.rows c.args.row) = λ h. let bad : true ≡ false = sym ((inv.marked c.args.row l).1 h) ∙ (sym mark ∙ c.if-index.false) in absurd (cc) in
    record {
      serves = (
        (kept_at c.self.inside.rows c.args.row).slip.mask,
        subst (λ (z : Kept). Serves sight.LastValue z c.release.new.self c.args.caller (CallRelease c.args.row (g.C.Cargo.load c.args.cargo)) (IsReleased (kept_at c.self.inside.rows c.args.row).slip.mask)) c.self.view_is
            (served_released c.self.inside.rows c.release.new.self c.args.caller c.args.row (kept_at c.self.inside.rows c.args.row).slip.mask (g.C.Cargo.load c.args.cargo) l off c.release.ensures.serves),
      );
    }

pub invariant_of-self : goal.invariant_of-self
invariant_of-self g c =
    let k = c.self.inside.rows in
    let inv = c.self.invariant.0 in
    let l = held_inside c.self.inside.rows c.args.caller c.args.row (g.C.Cargo.load c.args.cargo) (subst (λ (z : Kept). MayCall z c.args.caller (CallRelease c.args.row (g.C.Cargo.load c.args.cargo))) (sym c.self.view_is) c.requires.may) in
    let long = inv.long in
    let inside : c.args.row < length c.self.inside.outdated.items = omega arith in
    let mark : c.index.result.now ≡ get_or c.self.inside.outdated.items c.args.row false = c.index.ensures ∙ get_or_any c.self.inside.outdated.items c.args.row _ false inside in
    let off : ¬ (HasLater c.self.inside.rows c.args.row) = λ h. let bad : true ≡ false = sym ((inv.marked c.args.row l).1 h) ∙ (sym mark ∙ c.if-index.false) in absurd (cc) in
    let kept = c.release.ensures.kept in
    let row = row_in Available (Some (goods_in (g.C.Cargo.load c.args.cargo))) (kept_at c.self.inside.rows c.args.row) in
    let rows : length c.release.new.self.rows ≡ length c.self.inside.rows.rows = ap (λ (z : Kept). length z.rows) kept ∙ length-set c.self.inside.rows.rows c.args.row (row_in Available (Some (goods_in (g.C.Cargo.load c.args.cargo))) (kept_at c.self.inside.rows c.args.row)) in
    let spare : c.release.new.self.spare ≡ c.self.inside.rows.spare = ap (λ (z : Kept). z.spare) kept in
    let a = c.self.invariant.1.lasts_fit in
    let b = c.self.invariant.1.marks_fit in (
      subst (λ (z : Kept). KeepsLast z c.self.inside.lasts.items c.self.inside.outdated.items) (sym kept) (lasts_release c.self.inside.rows c.self.inside.lasts.items c.self.inside.outdated.items c.args.row (Some (goods_in (g.C.Cargo.load c.args.cargo))) l off inv),
      record { lasts_fit = omega arith; marks_fit = omega arith },
    )
