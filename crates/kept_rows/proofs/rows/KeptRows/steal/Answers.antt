use Rattle.std.proofs.Common.{rules, ◌≡◌, ◌≢◌, ◌<◌, ◌≤◌, ◌+◌, ◌-◌, ℕ, Bool, true, false, Option, Some, None, List, [], ◌∷◌, ◌++◌, length, get_or, set, sym, ap, ◌∙◌, subst, refl, arith}
use Rattle.queue_model.specs.declared.rows.RowState.TheVariants.{Available, Locked, Unlocked, Dequeued, Deleted}
use Rattle.kept_rows.specs.Rows.{kept_at, with_row, row_in, goods_in, less_deep}
use Rattle.acts_core.specs.Kept.{at_home}
use Rattle.kept_rows.proofs.Settling.{settles_row, settles_same}
use Rattle.kept_rows.proofs.Serving.{serves_stolen, serves_not_stolen, has_inside}
use Rattle.kept_rows.proofs.rows.KeptRows.steal.Goals as goal

pub state-state-requires : goal.state-state-requires
state-state-requires g c = let m = c.requires.may in has_inside c.args.self.now m.0 c.args.row m.1 m.2

pub returns-then-not-is_left : goal.returns-then-not-is_left
returns-then-not-is_left g c =
    let m = c.requires.may in
    let l = has_inside c.args.self.now m.0 c.args.row m.1 m.2 in
    let off : (j : ℕ) → (kept_at c.args.self.now c.args.row).state ≢ Unlocked j = λ j e. let bad : false ≡ true = sym c.if-not-is_left.true ∙ c.is_left.ensures.1 (j, c.state-state.ensures ∙ e) in absurd (cc) in
    record { serves = rw c.state-state.ensures (serves_not_stolen g.O.Ranking.by_key c.args.self.now c.args.caller c.args.row l off); settles = settles_same c.args.self.now }

pub take_out-requires : goal.take_out-requires
take_out-requires g c =
    let m = c.requires.may in
    let left = c.is_left.ensures.0 c.if-not-is_left.false in
    record { row = has_inside c.args.self.now m.0 c.args.row m.1 m.2; home = ap at_home (sym c.state-state.ensures ∙ left.1) }

pub returns : goal.returns
returns g c =
    let m = c.requires.may in
    let k = c.args.self.now in
    let l = has_inside c.args.self.now m.0 c.args.row m.1 m.2 in
    let left = c.is_left.ensures.0 c.if-not-is_left.false in
    record {
      serves = rw c.take_out.ensures.kept (serves_stolen g.O.Ranking.by_key k c.args.caller c.args.row left.0 (g.C.Freight.goods c.take_out.result) l (sym c.state-state.ensures ∙ left.1) c.take_out.ensures.came);
      settles = rw c.take_out.ensures.kept (settles_row k k.depth c.args.row (Locked c.args.caller) None l (λ e. absurd (cc)));
    }
