use Rattle.std.proofs.Common.{rules, ◌≡◌, ◌≢◌, ◌<◌, ◌≤◌, ◌+◌, ◌-◌, ℕ, Bool, true, false, Option, Some, None, List, [], ◌∷◌, ◌++◌, length, get_or, set, sym, ap, ◌∙◌, subst, refl, arith}
use Rattle.queue_model.specs.declared.rows.RowState.TheVariants.{Available, Locked, Unlocked, Dequeued, Deleted}
use Rattle.kept_rows.specs.Rows.{kept_at, with_row, row_in, goods_in, less_deep}
use Rattle.acts_core.specs.Kept.{at_home}
use Rattle.kept_rows.proofs.Settling.{settles_row, settles_same}
use Rattle.kept_rows.proofs.Serving.{serves_locked, serves_not_locked, has_inside}
use Rattle.kept_rows.proofs.rows.KeptRows.lock.Goals as goal

pub state-state-requires : goal.state-state-requires
state-state-requires g c = let m = c.requires.may in has_inside c.args.self.now m.0 c.args.row m.1 m.2

pub returns-then-not-is_left_by : goal.returns-then-not-is_left_by
returns-then-not-is_left_by g c =
    let m = c.requires.may in
    let l = has_inside c.args.self.now m.0 c.args.row m.1 m.2 in
    let off : (kept_at c.args.self.now c.args.row).state ≢ Unlocked c.args.caller = λ e. let bad : false ≡ true = sym c.if-not-is_left_by.true ∙ c.is_left_by.ensures.1 (c.state-state.ensures ∙ e) in absurd (cc) in
    record { serves = rw c.state-state.ensures (serves_not_locked g.O.Ranking.by_key c.args.self.now c.args.caller c.args.row l off); settles = settles_same c.args.self.now }

pub take_out-requires : goal.take_out-requires
take_out-requires g c =
    let m = c.requires.may in
    let left : (kept_at c.args.self.now c.args.row).state ≡ Unlocked c.args.caller = sym c.state-state.ensures ∙ c.is_left_by.ensures.0 c.if-not-is_left_by.false in
    record { row = has_inside c.args.self.now m.0 c.args.row m.1 m.2; home = ap at_home left }

pub returns : goal.returns
returns g c =
    let m = c.requires.may in
    let k = c.args.self.now in
    let l = has_inside c.args.self.now m.0 c.args.row m.1 m.2 in
    let left : (kept_at c.args.self.now c.args.row).state ≡ Unlocked c.args.caller = sym c.state-state.ensures ∙ c.is_left_by.ensures.0 c.if-not-is_left_by.false in
    record {
      serves = rw c.take_out.ensures.kept (serves_locked g.O.Ranking.by_key k c.args.caller c.args.row (g.C.Freight.goods c.take_out.result) l left c.take_out.ensures.came);
      settles = rw c.take_out.ensures.kept (settles_row k k.depth c.args.row (Locked c.args.caller) None l (λ e. absurd (cc)));
    }
