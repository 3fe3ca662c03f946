use Rattle.std.proofs.Common.{rules, ◌≡◌, ◌≢◌, ◌<◌, ◌≤◌, ◌+◌, ◌-◌, ◌/◌, ℕ, Bool, true, false, Option, Some, None, List, [], ◌∷◌, ◌++◌, length, get_or, set, sym, ap, ◌∙◌, subst, refl, arith}
use Rattle.acts_core.specs.Calls.{CallPut, IsAt}
use Rattle.acts_core.specs.Kept.{Kept, KeptRow, at_home}
use Rattle.acts_core.specs.Load.{Load}
use Rattle.acts_core.specs.Serves.{Serves}
use Rattle.acts_core.specs.Sight as sight
use Rattle.queue_model.specs.declared.rows.RowState.TheVariants.{Available, Locked}
use Rattle.kept_rows.specs.Rows.{kept_at, with_row, row_in, CameOut}
use Rattle.kept_rows.proofs.Keeping.{get_or_any}
use Rattle.lastval_core.specs.Lasts.{KeepsLast, key_at}
use Rattle.lastval_core.proofs.Over.{Done, over_held, over_taken, older_inside, longer}
use Rattle.lastval_core.proofs.entering.enter_over.Goals as goal

pub state-requires : goal.state-requires
state-requires g c =
    let older : c.index-older.result.now ≡ get_or c.args.lasts.now.items c.args.index 0 = c.index-older.ensures ∙ get_or_any c.args.lasts.now.items c.args.index _ 0 c.requires.place.inside in
    subst (λ (n : ℕ). n < length c.put-row.new.self.rows) (sym older) (older_inside c.args.rows.now c.put-row.new.self c.args.caller c.put-row.result c.put-row.new.self.spare c.args.slip (g.C.Freight.goods c.args.cargo) c.args.lasts.now.items c.args.outdated.now.items c.args.index c.put-row.ensures.kept c.requires.keeps c.requires.key c.requires.place c.put-row.ensures.serves)

pub returns-then-not-is_available : goal.returns-then-not-is_available
returns-then-not-is_available g c =
    let older : c.index-older.result.now ≡ get_or c.args.lasts.now.items c.args.index 0 = c.index-older.ensures ∙ get_or_any c.args.lasts.now.items c.args.index _ 0 c.requires.place.inside in
    let off : (kept_at c.put-row.new.self (get_or c.args.lasts.now.items c.args.index 0)).state ≢ Available = λ e. let bad : false ≡ true = sym c.if-not-is_available.true ∙ c.is_available.ensures.1 (c.state.ensures ∙ (ap (λ (n : ℕ). (kept_at c.put-row.new.self n).state) older ∙ e)) in absurd (cc) in
    let done = over_held c.args.rows.now c.put-row.new.self c.args.caller c.put-row.result c.put-row.new.self.spare c.args.slip (g.C.Freight.goods c.args.cargo) c.args.lasts.now.items c.args.outdated.now.items c.args.index c.put-row.ensures.kept c.requires.keeps c.requires.key c.requires.place c.put-row.ensures.serves off in
    let row : length c.args.rows.now.rows ≡ c.put-row.result = sym c.put-row.ensures.row in
    let long = done.long in
    let spare = c.put-row.ensures.spare in
    let cap = c.push_reserved.ensures.capacity in
    let a = c.requires.room.lasts_fit in
    let b = c.requires.room.marks_fit in
    record {
      serves = done.serves;
      keeps = subst (λ (z : ℕ × List Bool × ℕ). KeepsLast c.put-row.new.self (set c.args.lasts.now.items c.args.index z.0) (set z.1 z.2 true)) (λ t. (row t, sym c.push_reserved.ensures.items t, sym older t)) done.keeps;
      room = record { lasts_fit = omega arith; marks_fit = omega arith };
    }

pub take_out-displaced-requires : goal.take_out-displaced-requires
take_out-displaced-requires g c =
    let older : c.index-older.result.now ≡ get_or c.args.lasts.now.items c.args.index 0 = c.index-older.ensures ∙ get_or_any c.args.lasts.now.items c.args.index _ 0 c.requires.place.inside in
    let free : (kept_at c.put-row.new.self (get_or c.args.lasts.now.items c.args.index 0)).state ≡ Available = ap (λ (n : ℕ). (kept_at c.put-row.new.self n).state) (sym older) ∙ (sym c.state.ensures ∙ c.is_available.ensures.0 c.if-not-is_available.false) in
    record { row = subst (λ (n : ℕ). n < length c.put-row.new.self.rows) (sym older) (older_inside c.args.rows.now c.put-row.new.self c.args.caller c.put-row.result c.put-row.new.self.spare c.args.slip (g.C.Freight.goods c.args.cargo) c.args.lasts.now.items c.args.outdated.now.items c.args.index c.put-row.ensures.kept c.requires.keeps c.requires.key c.requires.place c.put-row.ensures.serves); home = ap at_home (sym c.state.ensures ∙ c.is_available.ensures.0 c.if-not-is_available.false) }

pub returns : goal.returns
returns g c =
    let older : c.index-older.result.now ≡ get_or c.args.lasts.now.items c.args.index 0 = c.index-older.ensures ∙ get_or_any c.args.lasts.now.items c.args.index _ 0 c.requires.place.inside in
    let free : (kept_at c.put-row.new.self (get_or c.args.lasts.now.items c.args.index 0)).state ≡ Available = ap (λ (n : ℕ). (kept_at c.put-row.new.self n).state) (sym older) ∙ (sym c.state.ensures ∙ c.is_available.ensures.0 c.if-not-is_available.false) in
    let came = subst (λ (n : ℕ). CameOut (kept_at c.put-row.new.self n) (Some (g.C.Freight.goods c.take_out-displaced.result))) older c.take_out-displaced.ensures.came in
    let done = over_taken c.args.rows.now c.put-row.new.self c.args.caller c.put-row.result c.put-row.new.self.spare c.args.slip (g.C.Freight.goods c.args.cargo) c.args.lasts.now.items c.args.outdated.now.items c.args.index c.put-row.ensures.kept c.requires.keeps c.requires.key c.requires.place c.put-row.ensures.serves (g.C.Freight.goods c.take_out-displaced.result) free came in
    let row : length c.args.rows.now.rows ≡ c.put-row.result = sym c.put-row.ensures.row in
    let kept : c.take_out-displaced.new.self ≡ with_row c.put-row.new.self (get_or c.args.lasts.now.items c.args.index 0) (row_in (Locked c.args.caller) None (kept_at c.put-row.new.self (get_or c.args.lasts.now.items c.args.index 0))) =
    c.take_out-displaced.ensures.kept ∙ ap (λ (n : ℕ). with_row c.put-row.new.self n (row_in (Locked c.args.caller) None (kept_at c.put-row.new.self n))) older in
    let long : length c.take_out-displaced.new.self.rows ≡ length c.args.rows.now.rows + 1 = ap (λ (z : Kept). length z.rows) kept ∙ done.long in
    let same : c.take_out-displaced.new.self.spare ≡ c.put-row.new.self.spare = ap (λ (z : Kept). z.spare) kept in
    let spare = c.put-row.ensures.spare in
    let cap = c.push_reserved.ensures.capacity in
    let a = c.requires.room.lasts_fit in
    let b = c.requires.room.marks_fit in
    record {
      serves = subst (λ (z : Kept × ℕ). Serves sight.LastValue c.args.rows.now z.0 c.args.caller (CallPut c.args.slip (g.C.Freight.goods c.args.cargo)) (IsAt c.put-row.result (Some (z.1, g.C.Freight.goods c.take_out-displaced.result)))) (λ t. (sym kept t, sym older t)) done.serves;
      keeps = subst (λ (z : Kept × ℕ × List Bool × ℕ). KeepsLast z.0 (set c.args.lasts.now.items c.args.index z.1) (set z.2 z.3 true)) (λ t. (sym kept t, row t, sym c.push_reserved.ensures.items t, sym older t)) done.keeps;
      room = record { lasts_fit = omega arith; marks_fit = omega arith };
    }
