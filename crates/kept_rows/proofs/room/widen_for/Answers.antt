use Rattle.std.proofs.Common.{rules, ◌≡◌, ◌≢◌, ◌<◌, ◌≤◌, ◌+◌, ◌-◌, ℕ, Bool, true, false, Option, Some, None, List, [], ◌∷◌, ◌++◌, length, get_or, set, sym, ap, ◌∙◌, subst, refl, arith}
use mathlib.Core.Logic.{dite}
use native.Mathlib.Decide.{dec_lt}
use Rattle.std.proofs.Common.{zero, suc}
use Rattle.row_order.specs.Order.{ranks}
use Rattle.kept_rows.specs.Keeping.{Widened}
use Rattle.kept_rows.proofs.Keeping.{nodes_back}
use Rattle.kept_rows.proofs.room.widen_for.Goals as goal

past : (xs : List ℕ) (i : ℕ) → length xs ≤ i → get_or xs i 0 ≡ 0
past [] i l = refl
past (x ∷ xs) zero l = absurd (omega arith)
past (x ∷ xs) (suc i) l = past xs i (omega arith)

pub returns-in_ok-reserve-clause-ok : goal.returns-in_ok-reserve-clause-ok
returns-in_ok-reserve-clause-ok g c =
    let tree = c.widen.ensures.tree in
    let long = tree.leafed.long in
    let padded = c.pad.ensures.long in
    let was = c.requires.tree.leafed.long in
    let back = nodes_back c.pad.new.nodes.items c.widen.new.nodes c.pad.new.nodes.len c.pad.new.nodes.ok.0 (omega arith) in (
      c.in-Some.ensures.rows,
      subst (Widened (ranks g.O.Ranking.by_key c.args.slots.now) (length c.args.slots.now) c.args.width c.args.nodes.now.items c.in-Some.wide) (sym back)
          (record {
            tree = tree;
            power = c.in-Some.ensures.power;
            same = λ r l. dite (dec_lt r c.args.width)
                (λ (low : r < c.args.width). c.widen.ensures.moved r low ∙ (ap (λ (z : List ℕ). get_or z (c.args.width + r) 0) c.deref_mut.ensures.value ∙ (c.pad.ensures.same (c.args.width + r) ∙ ap (λ (z : List ℕ). get_or z (c.args.width + r) 0) c.reserve.ensures.items)))
                (λ (high : ¬ (r < c.args.width)). c.widen.ensures.empty r (omega arith) ∙ sym (past c.args.nodes.now.items (c.args.width + r) (omega arith)));
          }),
    )
