use Rattle.std.proofs.Common.{rules, ◌≡◌, ◌≢◌, ◌<◌, ◌≤◌, ◌+◌, ◌-◌, ◌/◌, ℕ, Bool, true, false, Option, Some, None, List, [], ◌∷◌, ◌++◌, length, get_or, set, sym, ap, ◌∙◌, subst, refl, arith}
use mathlib.Core.Logic.{dite}
use native.Mathlib.Decide.{ℕ_discrete}
use Rattle.queue_model.specs.Order.{KeyBefore}
use Rattle.row_order.proofs.Keys.{less_before, equal_same, greater_after, key_trans}
use Rattle.lastval_core.specs.Lasts.{key_at}
use Rattle.lastval_core.proofs.search.place_of.Goals as goal

pub halving-init : goal.halving-init
halving-init g c = record { order = omega arith; inside = omega arith; below = λ j a. absurd (omega arith); above = λ j a b. absurd (omega arith) }

pub returns-in-Equal : goal.returns-in-Equal
returns-in-Equal g c =
    let i = c.halving.invariant in
    let less = c.halving-test.true in
    let inside = i.inside in
    record { inside = omega arith; same = sym c.key.ensures ∙ equal_same c.key.result.now c.args.key.now (sym c.compare.ensures ∙ c.in-Equal.is) }

pub halving-preserved-in-Less : goal.halving-preserved-in-Less
halving-preserved-in-Less g c =
    let i = c.halving.invariant in
    let less : c.halving.low < c.halving.high = c.halving-test.true in
    let inside = i.inside in
    let mid : ℕ = c.halving.low + (c.halving.high - c.halving.low) / 2 in
    let here : KeyBefore (key_at c.args.rows.now (get_or c.args.lasts.now (c.halving.low + (c.halving.high - c.halving.low) / 2) 0)) c.args.key.now =
    subst (λ (z : Option (List ℕ)). KeyBefore z c.args.key.now) c.key.ensures (less_before c.key.result.now c.args.key.now (sym c.compare.ensures ∙ c.in-Less.is)) in
    record {
      order = omega arith;
      inside = i.inside;
      below = λ j a. dite (ℕ_discrete j (c.halving.low + (c.halving.high - c.halving.low) / 2))
          (λ (e : j ≡ c.halving.low + (c.halving.high - c.halving.low) / 2). subst (λ (n : ℕ). KeyBefore (key_at c.args.rows.now (get_or c.args.lasts.now n 0)) c.args.key.now) (sym e) here)
          (λ (ne : ¬ (j ≡ c.halving.low + (c.halving.high - c.halving.low) / 2)). key_trans (key_at c.args.rows.now (get_or c.args.lasts.now j 0)) (key_at c.args.rows.now (get_or c.args.lasts.now (c.halving.low + (c.halving.high - c.halving.low) / 2) 0)) c.args.key.now (c.requires.sorted j (c.halving.low + (c.halving.high - c.halving.low) / 2) (omega arith) (omega arith)) here);
      above = i.above;
    }

pub halving-preserved : goal.halving-preserved
halving-preserved g c =
    let i = c.halving.invariant in
    let less : c.halving.low < c.halving.high = c.halving-test.true in
    let inside = i.inside in
    let here : KeyBefore c.args.key.now (key_at c.args.rows.now (get_or c.args.lasts.now (c.halving.low + (c.halving.high - c.halving.low) / 2) 0)) =
    subst (λ (z : Option (List ℕ)). KeyBefore c.args.key.now z) c.key.ensures (greater_after c.key.result.now c.args.key.now (sym c.compare.ensures ∙ c.in-Greater.is)) in
    record {
      order = omega arith;
      inside = omega arith;
      below = i.below;
      above = λ j a b. dite (ℕ_discrete j (c.halving.low + (c.halving.high - c.halving.low) / 2))
          (λ (e : j ≡ c.halving.low + (c.halving.high - c.halving.low) / 2). subst (λ (n : ℕ). KeyBefore c.args.key.now (key_at c.args.rows.now (get_or c.args.lasts.now n 0))) (sym e) here)
          (λ (ne : ¬ (j ≡ c.halving.low + (c.halving.high - c.halving.low) / 2)). key_trans c.args.key.now (key_at c.args.rows.now (get_or c.args.lasts.now (c.halving.low + (c.halving.high - c.halving.low) / 2) 0)) (key_at c.args.rows.now (get_or c.args.lasts.now j 0)) here (c.requires.sorted (c.halving.low + (c.halving.high - c.halving.low) / 2) j (omega arith) b));
    }

pub returns : goal.returns
returns g c = let i = c.halving.invariant in let end : c.halving.high ≤ c.halving.low = c.halving-test.false in let order = i.order in let inside = i.inside in record { inside = omega arith; below = i.below; above = λ j a b. i.above j (omega arith) b }
