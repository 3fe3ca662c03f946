use Rattle.std.proofs.Common.{◌≡◌, ◌-◌, ℕ, suc, sym, ap, subst, ◌∙◌, arith, eq-eqb, ne_eqb, filter, drop, []}
use Rattle.workers_core.specs.declared.held.Kept.{Kept}
use Rattle.line_core.specs.Hands.{is_of}
use Rattle.workers_core.specs.Held.{hand_of, hands_of}
use Rattle.workers_core.proofs.Lists.{hand_got, last_at, filter_more}
use Rattle.workers_core.proofs.held.at_last.Goals as goal

pub returns-then-held-i-clause-meant : goal.returns-then-held-i-clause-meant
returns-then-held-i-clause-meant c =
    let hands = hands_of c.args.held.now in
    let at = hand_got c.args.held.now (c.loop-i.i - 1) c.index-held-i.result (omega arith) c.index-held-i.is in
    let step : c.loop-i.i ≡ suc (c.loop-i.i - 1) = omega arith in
    let same = ap (λ (k : Kept). k.queue) c.index-held-i.is ∙ c.if-held-i.true in
    (hand_of c.index-held-i.result, at, last_at (is_of c.args.queue) hands (c.loop-i.i - 1) _ (subst (λ (n : ℕ). filter (is_of c.args.queue) (drop n hands) ≡ []) step c.loop-i.invariant.1) at (eq-eqb _ _ same), same)

pub loop-i-preserved : goal.loop-i-preserved
loop-i-preserved c =
    let hands = hands_of c.args.held.now in
    let at = hand_got c.args.held.now (c.loop-i.i - 1) c.index-held-i.result (omega arith) c.index-held-i.is in
    let step : c.loop-i.i ≡ suc (c.loop-i.i - 1) = omega arith in
    (omega arith, filter_more (is_of c.args.queue) hands (c.loop-i.i - 1) _ (subst (λ (n : ℕ). filter (is_of c.args.queue) (drop n hands) ≡ []) step c.loop-i.invariant.1) at (ne_eqb _ _ (λ e. c.if-held-i.false (sym (ap (λ (k : Kept). k.queue) c.index-held-i.is) ∙ e))))
