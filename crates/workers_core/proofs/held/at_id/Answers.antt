use Rattle.std.proofs.Common.{◌≡◌, sym, ◌∙◌, arith, subst, ℕ, find, take, None, suc, ◌+◌}
use Rattle.line_core.specs.Hands.{is_this}
use Rattle.workers_core.specs.Held.{hand_of, hands_of}
use Rattle.workers_core.proofs.Lists.{hand_got, find_at, find_next, same_key}
use Rattle.workers_core.proofs.held.at_id.Goals as goal

pub returns-then-has_id-clause-meant : goal.returns-then-has_id-clause-meant
returns-then-has_id-clause-meant c =
    let hands = hands_of c.args.held.now in
    let at = hand_got c.args.held.now c.loop-i.i c.index-held-i.result (omega arith) c.index-held-i.is in
    (hand_of c.index-held-i.result, at, find_at (is_this c.args.queue c.args.id) hands c.loop-i.i _ c.loop-i.invariant.1 at (sym c.has_id.ensures ∙ c.if-has_id.true), (same_key (hand_of c.index-held-i.result) (hand_of c.index-held-i.result) c.args.queue c.args.id (sym c.has_id.ensures ∙ c.if-has_id.true)).0)

pub loop-i-preserved : goal.loop-i-preserved
loop-i-preserved c =
    let hands = hands_of c.args.held.now in
    let at = hand_got c.args.held.now c.loop-i.i c.index-held-i.result (omega arith) c.index-held-i.is in
    (omega arith, subst (λ (n : ℕ). find (is_this c.args.queue c.args.id) (take n hands) ≡ None) (let step : suc c.loop-i.i ≡ c.loop-i.i + 1 = omega arith in step) (find_next (is_this c.args.queue c.args.id) hands c.loop-i.i _ c.loop-i.invariant.1 at (sym c.has_id.ensures ∙ c.if-has_id.false)))
