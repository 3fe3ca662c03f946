use Rattle.std.proofs.Common.{sym, ◌∙◌}
use Rattle.acts_core.proofs.Passes.{pass_reserves}
use Rattle.overflow_core.proofs.Deciding.{admits, refuses}
use Rattle.overflow_core.proofs.admission.admit.Goals as goal

pub give_back-requires-clause-reserved : goal.give_back-requires-clause-reserved
give_back-requires-clause-reserved g c =
    let sight = g.Q.SharedQueue.sight in
    let laws = g.met.Q.SharedQueue g.world.𝓛 g.world.𝓜 g.world.𝓡 ((λ s x. x), (λ x. x), (λ x. x), λ x. x) in
    let opens = laws.opens c.args.queue.now c.args.pass.now c.requires.serves in
    pass_reserves (g.Q.SharedQueue.build c.args.queue.now) (sight c.args.pass.now) (sight c.reserve-depth.new.pass) c.args.size c.reserve-depth.result opens.opening c.reserve-depth.ensures.called

pub returns-then-is_refusal-clause-admits : goal.returns-then-is_refusal-clause-admits
returns-then-is_refusal-clause-admits g c =
    let sight = g.Q.SharedQueue.sight in
    refuses (g.Q.SharedQueue.build c.args.queue.now) (sight c.args.pass.now) (sight c.reserve-depth.new.pass) (sight c.give_back.new.pass) c.args.limits.now
    c.args.stopped.now c.judge-verdict.new.stopped c.args.persistent c.args.size c.judge-verdict.result c.reserve-depth.result
    c.reserve-depth.ensures.called c.give_back.ensures.called c.judge-verdict.ensures (sym c.is_refusal.ensures ∙ c.if-is_refusal.true)

pub returns-else-is_refusal-clause-admits : goal.returns-else-is_refusal-clause-admits
returns-else-is_refusal-clause-admits g c =
    let sight = g.Q.SharedQueue.sight in
    admits (g.Q.SharedQueue.build c.args.queue.now) (sight c.args.pass.now) (sight c.reserve-depth.new.pass) c.args.limits.now
    c.args.stopped.now c.judge-verdict.new.stopped c.args.persistent c.args.size c.judge-verdict.result c.reserve-depth.result
    c.reserve-depth.ensures.called c.judge-verdict.ensures (sym c.is_refusal.ensures ∙ c.if-is_refusal.false)
