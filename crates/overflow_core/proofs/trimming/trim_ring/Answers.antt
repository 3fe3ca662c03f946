use Rattle.std.proofs.Common.{refl, sym, ◌∙◌, inl, inr}
use Rattle.acts_core.specs.Calls.{IsGot, IsEmpty}
use Rattle.overflow_core.proofs.Deciding.{fits, trims}
use Rattle.overflow_core.proofs.trimming.trim_ring.Goals as goal

pub returns-then-not-is_ring-clause-trimmed : goal.returns-then-not-is_ring-clause-trimmed
returns-then-not-is_ring-clause-trimmed g c = inl (sym c.is_ring.ensures ∙ c.if-not-is_ring.true, refl)

pub returns-then-not-is_beyond-clause-trimmed : goal.returns-then-not-is_beyond-clause-trimmed
returns-then-not-is_beyond-clause-trimmed g c =
    let sight = g.Q.SharedQueue.sight in
    inr (fits (g.Q.SharedQueue.build c.args.queue.now) (sight c.args.pass.now) (sight c.depth-depth.new.pass) c.args.limits.now c.depth-depth.result
    (sym c.is_ring.ensures ∙ c.if-not-is_ring.false) (sym c.is_beyond.ensures ∙ c.if-not-is_beyond.true) c.depth-depth.ensures.called)

pub returns-in-Got-clause-trimmed : goal.returns-in-Got-clause-trimmed
returns-in-Got-clause-trimmed g c =
    let sight = g.Q.SharedQueue.sight in
    let oldest = c.in-Got.ensures.called in (
      oldest.0,
      trims (g.Q.SharedQueue.build c.args.queue.now) (sight c.args.pass.now) (sight c.depth-depth.new.pass) (sight c.oldest.new.pass) c.args.limits.now
          (IsGot c.in-Got.row oldest.0 (g.C.Cargo.load c.in-Got.cargo)) c.depth-depth.result
          (sym c.is_ring.ensures ∙ c.if-not-is_ring.false) (sym c.is_beyond.ensures ∙ c.if-not-is_beyond.false) c.depth-depth.ensures.called oldest.1,
    )

pub returns-in-Empty-clause-trimmed : goal.returns-in-Empty-clause-trimmed
returns-in-Empty-clause-trimmed g c =
    let sight = g.Q.SharedQueue.sight in
    trims (g.Q.SharedQueue.build c.args.queue.now) (sight c.args.pass.now) (sight c.depth-depth.new.pass) (sight c.oldest.new.pass) c.args.limits.now
    IsEmpty c.depth-depth.result
    (sym c.is_ring.ensures ∙ c.if-not-is_ring.false) (sym c.is_beyond.ensures ∙ c.if-not-is_beyond.false) c.depth-depth.ensures.called c.in-Empty.ensures.called.1
