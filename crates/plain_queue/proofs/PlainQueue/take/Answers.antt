use Rattle.std.proofs.Common.{refl, sym, ◌∙◌}
use Rattle.queue_model.proofs.Positions.{find_none}
use Rattle.plain_queue.proofs.Answered.{took, available_row}
use Rattle.plain_queue.proofs.PlainQueue.take.Goals as goal

pub returns-in_default : goal.returns-in_default
returns-in_default c =
    let at = rw c.deref.ensures.value at c.first_available.ensures in
    (rw (← c.self.view_is) (find_none available_row c.self.inside.rows.items (sym at ∙ c.in_default.is)), refl)

pub invariant_of-self : goal.invariant_of-self
invariant_of-self c =
    let at = rw c.deref.ensures.value at c.first_available.ensures in
    (took _ _ _ c.in-Some.index c.args.caller _ c.self.invariant c.index_mut-row.ensures.value (sym at ∙ c.in-Some.is)).0

pub returns : goal.returns
returns c =
    let at = rw c.deref.ensures.value at c.first_available.ensures in
    let t = took _ _ _ c.in-Some.index c.args.caller _ c.self.invariant c.index_mut-row.ensures.value (sym at ∙ c.in-Some.is) in
    rw (← c.self.view_is) (c.index_mut-row.result.now, t.1, refl, t.2)
