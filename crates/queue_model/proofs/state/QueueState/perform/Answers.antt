-- each arm's fields are the state that its act leaves, which is sound
use Rattle.std.proofs.Common.{arith, ◌∙◌}
use Rattle.std.proofs.lemmas.Grind.{common_steps}
use Rattle.queue_model.proofs.Performing.{kept, can_at, acted_at, more_fits, size_fits, rung}
use Rattle.queue_model.proofs.state.QueueState.perform.Goals as goal

pub invariant_of-self : goal.invariant_of-self
invariant_of-self c = kept _ _ c.args.caller _ _ _ c.self.view_is c.in-Acq.is c.requires c.self.invariant (grind (arith, common_steps))

pub invariant_of-self-in-Lock : goal.invariant_of-self-in-Lock
invariant_of-self-in-Lock c = kept _ _ c.args.caller _ _ _ c.self.view_is c.in-Lock.is c.requires c.self.invariant (grind (arith, common_steps))

pub invariant_of-self-in-Steal : goal.invariant_of-self-in-Steal
invariant_of-self-in-Steal c = kept _ _ c.args.caller _ _ _ c.self.view_is c.in-Steal.is c.requires c.self.invariant (grind (arith, common_steps))

pub invariant_of-self-in-Del : goal.invariant_of-self-in-Del
invariant_of-self-in-Del c = kept _ _ c.args.caller _ _ _ c.self.view_is c.in-Del.is c.requires c.self.invariant (grind (arith, common_steps))

pub invariant_of-self-in-Unlock : goal.invariant_of-self-in-Unlock
invariant_of-self-in-Unlock c = kept _ _ c.args.caller _ _ _ c.self.view_is c.in-Unlock.is c.requires c.self.invariant (grind (arith, common_steps))

pub invariant_of-self-in-Rel : goal.invariant_of-self-in-Rel
invariant_of-self-in-Rel c = kept _ _ c.args.caller _ _ _ c.self.view_is c.in-Rel.is c.requires c.self.invariant (grind (arith, common_steps))

pub invariant_of-self-in-Deq : goal.invariant_of-self-in-Deq
invariant_of-self-in-Deq c = kept _ _ c.args.caller _ _ _ c.self.view_is c.in-Deq.is c.requires c.self.invariant (grind (arith, common_steps))

pub invariant_of-self-in-Reserve : goal.invariant_of-self-in-Reserve
invariant_of-self-in-Reserve c = kept _ _ c.args.caller _ _ _ c.self.view_is c.in-Reserve.is c.requires c.self.invariant (grind (arith, common_steps))

pub invariant_of-self-in-GiveBack : goal.invariant_of-self-in-GiveBack
invariant_of-self-in-GiveBack c = kept _ _ c.args.caller _ _ _ c.self.view_is c.in-GiveBack.is c.requires c.self.invariant (grind (arith, common_steps))

pub invariant_of-self-in-Enq : goal.invariant_of-self-in-Enq
invariant_of-self-in-Enq c = kept _ _ c.args.caller _ _ _ c.self.view_is c.in-Enq.is c.requires c.self.invariant (grind (arith, common_steps))

pub invariant_of-self-in-Take : goal.invariant_of-self-in-Take
invariant_of-self-in-Take c = kept _ _ c.args.caller _ _ _ c.self.view_is c.in-Take.is c.requires c.self.invariant (grind (arith, common_steps))

pub dequeue-requires-clause-fits : goal.dequeue-requires-clause-fits
dequeue-requires-clause-fits c =
    rw (c.deref_mut-in-Deq.ensures.value, c.reserve.ensures.items) (more_fits _ _ _ c.self.invariant (size_fits _ _ c.self.invariant))

pub add_reserved-requires-clause-fits : goal.add_reserved-requires-clause-fits
add_reserved-requires-clause-fits c =
    rw c.reserve-in-Reserve.ensures.items (more_fits _ _ _ c.self.invariant (can_at _ _ c.args.caller _ _ c.self.view_is c.in-Reserve.is c.requires).0)

pub invariant_of-self-in-Bell : goal.invariant_of-self-in-Bell
invariant_of-self-in-Bell c =
    let bell = rw c.deref.ensures.value at c.bell_for-bell.ensures in
    let bells = rw c.reserve-in-Bell.ensures.items at c.ring.ensures in
    kept _ _ c.args.caller _ _ _ c.self.view_is c.in-Bell.is c.requires c.self.invariant (rung _ c.args.caller c.in-Bell.row c.in-Bell.consumer _ _ bell bells)

pub returns-else-is_err-4-clause-ok : goal.returns-else-is_err-4-clause-ok
returns-else-is_err-4-clause-ok c =
    let bell = rw c.deref.ensures.value at c.bell_for-bell.ensures in
    let bells = rw c.reserve-in-Bell.ensures.items at c.ring.ensures in
    rung _ c.args.caller c.in-Bell.row c.in-Bell.consumer _ _ bell bells ∙ acted_at _ _ c.args.caller _ _ c.self.view_is c.in-Bell.is
