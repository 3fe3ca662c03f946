use Rattle.queue_model.proofs.Bells.{bell_rung, bell_taken}
use Rattle.queue_model.proofs.Owns.{own_acquired, own_locked, own_stolen, own_unlocked, own_released, own_dequeued, own_deleted, reserved_by_holder, own_reserving, own_dequeue_reserves, own_giving, own_enqueued, own_enqueued_last}
use Rattle.queue_model.proofs.laws.own_acts.Goals as goal

pub returns-clause-acquired : goal.returns-clause-acquired
returns-clause-acquired c = own_acquired

pub returns-clause-locked : goal.returns-clause-locked
returns-clause-locked c = own_locked

pub returns-clause-stolen : goal.returns-clause-stolen
returns-clause-stolen c = own_stolen

pub returns-clause-unlocked : goal.returns-clause-unlocked
returns-clause-unlocked c = own_unlocked

pub returns-clause-released : goal.returns-clause-released
returns-clause-released c = own_released

pub returns-clause-dequeued : goal.returns-clause-dequeued
returns-clause-dequeued c = own_dequeued

pub returns-clause-deleted : goal.returns-clause-deleted
returns-clause-deleted c = own_deleted

pub returns-clause-holder : goal.returns-clause-holder
returns-clause-holder c = reserved_by_holder

pub returns-clause-reserve : goal.returns-clause-reserve
returns-clause-reserve c = own_reserving

pub returns-clause-dequeue : goal.returns-clause-dequeue
returns-clause-dequeue c = own_dequeue_reserves

pub returns-clause-give_back : goal.returns-clause-give_back
returns-clause-give_back c = own_giving

pub returns-clause-enqueue : goal.returns-clause-enqueue
returns-clause-enqueue c q h r slip content origin n sound can = own_giving q h slip.size sound can.reserved

pub returns-clause-enqueued : goal.returns-clause-enqueued
returns-clause-enqueued c = own_enqueued

pub returns-clause-last : goal.returns-clause-last
returns-clause-last c = own_enqueued_last

pub returns-clause-rung : goal.returns-clause-rung
returns-clause-rung c = bell_rung

pub returns-clause-taken : goal.returns-clause-taken
returns-clause-taken c = bell_taken
