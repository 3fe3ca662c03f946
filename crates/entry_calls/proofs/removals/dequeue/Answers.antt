use Rattle.entry_calls.proofs.Dequeuing.{held_later, can_give, dequeues}
use Rattle.entry_calls.proofs.removals.dequeue.Goals as goal

pub dequeue_row-requires-clause-held : goal.dequeue_row-requires-clause-held
dequeue_row-requires-clause-held g c = held_later c.args.pass.now c.look-size.new.pass c.args.row c.look-size.ensures.kept c.look-size.ensures.did c.requires.holder

pub give_back-requires-clause-reserved : goal.give_back-requires-clause-reserved
give_back-requires-clause-reserved g c =
    can_give c.args.pass.now c.look-size.new.pass c.dequeue_row.new.pass c.args.row c.look-size.result c.requires.serves.opening c.look-size.ensures.kept c.look-size.ensures.did c.requires.holder c.look-size.ensures.shows c.dequeue_row.ensures.kept c.dequeue_row.ensures.changed.0 c.dequeue_row.ensures.changed.1

pub returns-clause-called : goal.returns-clause-called
returns-clause-called g c = (
  c.look-size.result,
  dequeues c.args.entries.now c.args.pass.now c.look-size.new.pass c.dequeue_row.new.pass c.give_back.new.pass c.args.row c.look-size.result c.look-size.ensures.kept c.look-size.ensures.rights.0 c.look-size.ensures.rights.1 c.look-size.ensures.did c.requires.holder c.look-size.ensures.shows c.look-size.ensures.shown
      c.dequeue_row.ensures.kept c.dequeue_row.ensures.rights.0 c.dequeue_row.ensures.rights.1 c.dequeue_row.ensures.changed.0 c.dequeue_row.ensures.changed.1 c.give_back.ensures.kept c.give_back.ensures.rights.0 c.give_back.ensures.rights.1 c.give_back.ensures.did _ c.give_back.ensures.shown.1,
)
