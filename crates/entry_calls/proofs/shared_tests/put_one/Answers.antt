use Rattle.std.proofs.Common.{[]}
use Rattle.entry_calls.proofs.Working.{may_put}
use Rattle.entry_calls.proofs.shared_tests.put_one.Goals as goal

pub enqueue-requires-clause-may : goal.enqueue-requires-clause-may
enqueue-requires-clause-may c =
    let s = c.slip.ensures in
    may_put c.args.entries.now c.args.pass.now c.reserve.new.pass c.slip.result (record { id = c.args.id; size = 0; count = 0; content = []; origin = [] }) c.reserve.result c.requires.serves c.reserve.ensures.serves c.reserve.ensures.called
    c.requires.shape.0 c.requires.shape.1 s.size s.mask s.list s.key s.id s.size
