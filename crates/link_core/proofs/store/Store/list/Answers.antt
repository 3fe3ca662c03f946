use Rattle.std.proofs.Common.{arith}
use Rattle.link_core.proofs.Ringing.{linked_low}
use Rattle.link_core.proofs.store.Store.list.Goals as goal

pub overflow_cast-result : goal.overflow_cast-result
overflow_cast-result c =
    let k = c.requires.kept in
    let low = linked_low _ k.queue c.args.row k.stands c.requires.row in
    omega (arith, c.draft.ensures, low.0)
