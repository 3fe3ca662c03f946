use Rattle.std.proofs.Common.{arith}
use Rattle.link_core.proofs.Ringing.{linked_low}
use Rattle.link_core.proofs.store.Store.bell_word.Goals as goal

pub overflow_mul-result : goal.overflow_mul-result
overflow_mul-result c =
    let k = c.requires.kept in
    let low = linked_low _ k.queue c.args.row k.stands c.requires.row in
    let few = k.stands.shaped.few_rows in
    record { fits = omega (arith, c.draft.ensures, low.1, few) }

pub overflow_add-result : goal.overflow_add-result
overflow_add-result c =
    let k = c.requires.kept in
    let low = linked_low _ k.queue c.args.row k.stands c.requires.row in
    let few = k.stands.shaped.few_rows in
    record { fits = omega (arith, c.draft.ensures, low.1, low.2, few) }
