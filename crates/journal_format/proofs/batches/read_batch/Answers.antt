use Rattle.std.proofs.Common.{◌-◌, length, take, drop, refl, subst, arith, Ok, Err}
use Rattle.message_core.specs.declared.numbers.ReadFault.{ReadFault}
use Rattle.message_core.specs.Reading.{Leaves}
use Rattle.journal_format.specs.Reading.{batch_at}
use Rattle.journal_format.proofs.Placed.{read_within, next_place, found_at, exact_at, only_at, not_at}
use Rattle.journal_format.proofs.batches.read_batch.Goals as goal

pub overflow_sub-next : goal.overflow_sub-next
overflow_sub-next c =
    omega (arith, next_place c.args.at c.args.bytes.now c.in-Ok.txns c.in-Ok.rest.now (λ i. omega (arith, c.type_inv.bytes i)) (read_within c.min-from.result c.args.at c.args.bytes.now (Ok (c.in-Ok.txns, c.in-Ok.rest.now)) c.min-from.ensures c.in-Ok.ensures))

pub returns-in-Ok-clause-found : goal.returns-in-Ok-clause-found
returns-in-Ok-clause-found c =
    found_at c.args.at (length c.args.bytes.now - length c.in-Ok.rest.now) c.args.bytes.now c.in-Ok.txns c.in-Ok.rest.now (λ i. omega (arith, c.type_inv.bytes i)) (read_within c.min-from.result c.args.at c.args.bytes.now (Ok (c.in-Ok.txns, c.in-Ok.rest.now)) c.min-from.ensures c.in-Ok.ensures) refl

pub returns-in-Ok-clause-only : goal.returns-in-Ok-clause-only
returns-in-Ok-clause-only c = λ ts next is.
    only_at c.args.at next (length c.args.bytes.now - length c.in-Ok.rest.now) c.args.bytes.now ts c.in-Ok.txns c.in-Ok.rest.now (read_within c.min-from.result c.args.at c.args.bytes.now (Ok (c.in-Ok.txns, c.in-Ok.rest.now)) c.min-from.ensures c.in-Ok.ensures) refl is

pub returns-in-Ok-clause-exact : goal.returns-in-Ok-clause-exact
returns-in-Ok-clause-exact c =
    exact_at c.args.at (length c.args.bytes.now - length c.in-Ok.rest.now) c.args.bytes.now c.in-Ok.txns c.in-Ok.rest.now (λ i. omega (arith, c.type_inv.bytes i)) (read_within c.min-from.result c.args.at c.args.bytes.now (Ok (c.in-Ok.txns, c.in-Ok.rest.now)) c.min-from.ensures c.in-Ok.ensures) refl

pub returns-in-Err-Left-clause-only : goal.returns-in-Err-Left-clause-only
returns-in-Err-Left-clause-only c = λ ts next is.
    not_at c.args.at next c.in-Err-Left.left c.args.bytes.now ts (read_within c.min-from.result c.args.at c.args.bytes.now (Err c.in-Err-Left.left) c.min-from.ensures (subst (λ (f : ReadFault). Leaves f (batch_at (take (length c.args.bytes.now - c.min-from.result) (drop c.min-from.result c.args.bytes.now)))) c.in-Err-Left.field-0-is c.in-Err-Left.ensures)) is
