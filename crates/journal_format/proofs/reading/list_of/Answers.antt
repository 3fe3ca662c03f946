use Rattle.std.proofs.Common.{List, Ok, ap, sym, ◌∙◌}
use Rattle.std.proofs.lemmas.Result.{err_from_is_err_and}
use Rattle.journal_format.specs.Spelling.{Txn as Listed}
use Rattle.journal_format.specs.Reading.{many_at, txn_at}
use Rattle.journal_format.proofs.ManyLoop.{goes_on, ends, is_done}
use Rattle.journal_format.proofs.reading.list_of.Goals as goal

pub returns-in_err-txn : goal.returns-in_err-txn
returns-in_err-txn c =
    let p = err_from_is_err_and c.from_residual-in_err-txn.result c.from_residual-in_err-txn.ensures.1 in
    rw (p.1, p.2) (ends txn_at c.in_err-txn.field-0.0 c.loop.txns.items c.args.count c.loop.counter c.loop.rest.now (many_at txn_at c.args.count c.args.bytes.now) c.loop-test.true c.in_err-txn.ensures c.loop.invariant)

pub loop-preserved : goal.loop-preserved
loop-preserved c =
    let pushed = c.in_ok-push.ensures.items in
    rw pushed (goes_on txn_at c.loop.txns.items c.args.count c.loop.counter c.loop.rest.now c.in_ok-txn.txn c.in_ok-txn.after.now (many_at txn_at c.args.count c.args.bytes.now) c.loop-test.true c.in_ok-txn.ensures c.loop.invariant)

pub returns : goal.returns
returns c = is_done txn_at c.loop.txns.items c.args.count c.loop.counter c.loop.rest.now (many_at txn_at c.args.count c.args.bytes.now) c.loop-test.false c.loop.invariant ∙ ap (λ (l : List Listed). Ok (l, c.loop.rest.now)) (sym c.from_vec.ensures)
