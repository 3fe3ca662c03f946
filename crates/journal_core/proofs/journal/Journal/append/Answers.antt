use Rattle.journal_format.specs.Batches.{lists_of}
use Rattle.journal_core.proofs.Moments.{on_ok_at, on_err_at, body_of}
use Rattle.journal_core.proofs.journal.Journal.append.Goals as goal

pub append_body-requires-clause-batch : goal.append_body-requires-clause-batch
append_body-requires-clause-batch g c = λ κs lives. (lists_of c.args.txns.now, body_of _ _ _ _ c.write_batch.ensures.batch c.clear.ensures.bytes c.write_batch.ensures.bytes c.as_slice.ensures)

pub returns-clause-moments : goal.returns-clause-moments
returns-clause-moments g c C A s =
    c.append_body.ensures.moments C A (lists_of c.args.txns.now) s (body_of _ _ _ _ c.write_batch.ensures.batch c.clear.ensures.bytes c.write_batch.ensures.bytes c.as_slice.ensures)

pub returns-clause-ok : goal.returns-clause-ok
returns-clause-ok g c =
    on_ok_at c.append_body.result _ _ (λ h C A s. h C A (lists_of c.args.txns.now) s (body_of _ _ _ _ c.write_batch.ensures.batch c.clear.ensures.bytes c.write_batch.ensures.bytes c.as_slice.ensures)) c.append_body.ensures.ok

pub returns-clause-gives : goal.returns-clause-gives
returns-clause-gives g c =
    on_ok_at c.append_body.result _ _ (λ h. h (lists_of c.args.txns.now) (body_of _ _ _ _ c.write_batch.ensures.batch c.clear.ensures.bytes c.write_batch.ensures.bytes c.as_slice.ensures)) c.append_body.ensures.gives

pub returns-clause-err : goal.returns-clause-err
returns-clause-err g c =
    on_err_at c.append_body.result _ _ (λ h C A s. h C A (lists_of c.args.txns.now) s (body_of _ _ _ _ c.write_batch.ensures.batch c.clear.ensures.bytes c.write_batch.ensures.bytes c.as_slice.ensures)) c.append_body.ensures.err
