use Rattle.entry_calls.proofs.Running.{drafts_stored}
use Rattle.entry_calls.proofs.appends.write_down.Goals as goal

pub returns-then-value-ne0-clause-written : goal.returns-then-value-ne0-clause-written
returns-then-value-ne0-clause-written g c = λ d x unset.
    drafts_stored c.args.pass.now c.store_draft.new.pass c.args.draft.now.row c.args.value c.args.word d c.store_draft.ensures.kept c.store_draft.ensures.view x
